-- Facts listed one list of arguments after another, until there are enough.
use Rattle.std.proofs.Common.{◌≡◌, ℕ, ◌+◌, ◌<◌, ◌≤◌, zero, suc, true, false, cond, List, [], ◌∷◌, ◌++◌, drop, flat_map, get_or, length, map, take, not, refl, ap, sym, subst, ◌∙◌, append_assoc, arith}
use Rattle.std.proofs.lemmas.List.{append-nil, drop_more, length_push, map-append, take-append-le}
use Rattle.std.proofs.lemmas.List.Elements.{filter-append}
use Rattle.ps_world.specs.Knowledge.{is_known}
use Rattle.ps_world.specs.declared.facts.Fact.{Fact}
use Rattle.ps_world.specs.declared.known.Knowledge.{Knowledge}
use Rattle.ps_world.specs.declared.names.Name.{Name}
use Rattle.ps_marks.specs.Candidates.{facts_from, unknown}

-- ---- the first of several

pub take_twice : {A : Type 0} (n : ℕ) (xs ys : List A) → take n (take n xs ++ ys) ≡ take n (xs ++ ys)
take_twice zero xs ys = refl
take_twice (suc n) [] ys = refl
take_twice (suc n) (x ∷ xs) ys = ap (λ l. x ∷ l) (take_twice n xs ys)

pub few_taken : {A : Type 0} (n : ℕ) (xs : List A) → length (take n xs) ≤ n
few_taken zero xs = omega arith
few_taken (suc n) [] = omega arith
few_taken (suc n) (x ∷ xs) = let few = few_taken n xs in omega (arith, few)

pub take_few : {A : Type 0} (n : ℕ) (xs : List A) → length xs ≤ n → take n xs ≡ xs
take_few zero [] l = refl
take_few zero (x ∷ xs) l = absurd (omega (arith, l))
take_few (suc n) [] l = refl
take_few (suc n) (x ∷ xs) l = ap (λ l. x ∷ l) (take_few n xs (omega (arith, l)))

-- where there are enough, what follows adds nothing
pub enough_taken : {A : Type 0} (n : ℕ) (xs ys whole : List A) → length xs ≤ n → n ≤ length xs → take n (xs ++ ys) ≡ whole → xs ≡ whole
enough_taken n xs ys whole few many e = sym (take_few n xs few) ∙ sym (take-append-le n xs ys many) ∙ e

pub all_taken : {A : Type 0} (n : ℕ) (xs whole : List A) → length xs ≤ n → take n (xs ++ []) ≡ whole → xs ≡ whole
all_taken n xs whole few e = sym (take_few n xs few) ∙ ap (take n) (sym (append-nil xs)) ∙ e

-- ---- one fact more

pub new_listed : (m : ℕ) (k : Knowledge) (f g : Fact) (old new : List Fact) → f ≡ g → is_known k f ≡ false → length old < m → new ≡ old ++ f ∷ [] → new ≡ take m (old ++ unknown k (g ∷ []))
new_listed m k f g old new same absent few is =
    let P : Fact → Type 0 = λ h. is_known k h ≡ false in
    let one : unknown k (g ∷ []) ≡ g ∷ [] = ap (λ b. cond (not b) (g ∷ []) []) (subst P same absent) in
    let long : length (old ++ g ∷ []) ≤ m = omega (arith, length_push old g, few) in
    is ∙ ap (λ h. old ++ h ∷ []) same ∙ sym (take_few m (old ++ g ∷ []) long) ∙ ap (λ l. take m (old ++ l)) (sym one)

pub known_listed : (m : ℕ) (k : Knowledge) (f g : Fact) (old : List Fact) → f ≡ g → is_known k f ≡ true → length old ≤ m → old ≡ take m (old ++ unknown k (g ∷ []))
known_listed m k f g old same there few =
    let P : Fact → Type 0 = λ h. is_known k h ≡ true in
    let none : unknown k (g ∷ []) ≡ [] = ap (λ b. cond (not b) (g ∷ []) []) (subst P same there) in
    sym (take_few m old few) ∙ ap (take m) (sym (append-nil old)) ∙ ap (λ l. take m (old ++ l)) (sym none)

-- ---- facts with one name more

module _ (k : Knowledge) (head : Name) (first : List Name) where
  facts_from-before : (n : Name) (lists : List (List Name)) → facts_from head first (map (λ args. n ∷ args) lists) ≡ facts_from head (first ++ n ∷ []) lists
  facts_from-before n [] = refl
  facts_from-before n (args ∷ lists) = rw (append_assoc first (n ∷ []) args, facts_from-before n lists) refl

  unknown_both : (xs ys : List (List Name)) → unknown k (facts_from head first (xs ++ ys)) ≡ unknown k (facts_from head first xs) ++ unknown k (facts_from head first ys)
  unknown_both xs ys =
      ap (unknown k) (map-append (λ args. let f : Fact = record { head = head; args = first ++ args } in f) xs ys)
      ∙ filter-append (λ f. not (is_known k f)) (facts_from head first xs) (facts_from head first ys)

  -- what is still to come, after the facts that one more name begins
  pub more_listed : (m : ℕ) (lists : List (List Name)) (names : List Name) (i : ℕ) (none : Name) (done more whole : List Fact) → i < length names
      → more ≡ take m (done ++ unknown k (facts_from head (first ++ get_or names i none ∷ []) lists))
      → take m (done ++ unknown k (facts_from head first (flat_map (λ n. map (λ args. n ∷ args) lists) (drop i names)))) ≡ whole
      → take m (more ++ unknown k (facts_from head first (flat_map (λ n. map (λ args. n ∷ args) lists) (drop (i + 1) names)))) ≡ whole
  more_listed m lists names i none done more whole within is so_far =
      let n = get_or names i none in
      let F : Name → List (List Name) = λ n. map (λ args. n ∷ args) lists in
      let here = unknown k (facts_from head (first ++ n ∷ []) lists) in
      let later = unknown k (facts_from head first (flat_map F (drop (i + 1) names))) in
      let split : unknown k (facts_from head first (flat_map F (drop i names))) ≡ here ++ later =
      ap (λ l. unknown k (facts_from head first (flat_map F l))) (drop_more names i none within)
      ∙ unknown_both (F n) (flat_map F (drop (i + 1) names))
      ∙ ap (λ l. unknown k l ++ later) (facts_from-before n lists) in
      ap (λ l. take m (l ++ later)) is
      ∙ take_twice m (done ++ here) later
      ∙ ap (take m) (append_assoc done here later)
      ∙ ap (λ l. take m (done ++ l)) (sym split)
      ∙ so_far
