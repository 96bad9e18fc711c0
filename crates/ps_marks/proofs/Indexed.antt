-- One more fact with a place.
use Rattle.std.proofs.Common.{◌≡◌, ◌⊎◌, ℕ, zero, suc, Bool, true, false, cond, ◌||◌, List, [], ◌∷◌, ◌++◌, Option, Some, None, is_some, length, slice_get, inl, inr, refl, ap, sym, ◌∙◌}
use Rattle.std.specs.BTreeMap.{is_at}
use Rattle.std.specs.Cmp.{both_ways}
use Rattle.std.specs.Map.{lookup}
use Rattle.std.specs.Option.{option_or}
use Rattle.std.proofs.lemmas.Bool.{or_left, or_right}
use Rattle.std.proofs.lemmas.List.{append-nil}
use Rattle.ps_world.specs.Facts.{fact_cmp}
use Rattle.ps_world.specs.Knowledge.{same_fact}
use Rattle.ps_world.specs.declared.facts.Fact.{Fact}
use Rattle.ps_action.proofs.Contained.{fact_itself, fact_same}
use Rattle.ps_domain.proofs.Lookups.{position-push}
use Rattle.ps_marks.specs.Closures.{is_in}
use Rattle.ps_marks.specs.Landmarks.{each_once}
use Rattle.ps_marks.specs.Rules.{AllIn, IsIndexed, IsOnce, place, with_fact}
use Rattle.ps_marks.proofs.Bridge.{at_place}
use Rattle.ps_marks.proofs.Placed.{no_place}

pub none_indexed : IsIndexed [] []
none_indexed = record { found = λ x. refl; once = λ i x e. absurd (cc) }

none_of : (o : Option ℕ) → is_some o ≡ false → o ≡ None
none_of None e = refl
none_of (Some i) e = absurd (cc)

or_none : (o : Option ℕ) → option_or o None ≡ o
or_none None = refl
or_none (Some i) = refl

-- ---- places of one fact more

module _ (atoms : List Fact) (f : Fact) (new : place atoms f ≡ None) where
  abbrev all : List Fact
  all = atoms ++ f ∷ []

  place_by : (x : Fact) (b : Bool) → same_fact x f ≡ b → option_or (place atoms x) (cond b (Some (length atoms)) None) ≡ cond b (Some (length atoms)) (place atoms x)
  place_by x true e =
      let none : place atoms x ≡ None = ap (place atoms) (fact_same x f e) ∙ new in
      ap (λ o. option_or o (Some (length atoms))) none
  place_by x false e = or_none (place atoms x)

  place_more : (x : Fact) → place all x ≡ cond (same_fact x f) (Some (length atoms)) (place atoms x)
  place_more x = position-push (same_fact x) atoms f ∙ place_by x (same_fact x f) refl

  stands : (xs : List Fact) (i : ℕ) (x : Fact) → slice_get (xs ++ f ∷ []) i ≡ Some x → (slice_get xs i ≡ Some x) ⊎ ((i ≡ length xs) × (f ≡ x))
  stands [] zero x e = inr (refl, cc)
  stands [] (suc i) x e = absurd (cc)
  stands (y ∷ xs) zero x e = inl e
  stands (y ∷ xs) (suc i) x e = elim (stands xs i x e) [ inl old ↦ inl old | inr w ↦ inr (ap suc w.0, w.1) ]

  once_by : (once : IsOnce atoms) (i : ℕ) (x : Fact) (b : Bool) → same_fact x f ≡ b → slice_get atoms i ≡ Some x → cond b (Some (length atoms)) (place atoms x) ≡ Some i
  once_by once i x true s e =
      let there : place atoms x ≡ Some i = once i x e in
      let none : place atoms x ≡ None = ap (place atoms) (fact_same x f s) ∙ new in
      absurd (cc)
  once_by once i x false s e = once i x e

  once_more : IsOnce atoms → IsOnce all
  once_more once i x e =
      elim (stands atoms i x e) [
        | inl old ↦ place_more x ∙ once_by once i x (same_fact x f) refl old
        | inr w ↦
            let same : same_fact x f ≡ true = ap (same_fact x) w.1 ∙ fact_itself x in
            place_more x ∙ ap (λ b. cond b (Some (length atoms)) (place atoms x)) same ∙ ap Some (sym w.0)
      ]

-- ---- a list whose facts get places, one after another

fact_turned : (f g : Fact) → same_fact f g ≡ same_fact g f
fact_turned f g = both_ways (same_fact f g) (same_fact g f) (λ e. ap (same_fact g) (fact_same f g e) ∙ fact_itself g) (λ e. ap (same_fact f) (fact_same g f e) ∙ fact_itself f)

-- a fact that had no place is put behind the others
pub indexed_more : (atoms : List Fact) (old new : List (Fact × ℕ)) (f : Fact) → IsIndexed atoms old → is_some (lookup (is_at (fact_cmp f)) old) ≡ false
    → ((q : Fact) → lookup (is_at (fact_cmp q)) new ≡ cond (is_at (fact_cmp f) q) (Some (length atoms)) (lookup (is_at (fact_cmp q)) old)) → IsIndexed (atoms ++ f ∷ []) new
indexed_more atoms old new f is absent put =
    let none : place atoms f ≡ None = sym (is.found f) ∙ none_of (lookup (same_fact f) old) absent in
    record {
      found = λ x.
          put x
          ∙ ap (λ b. cond b (Some (length atoms)) (lookup (same_fact x) old)) (fact_turned f x)
          ∙ ap (λ o. cond (same_fact x f) (Some (length atoms)) o) (is.found x)
          ∙ sym (place_more atoms f none x);
      once = once_more atoms f none is.once;
    }

got_in : (xs : List Fact) (i : ℕ) (x : Fact) → slice_get xs i ≡ Some x → is_in xs x ≡ true
got_in [] i x e = absurd (cc)
got_in (y ∷ xs) zero x e = let same : y ≡ x = cc in or_left (same_fact x y) (is_in xs x) (ap (same_fact x) same ∙ fact_itself x)
got_in (y ∷ xs) (suc i) x e = or_right (same_fact x y) (is_in xs x) (got_in xs i x e)

there_by : (atoms : List Fact) (f : Fact) (o : Option ℕ) → place atoms f ≡ o → is_some o ≡ true → is_in atoms f ≡ true
there_by atoms f None e h = absurd (cc)
there_by atoms f (Some i) e h = got_in atoms i f (at_place atoms f i e)

-- a fact that has a place isn't put in again
pub kept_fact : (atoms : List Fact) (old : List (Fact × ℕ)) (f : Fact) → IsIndexed atoms old → is_some (lookup (is_at (fact_cmp f)) old) ≡ true → atoms ≡ with_fact atoms f
kept_fact atoms old f is there =
    let has : is_some (place atoms f) ≡ true = ap is_some (sym (is.found f)) ∙ there in
    ap (λ b. cond b atoms (atoms ++ f ∷ [])) (sym (there_by atoms f (place atoms f) refl has))

pub new_fact : (atoms : List Fact) (old : List (Fact × ℕ)) (f : Fact) → IsIndexed atoms old → is_some (lookup (is_at (fact_cmp f)) old) ≡ false → with_fact atoms f ≡ atoms ++ f ∷ []
new_fact atoms old f is absent =
    let none : place atoms f ≡ None = sym (is.found f) ∙ none_of (lookup (same_fact f) old) absent in
    ap (λ b. cond b atoms (atoms ++ f ∷ [])) (no_place atoms f none)

-- ---- facts each once

same_seen : (seen : List Fact) (f x : Fact) → same_fact f x ≡ true → is_in seen x ≡ is_in seen f
same_seen seen f x e = ap (is_in seen) (sym (fact_same f x e))

abbrev last : List Fact → List Fact → Fact → List Fact
last seen xs f = cond (is_in seen f || is_in xs f) [] (f ∷ [])

abbrev End : List Fact → List Fact → Fact → Type 0
End seen xs f = each_once seen (xs ++ f ∷ []) ≡ each_once seen xs ++ last seen xs f

end_here : (f : Fact) (b : Bool) → cond b [] (f ∷ []) ≡ cond (b || false) [] (f ∷ [])
end_here f true = refl
end_here f false = refl

end_seen : (seen xs : List Fact) (x f : Fact) (b : Bool) → same_fact f x ≡ b → is_in seen x ≡ true → last seen xs f ≡ cond (is_in seen f || (b || is_in xs f)) [] (f ∷ [])
end_seen seen xs x f true e there =
    let seen_f : is_in seen f ≡ true = sym (same_seen seen f x e) ∙ there in
    ap (λ a. cond (a || is_in xs f) [] (f ∷ [])) seen_f ∙ sym (ap (λ a. cond (a || true) [] (f ∷ [])) seen_f)
end_seen seen xs x f false e there = refl

swap : (a b c : Bool) → ((a || b) || c) ≡ (b || (a || c))
swap true true c = refl
swap true false c = refl
swap false b c = refl

end_at : (seen xs : List Fact) (x f : Fact) (b : Bool) → is_in seen x ≡ b → (is_in seen x ≡ true → End seen xs f) → End (x ∷ seen) xs f
    → cond b (each_once seen (xs ++ f ∷ [])) (x ∷ each_once (x ∷ seen) (xs ++ f ∷ [])) ≡ cond b (each_once seen xs) (x ∷ each_once (x ∷ seen) xs) ++ last seen (x ∷ xs) f
end_at seen xs x f true e old new = old e ∙ ap (λ l. each_once seen xs ++ l) (end_seen seen xs x f (same_fact f x) refl e)
end_at seen xs x f false e old new = ap (λ l. x ∷ l) (new ∙ ap (λ a. each_once (x ∷ seen) xs ++ cond a [] (f ∷ [])) (swap (same_fact f x) (is_in seen f) (is_in xs f)))

end_of : (seen xs : List Fact) (f : Fact) → End seen xs f
end_of seen [] f = end_here f (is_in seen f)
end_of seen (x ∷ xs) f = end_at seen xs x f (is_in seen x) refl (λ e. end_of seen xs f) (end_of (x ∷ seen) xs f)

-- a fact that is among them, or was seen
abbrev Same : List Fact → List Fact → Fact → Type 0
Same seen xs f = (is_in (each_once seen xs) f || is_in seen f) ≡ (is_in xs f || is_in seen f)

in_seen : (seen xs : List Fact) (x f : Fact) (b : Bool) → same_fact f x ≡ b → is_in seen x ≡ true → (is_in xs f || is_in seen f) ≡ ((b || is_in xs f) || is_in seen f)
in_seen seen xs x f true e there = or_right (is_in xs f) (is_in seen f) (sym (same_seen seen f x e) ∙ there)
in_seen seen xs x f false e there = refl

in_new : (seen xs ys : List Fact) (f : Fact) (b : Bool) → (is_in ys f || (b || is_in seen f)) ≡ (is_in xs f || (b || is_in seen f)) → ((b || is_in ys f) || is_in seen f) ≡ ((b || is_in xs f) || is_in seen f)
in_new seen xs ys f true e = refl
in_new seen xs ys f false e = e

in_at : (seen xs : List Fact) (x f : Fact) (b : Bool) → is_in seen x ≡ b → Same seen xs f → Same (x ∷ seen) xs f
    → (is_in (cond b (each_once seen xs) (x ∷ each_once (x ∷ seen) xs)) f || is_in seen f) ≡ (is_in (x ∷ xs) f || is_in seen f)
in_at seen xs x f true e old new = old ∙ in_seen seen xs x f (same_fact f x) refl e
in_at seen xs x f false e old new = in_new seen xs (each_once (x ∷ seen) xs) f (same_fact f x) new

in_of : (seen xs : List Fact) (f : Fact) → Same seen xs f
in_of seen [] f = refl
in_of seen (x ∷ xs) f = in_at seen xs x f (is_in seen x) refl (in_of seen xs f) (in_of (x ∷ seen) xs f)

or_no : (b : Bool) → (b || false) ≡ b
or_no true = refl
or_no false = refl

pub once_in : (xs : List Fact) (f : Fact) → is_in (each_once [] xs) f ≡ is_in xs f
once_in xs f = sym (or_no (is_in (each_once [] xs) f)) ∙ in_of [] xs f ∙ or_no (is_in xs f)

-- one more
pub each_more : (xs : List Fact) (f : Fact) → each_once [] (xs ++ f ∷ []) ≡ with_fact (each_once [] xs) f
each_more xs f = end_of [] xs f ∙ at (is_in xs f) ∙ ap (λ b. cond b (each_once [] xs) (each_once [] xs ++ f ∷ [])) (sym (once_in xs f))
  where
    at : (b : Bool) → each_once [] xs ++ cond b [] (f ∷ []) ≡ cond b (each_once [] xs) (each_once [] xs ++ f ∷ [])
    at true = append-nil (each_once [] xs)
    at false = refl

pub all_once : (xs : List Fact) → AllIn (each_once [] xs) xs
all_once xs x e = once_in xs x ∙ e
