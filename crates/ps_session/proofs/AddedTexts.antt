-- The text of entries, one after another, and which of them ask.
use Rattle.std.proofs.Common.{◌≡◌, ℕ, zero, suc, ◌+◌, ◌<◌, ◌≤◌, true, Some, List, [], ◌∷◌, ◌++◌, drop, get_or, length, slice_get, take, refl, ap, sym, ◌∙◌, append_assoc, append-nil, arith}
use Rattle.std.specs.Option.{option_map_or}
use Rattle.std.proofs.lemmas.Bool.{true≢false}
use Rattle.std.proofs.lemmas.List.{at_drop_all, drop_more, take_more}
use Rattle.std.proofs.lemmas.Option.{get_or_from_slice_get, slice_get_within}
use Rattle.std.proofs.Math.Seq.{take-length}
use Rattle.ps_world.specs.Names.{Table}
use Rattle.ps_machine.specs.declared.inputs.Input.{Input}
use Rattle.ps_machine.specs.declared.journal.Entry.{Entry}
use Rattle.ps_rules.specs.Journal.{entry_text, text_after}
use Rattle.ps_session.specs.Answers.{AskAtEnd, is_ask}
use Rattle.ps_session.specs.Lines.{AsksLast, text_at, text_from}

-- there is an entry at each place within
pub some-within : {A : Type 0} (xs : List A) (k : ℕ) → k < length xs → (x : A) × (slice_get xs k ≡ Some x)
some-within [] k lt = absurd (omega (arith, lt))
some-within (x ∷ xs) zero lt = (x, refl)
some-within (x ∷ xs) (suc k) lt = some-within xs k (omega (arith, lt))

module _ (names : Table) (i : Input) (es : List Entry) (from : ℕ) (old : List ℕ) where
  -- the text of the entries before this place was added to the one before
  abbrev pub HasText : ℕ → List ℕ → Type 0
  HasText k now = now ++ text_after names i (take k es) (drop k es) ≡ old ++ text_from names i es from

  -- the text of the next entry is added
  pub text-more : (k : ℕ) (now new : List ℕ) → k < length es → HasText k now → new ≡ now ++ text_at names i es k → HasText (k + 1) new
  text-more k now new lt so_far added =
      let here = some-within es k lt in
      let e = here.0 in
      let same : get_or es k e ≡ e = get_or_from_slice_get es k e e here.1 in
      let left : drop k es ≡ e ∷ drop (k + 1) es = drop_more es k e lt ∙ ap (λ x. x ∷ drop (k + 1) es) same in
      let more : take (k + 1) es ≡ take k es ++ e ∷ [] = take_more es k e lt ∙ ap (λ x. take k es ++ x ∷ []) same in
      let text : List ℕ = entry_text names i (take k es) e in
      let rest : List ℕ = text_after names i (take k es ++ e ∷ []) (drop (k + 1) es) in
      let now_text : new ≡ now ++ text = added ∙ ap (λ o. now ++ option_map_or (entry_text names i (take k es)) o []) here.1 in
      (λ t. now_text t ++ text_after names i (more t) (drop (k + 1) es)) ∙ append_assoc now text rest
      ∙ ap (λ xs. now ++ text_after names i (take k es) xs) (sym left) ∙ so_far

  -- the text of all entries was added
  pub text-done : (k : ℕ) (now : List ℕ) → length es ≤ k → HasText k now → now ≡ old ++ text_from names i es from
  text-done k now past so_far =
      sym (append-nil now) ∙ ap (λ xs. now ++ text_after names i (take k es) xs) (sym (at_drop_all (λ x. x) es k past)) ∙ so_far

-- ---- which entries ask

asks-there : (es : List Entry) (k : ℕ) (e : Entry) → AskAtEnd es → slice_get es k ≡ Some e → is_ask e.what ≡ true → length es ≡ k + 1
asks-there [] k e h at asks = absurd (cc)
asks-there (x ∷ []) zero e h at asks = refl
asks-there (x ∷ []) (suc k) e h at asks = absurd (cc)
asks-there (x ∷ y ∷ es) zero e h at asks =
    let same : x ≡ e = ap (λ o. option_map_or (λ v. v) o x) at in
    absurd (true≢false (sym asks ∙ ap (λ (v : Entry). is_ask v.what) (sym same) ∙ h.0))
asks-there (x ∷ y ∷ es) (suc k) e h at asks = let more = asks-there (y ∷ es) k e h.1 at asks in omega (arith, more)

-- where of the entries from one place on none but the last asks, an entry from there on that asks is the last
pub asks-last : (from : ℕ) (es : List Entry) (k : ℕ) → from ≤ k → AskAtEnd (drop from es) → AsksLast es k
asks-last zero es k l h = λ e at asks. asks-there es k e h at asks
asks-last (suc from) [] k l h = λ e at asks. absurd (cc)
asks-last (suc from) (x ∷ es) zero l h = absurd (omega (arith, l))
asks-last (suc from) (x ∷ es) (suc k) l h = λ e at asks. let more = asks-last from es k (omega (arith, l)) h e at asks in omega (arith, more)

-- entries of which one is the last
pub last-split : (es : List Entry) (k : ℕ) (e : Entry) → slice_get es k ≡ Some e → length es ≡ k + 1 → es ≡ take k es ++ e ∷ []
last-split es k e at all =
    sym (take-length es) ∙ ap (λ n. take n es) all ∙ take_more es k e (slice_get_within es k e at)
    ∙ ap (λ x. take k es ++ x ∷ []) (get_or_from_slice_get es k e e at)

-- ---- entries that came last

take-seam : {A : Type 0} (xs ys : List A) → take (length xs) (xs ++ ys) ≡ xs
take-seam [] ys = refl
take-seam (x ∷ xs) ys = ap (λ zs. x ∷ zs) (take-seam xs ys)

drop-seam : {A : Type 0} (xs ys : List A) → drop (length xs) (xs ++ ys) ≡ ys
drop-seam [] ys = refl
drop-seam (x ∷ xs) ys = drop-seam xs ys

-- the entries from the place where others ended are those that came after them
pub since-dropped : (old new since : List Entry) → new ≡ old ++ since → drop (length old) new ≡ since
since-dropped old new since grown = ap (drop (length old)) grown ∙ drop-seam old since

pub text-since : (names : Table) (i : Input) (old new since : List Entry) → new ≡ old ++ since → text_from names i new (length old) ≡ text_after names i old since
text-since names i old new since grown =
    ap (λ es. text_after names i (take (length old) es) (drop (length old) es)) grown
    ∙ (λ t. text_after names i (take-seam old since t) (drop-seam old since t))
