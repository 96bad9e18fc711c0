-- Tables of names: what putting a text into one keeps.
use Rattle.std.proofs.Common.{◌≡◌, ℕ, zero, suc, ◌+◌, ◌<◌, ◌≤◌, true, false, cond, List, [], ◌∷◌, ◌++◌, length, map, take, Some, slice_get, get_or, codes, position, refl, sym, ap, subst, ◌∙◌, inl, inr, arith}
use Rattle.std.proofs.lemmas.List.{length_push, length-map, length-take, map_push, get_or-map, get_or_append_left, get_or_push, get_or-take}
use Rattle.std.proofs.lemmas.List.Elements.{All-push, All-take}
use Rattle.std.proofs.lemmas.List.Folds.{list_any_at}
use Rattle.std.proofs.lemmas.List.Quantifiers.{position-Some}
use Rattle.std.proofs.lemmas.List.Sums.{position_or_len_is}
use Rattle.std.proofs.lemmas.Option.{slice_get_within}
use Rattle.std.proofs.lemmas.Bool.{cases_Bool, cases_lt, false≢true, or_parts}
use Rattle.std.specs.List.{list_any, position_or_len}
use Rattle.ps_world.specs.Names.{Table}
use Rattle.ps_world.specs.Lines.{same_text}
use Rattle.ps_world.proofs.SameTexts.{same_text-itself, same_text-is}
use Rattle.ps_world.proofs.Elements.{get_first, get_last}
use Rattle.ps_text.specs.Names.{folded, place_of, interned, IsNameText, AreNames, Keeps}
use Rattle.ps_text.proofs.Folds.{position_or_len-map, position-map, list_any-map}

-- ---- what a table is after a text is put into it

pub interned-there : (t : Table) (text : List ℕ) → list_any (same_text text) t ≡ true → interned t text ≡ t
interned-there t text h = rw h refl

pub interned-new : (t : Table) (text : List ℕ) → list_any (same_text text) t ≡ false → interned t text ≡ t ++ text ∷ []
interned-new t text h = rw h refl

pub length-interned : (t : Table) (text : List ℕ) → length t ≤ length (interned t text)
length-interned t text =
    elim (cases_Bool (list_any (same_text text) t)) [
      | inl e ↦ rw (interned-there t text e) (omega arith)
      | inr e ↦ rw (interned-new t text e) (omega (arith, length_push t text))
    ]

-- an old text keeps its place
pub slice_get-interned : (t : Table) (text : List ℕ) (i : ℕ) (x : List ℕ) → slice_get t i ≡ Some x → slice_get (interned t text) i ≡ Some x
slice_get-interned t text i x h =
    elim (cases_Bool (list_any (same_text text) t)) [
      | inl e ↦ rw (interned-there t text e) h
      | inr e ↦ rw (interned-new t text e) (get_first t (text ∷ []) i x h)
    ]

-- a set of vectors, seen as the table of their items
module _ {V : Type 0} (items : V → List ℕ) (vs ws : List V) (v : V) (text : List ℕ) (is : items v ≡ text) where
  pub place_of-view : position_or_len (λ y. same_text (items v) (items y)) vs ≡ place_of (map items vs) text
  place_of-view = rw (is, position_or_len-map items (same_text text) vs)

  pub interned-view : ws ≡ cond (list_any (λ y. same_text (items v) (items y)) vs) vs (vs ++ v ∷ []) → map items ws ≡ interned (map items vs) text
  interned-view e =
      elim (cases_Bool (list_any (same_text text) (map items vs))) [
        | inl h ↦ rw (interned-there (map items vs) text h, e, is, list_any-map items (same_text text) vs, h)
        | inr h ↦ rw (interned-new (map items vs) text h, e, is, list_any-map items (same_text text) vs, h) (map_push items vs v ∙ rw is)
      ]

-- ---- the place of a text

suc_is : (n : ℕ) → 1 + n ≡ suc n
suc_is n = omega arith

place_of-other : (x : List ℕ) (t : Table) (text : List ℕ) → same_text text x ≡ false → place_of (x ∷ t) text ≡ suc (place_of t text)
place_of-other x t text e = rw e (suc_is (place_of t text))

place_of-there : (t : Table) (text : List ℕ) → list_any (same_text text) t ≡ true → slice_get t (place_of t text) ≡ Some text
place_of-there [] text h = cc
place_of-there (x ∷ t) text h =
    elim (cases_Bool (same_text text x)) [
      | inl e ↦ rw e (ap Some (sym (same_text-is text x e)))
      | inr e ↦ ap (slice_get (x ∷ t)) (place_of-other x t text e) ∙ place_of-there t text (rw e at h)
    ]

place_of-new : (t : Table) (text : List ℕ) → list_any (same_text text) t ≡ false → place_of t text ≡ length t
place_of-new [] text h = refl
place_of-new (x ∷ t) text h =
    let parts = or_parts (same_text text x) (list_any (same_text text) t) h in
    place_of-other x t text parts.0 ∙ ap suc (place_of-new t text parts.1)

-- a text is at its place once it is put into the table
pub place_of-interned : (t : Table) (text : List ℕ) → slice_get (interned t text) (place_of t text) ≡ Some text
place_of-interned t text =
    elim (cases_Bool (list_any (same_text text) t)) [
      | inl e ↦ rw (interned-there t text e) (place_of-there t text e)
      | inr e ↦ rw (interned-new t text e, place_of-new t text e) (get_last t text)
    ]

pub place_of-within : (t : Table) (text : List ℕ) → place_of t text < length (interned t text)
place_of-within t text = slice_get_within (interned t text) (place_of t text) text (place_of-interned t text)

-- ---- a text that stands in a table of names is in lower case, and stands there once

module _ (t : Table) (text : List ℕ) (place : ℕ) (names : AreNames t) (within : place < length t) (stands : same_text text (get_or t place []) ≡ true) where
  is : text ≡ get_or t place []
  is = same_text-is text (get_or t place []) stands

  same : folded text ≡ text
  same = subst (λ x. folded x ≡ x) (sym is) (names.texts place [] within).lower_case

  before : (k : ℕ) → k < place → same_text text (get_or t k []) ≡ false
  before k h =
      elim (cases_Bool (same_text text (get_or t k []))) [
        | inl e ↦ absurd (omega (arith, names.apart k place (omega arith) within (sym (same_text-is text (get_or t k []) e) ∙ is)))
        | inr e ↦ e
      ]

  pub place_of-stands : place ≡ place_of t (folded text)
  place_of-stands = sym (ap (place_of t) same ∙ position_or_len_is (same_text text) t place [] (omega arith) before (λ h. stands))

  pub interned-stands : t ≡ interned t (folded text)
  interned-stands = sym (ap (interned t) same ∙ interned-there t text (list_any_at (same_text text) t place [] within stands))

module _ {V : Type 0} (items : V → List ℕ) (vs : List V) (text : List ℕ) (place : ℕ) (names : AreNames (map items vs)) (found : position (λ y. same_text text (items y)) vs ≡ Some place) where
  at : (place < length (map items vs)) × (same_text text (get_or (map items vs) place []) ≡ true) × ((k : ℕ) → k < place → same_text text (get_or (map items vs) k []) ≡ false)
  at = position-Some (same_text text) (map items vs) place [] (sym (position-map items (same_text text) vs) ∙ found)

  pub place_of-seen : place ≡ place_of (map items vs) (folded text)
  place_of-seen = place_of-stands (map items vs) text place names at.0 at.1

  pub interned-seen : map items vs ≡ interned (map items vs) (folded text)
  interned-seen = interned-stands (map items vs) text place names at.0 at.1

module _ {V : Type 0} (items : V → List ℕ) (vs : List V) (text : List ℕ) (place : ℕ) (v : V) (names : AreNames (map items vs)) (within : place < length vs) (there : v ≡ get_or vs place v) (is : same_text text (items v) ≡ true) where
  held : place < length (map items vs)
  held = omega (arith, length-map vs items)

  stands : same_text text (get_or (map items vs) place []) ≡ true
  stands = ap (same_text text) (get_or-map items vs place v [] within ∙ ap items (sym there)) ∙ is

  pub place_of-held : place ≡ place_of (map items vs) (folded text)
  place_of-held = place_of-stands (map items vs) text place names held stands

  pub interned-held : map items vs ≡ interned (map items vs) (folded text)
  interned-held = interned-stands (map items vs) text place names held stands

-- ---- a table of names stays one

module _ (t : Table) (text : List ℕ) (new : list_any (same_text text) t ≡ false) where
  other : (i : ℕ) → i < length t → get_or t i [] ≡ text → ⊥
  other i h e = false≢true (sym new ∙ list_any_at (same_text text) t i [] h (rw e (same_text-itself text)))

  abbrev more : Table
  more = t ++ text ∷ []

  old : (i : ℕ) → i < length t → get_or more i [] ≡ get_or t i []
  old i h = get_or_append_left t (text ∷ []) [] i h

  last : (i : ℕ) → i < length more → length t ≤ i → get_or more i [] ≡ text
  last i h l = get_or_push t text [] i (omega (arith, length_push t text))

  apart-push : AreNames t → (i j : ℕ) → i < length more → j < length more → get_or more i [] ≡ get_or more j [] → i ≡ j
  apart-push names i j hi hj e =
      elim (cases_lt i (length t)) [
        | inl li ↦ elim (cases_lt j (length t)) [
          | inl lj ↦ names.apart i j li lj (sym (old i li) ∙ e ∙ old j lj)
          | inr lj ↦ absurd (other i li (sym (old i li) ∙ e ∙ last j hj lj))
        ]
        | inr li ↦ elim (cases_lt j (length t)) [
          | inl lj ↦ absurd (other j lj (sym (old j lj) ∙ sym e ∙ last i hi li))
          | inr lj ↦ omega (arith, length_push t text)
        ]
      ]

  pub AreNames-push : AreNames t → IsNameText text → AreNames more
  AreNames-push h n =
      record {
        texts = All-push IsNameText t text h.texts n;
        apart = apart-push h;
        first = get_first t (text ∷ []) 0 (codes "object") h.first;
      }

first_taken : (t : Table) (n : ℕ) (text : List ℕ) → 0 < n → slice_get t 0 ≡ Some text → slice_get (take n t) 0 ≡ Some text
first_taken t zero text some h = absurd (omega (arith, some))
first_taken [] (suc n) text some h = h
first_taken (x ∷ t) (suc n) text some h = h

-- the first names of a table of names are one
pub AreNames-take : (t : Table) (n : ℕ) → 0 < n → AreNames t → AreNames (take n t)
AreNames-take t n some h =
    let same : (i : ℕ) → i < length (take n t) → get_or (take n t) i [] ≡ get_or t i [] =
    λ i lt. get_or-take n t i [] (omega (arith, lt, length-take n t)) in
    record {
      texts = All-take IsNameText n t h.texts;
      apart = λ i j hi hj e. h.apart i j (omega (arith, hi, length-take n t)) (omega (arith, hj, length-take n t)) (sym (same i hi) ∙ e ∙ same j hj);
      first = first_taken t n (codes "object") some h.first;
    }

pub AreNames-interned : (t : Table) (text : List ℕ) → AreNames t → IsNameText text → AreNames (interned t text)
AreNames-interned t text h n =
    elim (cases_Bool (list_any (same_text text) t)) [
      | inl e ↦ rw (interned-there t text e) h
      | inr e ↦ rw (interned-new t text e) (AreNames-push t text e h n)
    ]

-- a text is at its place in a table that keeps the names of one that has it
pub placed : (t u : Table) (x : List ℕ) → Keeps (interned t x) u → slice_get u (place_of t x) ≡ Some x
placed t u x keeps =
    let here = place_of-interned t x in
    keeps (place_of t x) (slice_get_within (interned t x) (place_of t x) x here) ∙ here
