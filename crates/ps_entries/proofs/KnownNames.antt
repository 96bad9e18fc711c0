-- Tables with the names of words.
use Rattle.std.proofs.Common.{◌≡◌, ℕ, ◌<◌, true, List, [], ◌∷◌, map, length, slice_get, get_or, Some, None, refl, sym, ap, ◌∙◌, inl, inr}
use Rattle.std.proofs.lemmas.Bool.{cases_Bool}
use Rattle.std.proofs.lemmas.Option.{slice_get_within, slice_get-get_or}
use Rattle.std.proofs.lemmas.List.Folds.{list_any_at}
use Rattle.std.specs.List.{list_any}
use Rattle.ps_world.specs.Lines.{same_text}
use Rattle.ps_world.specs.Names.{Table, name_text}
use Rattle.ps_world.specs.declared.names.Name.{Name}
use Rattle.ps_world.proofs.Optionals.{is_none-none}
use Rattle.ps_world.proofs.SameTexts.{same_text-itself}
use Rattle.ps_text.specs.Names.{AreNames, Keeps, folded, interned, is_name, name_fault, place_of}
use Rattle.ps_text.proofs.Folds.{IsNameText-folded}
use Rattle.ps_text.proofs.Kept.{kept_along, kept_interned}
use Rattle.ps_text.proofs.Tables.{AreNames-interned, interned-there, place_of-interned, slice_get-interned, placed}
use Rattle.ps_entries.specs.Words.{name_of, names_of, with_word, with_words}

pub no_fault : (text : List ℕ) → is_name text ≡ true → name_fault text ≡ None
no_fault text h = is_none-none (name_fault text) h

-- ---- names stay

pub kept_word : (t : Table) (word : List ℕ) → Keeps t (with_word t word)
kept_word t word =
    elim (cases_Bool (is_name word)) [
      | inl e ↦ rw e (kept_interned t (folded word))
      | inr e ↦ rw e (λ n lt. refl)
    ]

pub kept_words : (t : Table) (ws : List (List ℕ)) → Keeps t (with_words t ws)
kept_words t [] = λ n lt. refl
kept_words t (w ∷ ws) = kept_along t (with_word t w) (with_words (with_word t w) ws) (kept_word t w) (kept_words (with_word t w) ws)

pub names_word : (t : Table) (word : List ℕ) → AreNames t → AreNames (with_word t word)
names_word t word h =
    elim (cases_Bool (is_name word)) [
      | inl e ↦ rw e (AreNames-interned t (folded word) h (IsNameText-folded word (no_fault word e)))
      | inr e ↦ rw e h
    ]

pub names_words : (t : Table) (ws : List (List ℕ)) → AreNames t → AreNames (with_words t ws)
names_words t [] h = h
names_words t (w ∷ ws) h = names_words (with_word t w) ws (names_word t w h)

-- ---- the numbers of names

-- two names of one text are one
one_place : (t : Table) (i j : ℕ) (x : List ℕ) → AreNames t → slice_get t i ≡ Some x → slice_get t j ≡ Some x → i ≡ j
one_place t i j x h p q =
    let li = slice_get_within t i x p in
    let lj = slice_get_within t j x q in
    let some : Some (get_or t i []) ≡ Some (get_or t j []) = sym (slice_get-get_or t i [] li) ∙ p ∙ sym q ∙ slice_get-get_or t j [] lj in
    h.apart i j li lj (cc)

-- a text of a table is at its place
in_table : (t : Table) (i : ℕ) (x : List ℕ) → slice_get t i ≡ Some x → slice_get t (place_of t x) ≡ Some x
in_table t i x here =
    let li = slice_get_within t i x here in
    let some : Some (get_or t i []) ≡ Some x = sym (slice_get-get_or t i [] li) ∙ here in
    let same : get_or t i [] ≡ x = cc in
    let any : list_any (same_text x) t ≡ true = list_any_at (same_text x) t i [] li (rw same (same_text-itself x)) in
    ap (λ u. slice_get u (place_of t x)) (sym (interned-there t x any)) ∙ place_of-interned t x

same_place : (t u : Table) (x : List ℕ) → AreNames u → Keeps (interned t x) u → place_of t x ≡ place_of u x
same_place t u x names keeps =
    let here = placed t u x keeps in
    let there : slice_get (interned u x) (place_of t x) ≡ Some x = slice_get-interned u x (place_of t x) x here in
    one_place u (place_of t x) (place_of u x) x names here (in_table u (place_of t x) x here)

name_kept : (t u : Table) (word : List ℕ) → AreNames u → Keeps (with_word t word) u → name_of t word ≡ name_of u word
name_kept t u word names keeps =
    elim (cases_Bool (is_name word)) [
      | inl e ↦ rw e (ap (λ (n : ℕ). record { 0 = n }) (same_place t u (folded word) names (rw e at keeps)))
      | inr e ↦ rw e refl
    ]

-- the names of words, by any table that keeps them all
pub names_kept : (t u : Table) (ws : List (List ℕ)) → AreNames u → Keeps (with_words t ws) u → names_of t ws ≡ map (name_of u) ws
names_kept t u [] names keeps = refl
names_kept t u (w ∷ ws) names keeps =
    let more = with_words (with_word t w) ws in
    rw (name_kept t u w names (kept_along (with_word t w) more u (kept_words (with_word t w) ws) keeps), names_kept (with_word t w) u ws names keeps) refl

-- the text of a name is the name
pub name_of-text : (t : Table) (n : Name) → AreNames t → n.0 < length t → name_of t (name_text t n) ≡ n
name_of-text t n names lt =
    let text = names.texts n.0 [] lt in
    let here : slice_get t n.0 ≡ Some (name_text t n) = slice_get-get_or t n.0 [] lt in
    let place : place_of t (name_text t n) ≡ n.0 = one_place t (place_of t (name_text t n)) n.0 (name_text t n) names (in_table t n.0 (name_text t n) here) here in
    rw (text.name, text.lower_case, place) refl
