-- Parts in the order of their lines.
use Rattle.std.proofs.Common.{◌≡◌, ℕ, ◌+◌, ◌<◌, false, List, [], ◌∷◌, Result, Ok, Err, IfOk, All, map, length, refl, ap, sym, ◌∙◌, subst, arith}
use Rattle.std.specs.Prelude.{slice_index_or}
use Rattle.std.specs.Cmp.Lexicographic.{slice_cmp}
use Rattle.std.specs.List.Sorted.{IsPermutation, IsSorted, IsSortedByKey}
use Rattle.std.specs.Ordering.{is_lt, nat_cmp, ordering_then}
use Rattle.std.specs.declared.cmp.Ordering.{Ordering}
use Rattle.std.specs.declared.cmp.Ordering.TheVariants.{Less, Equal, Greater}
use Rattle.std.proofs.lemmas.List.{get_or-map, length-map}
use Rattle.std.proofs.lemmas.List.Elements.{All-cons, All-nil}
use Rattle.std.proofs.lemmas.List.Sorted.{All-permutation, IsPermutation-map}
use Rattle.ps_world.specs.Names.{Table}
use Rattle.ps_world.specs.Texts.{edit_text}
use Rattle.ps_world.specs.declared.edits.Edit.{Edit}
use Rattle.ps_undo.specs.Saved.{IsInLineOrder}

-- what comes first decides unless it is equal
first_not_less : (a b : Ordering) → is_lt (ordering_then a b) ≡ false → is_lt a ≡ false
first_not_less Less b e = e
first_not_less Equal b e = refl
first_not_less Greater b e = e

pub if_ok : {T E : Type 0} (P Q : T → Type 0) → ((x : T) → P x → Q x) → (r : Result T E) → IfOk r P → IfOk r Q
if_ok P Q f (Ok x) h = f x h
if_ok P Q f (Err e) h = h

module _ {X : Type 0} (text : X → List ℕ) (C : X → X → Ordering) where
  abbrev Line : Type 0
  Line = List ℕ × X

  -- a part after its line
  abbrev lined : X → Line
  lined x = (text x, x)

  parts_again : (parts : List X) → map (λ (l : Line). l.1) (map lined parts) ≡ parts
  parts_again [] = refl
  parts_again (x ∷ parts) = ap (λ (l : List X). x ∷ l) (parts_again parts)

  all_lined : (parts : List X) → All (λ (l : Line). l.0 ≡ text l.1) (map lined parts)
  all_lined [] = All-nil (λ (l : Line). l.0 ≡ text l.1)
  all_lined (x ∷ parts) = All-cons (λ (l : Line). l.0 ≡ text l.1) (lined x) (map lined parts) refl (all_lined parts)

  module _ (parts : List X) (ordered : List Line) (same : IsPermutation (map lined parts) ordered) (rises : IsSorted (λ (a b : Line). ordering_then (slice_cmp nat_cmp a.0 b.0) (C a.1 b.1)) ordered) where
    abbrev out : List X
    out = map (λ (l : Line). l.1) ordered

    pub parts_same : IsPermutation parts out
    parts_same =
        subst (λ (xs : List X). IsPermutation xs out) (parts_again parts) (IsPermutation-map (λ (l : Line). l.1) (map lined parts) ordered same)

    lines_are : All (λ (l : Line). l.0 ≡ text l.1) ordered
    lines_are = All-permutation (λ (l : Line). l.0 ≡ text l.1) (map lined parts) ordered same (all_lined parts)

    -- the line at a place is the text of the part there
    line_at : (k : ℕ) (d : X) → k < length ordered → text (slice_index_or out k d) ≡ (slice_index_or ordered k (lined d)).0
    line_at k d low = ap text (get_or-map (λ (l : Line). l.1) ordered k (lined d) d low) ∙ sym (lines_are k (lined d) low)

    pub parts_rise : IsSortedByKey text (slice_cmp nat_cmp) out
    parts_rise k d low high =
        let long = length-map ordered (λ (l : Line). l.1) in
        let up : k + 1 < length ordered = omega (arith, high, long) in
        let here : k < length ordered = omega (arith, up) in
        let later = line_at (k + 1) d up in
        let before = line_at k d here in
        (λ i. is_lt (slice_cmp nat_cmp (later i) (before i)))
        ∙ first_not_less (slice_cmp nat_cmp (slice_index_or ordered (k + 1) (lined d)).0 (slice_index_or ordered k (lined d)).0) (C (slice_index_or ordered (k + 1) (lined d)).1 (slice_index_or ordered k (lined d)).1) (rises k (lined d) low up)

-- parts whose lines were sorted are in the order of their lines
pub in_line_order : {X : Type 0} (names : Table) (edit : X → Edit) (C : X → X → Ordering) (parts : List X) (lines ordered : List (List ℕ × X)) (out : List X) → lines ≡ map (λ part. (edit_text names (edit part), part)) parts → IsPermutation lines ordered → IsSorted (λ a b. ordering_then (slice_cmp nat_cmp a.0 b.0) (C a.1 b.1)) ordered → out ≡ map (λ line. line.1) ordered → IsInLineOrder names edit parts out
in_line_order {X} names edit C parts lines ordered put is same rises got =
    let text : X → List ℕ = λ x. edit_text names (edit x) in
    let moved = subst (λ (l : List (List ℕ × X)). IsPermutation l ordered) is same in
    subst (λ (l : List X). IsInLineOrder names edit parts l) (sym got) (record { same = parts_same text C parts ordered moved rises; rises = parts_rise text C parts ordered moved rises })
