-- How forced cancels are gathered.
use Rattle.std.proofs.Common.{◌≡◌, ℕ, ◌+◌, ◌||◌, Bool, true, false, cond, if◌then◌else◌, List, [], ◌∷◌, ◌++◌, filter, map, refl, ap, sym, ◌∙◌, append_assoc, append-nil}
use Rattle.std.specs.List.{range_with_len}
use Rattle.std.proofs.lemmas.List.{map-append}
use Rattle.ps_machine.specs.declared.journal.CancelWhy.{CancelWhy}
use Rattle.ps_machine.specs.declared.journal.Entry.{Entry}
use Rattle.ps_rules.specs.History.{any_of, cancels}
use Rattle.ps_arcs.proofs.Ranges.{filter-range_more}
use Rattle.ps_state.specs.Forced.{cancels_if, has_some}

one-if : (hand act : ℕ) (why : CancelWhy) (b : Bool) → map (cancels hand why) (cond b (act ∷ []) []) ≡ cancels_if hand why b act
one-if hand act why true = refl
one-if hand act why false = refl

-- the cancels of the acts picked of the first so many places, and of one more
pub gathered-more : (p : ℕ → Bool) (hand act : ℕ) (why : CancelWhy)
    → map (cancels hand why) (filter p (range_with_len 0 act)) ++ cancels_if hand why (p act) act ≡ map (cancels hand why) (filter p (range_with_len 0 (act + 1)))
gathered-more p hand act why =
    ap (λ more. map (cancels hand why) (filter p (range_with_len 0 act)) ++ more) (sym (one-if hand act why (p act)))
    ∙ sym (map-append (cancels hand why) (filter p (range_with_len 0 act)) (cond (p act) (act ∷ []) []))
    ∙ ap (map (cancels hand why)) (sym (filter-range_more p act (p act) refl))

-- there is a cancel exactly where there is an act
pub some-of : (hand : ℕ) (why : CancelWhy) (acts : List ℕ) → has_some (map (cancels hand why) acts) ≡ any_of acts
some-of hand why [] = refl
some-of hand why (act ∷ acts) = refl

pub no-stops : (b : Bool) (xs ys : List Entry) → b ≡ false → xs ≡ xs ++ (if b then ys else [])
no-stops true xs ys e = absurd (cc)
no-stops false xs ys e = sym (append-nil xs)

pub with-stops : (b : Bool) (xs ys : List Entry) → b ≡ true → xs ++ ys ≡ xs ++ (if b then ys else [])
with-stops true xs ys e = refl
with-stops false xs ys e = absurd (cc)
