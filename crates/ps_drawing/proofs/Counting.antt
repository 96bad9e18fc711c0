-- Lists that a count makes, of which one element more is made.
use Rattle.std.proofs.Common.{◌≡◌, ℕ, suc, ◌+◌, ◌-◌, ◌*◌, ◌/◌, ◌<◌, List, ◌∷◌, ◌++◌, ap, sym, ◌∙◌, arith}
use Rattle.std.proofs.lemmas.List.{append_assoc}
use Rattle.std.specs.Prelude.{replicate}
use Rattle.ps_picture.specs.declared.rows.Row.{Row}
use Rattle.ps_drawing.specs.Columns.{cell_of, cells_from, step_of}
use Rattle.ps_drawing.specs.Texts.{fitted, line_within, ticks_from}
use Rattle.ps_drawing.specs.Vectors.{lines_in, tick_svg, ticks_svg}
use Rattle.ps_drawing.specs.declared.columns.Span.{Span}

-- one piece more is done, and it is the first of what is left
pub piece-more : (out out' piece left left' all : List ℕ) → out' ≡ out ++ piece → left ≡ piece ++ left' → out ++ left ≡ all
    → out' ++ left' ≡ all
piece-more out out' piece left left' all done first all-so-far =
    ap (λ (o : List ℕ). o ++ left') done ∙ append_assoc out piece left'
    ∙ ap (λ (l : List ℕ). out ++ l) (sym first) ∙ all-so-far

-- of what is left, one is the next
left-more : (k n : ℕ) → k < n → n - k ≡ suc (n - (k + 1))
left-more k n h = omega arith

next-one : (k : ℕ) → suc k ≡ k + 1
next-one k = omega arith

pub spaces_more : (k n : ℕ) → k < n → replicate {A = ℕ} (n - k) 32 ≡ 32 ∷ replicate {A = ℕ} (n - (k + 1)) 32
spaces_more k n h = ap (λ (m : ℕ). replicate {A = ℕ} m 32) (left-more k n h)

pub cells_more : (s : Span) (row : Row) (k n : ℕ) → k < n
    → cells_from s row k (n - k) ≡ cell_of s row k ∷ cells_from s row (k + 1) (n - (k + 1))
cells_more s row k n h =
    ap (cells_from s row k) (left-more k n h)
    ∙ ap (λ (j : ℕ). cell_of s row k ∷ cells_from s row j (n - (k + 1))) (next-one k)

pub ticks_more : (s : Span) (k n : ℕ) → k < n
    → ticks_from s k (n - k) ≡ fitted 10 (line_within s (s.from + 10 * k * step_of s)) ++ ticks_from s (k + 1) (n - (k + 1))
ticks_more s k n h =
    ap (ticks_from s k) (left-more k n h)
    ∙ ap (λ (j : ℕ). fitted 10 (line_within s (s.from + 10 * k * step_of s)) ++ ticks_from s j (n - (k + 1))) (next-one k)

pub svg_ticks_more : (s : Span) (y reach k n : ℕ) → k < n
    → ticks_svg s y reach k (n - k)
    ≡ tick_svg s y reach (s.from + k * lines_in s / 7) ++ ticks_svg s y reach (k + 1) (n - (k + 1))
svg_ticks_more s y reach k n h =
    ap (ticks_svg s y reach k) (left-more k n h)
    ∙ ap (λ (j : ℕ). tick_svg s y reach (s.from + k * lines_in s / 7) ++ ticks_svg s y reach j (n - (k + 1))) (next-one k)
