-- The ends of bars are seen.
use Rattle.std.proofs.Common.{◌≡◌, ℕ, Bool, true, false, List, [], ◌∷◌, ◌++◌, if◌then◌else◌, ◌==◌, refl, sym, subst, eq-eqb}
use Rattle.ps_picture.specs.declared.rows.Bar.{Bar}
use Rattle.ps_picture.specs.declared.touches.Ending.{Ending}
use Rattle.ps_drawing.specs.Columns.{bar_at, column_of, end_at, mark_at}
use Rattle.ps_drawing.specs.Laws.{IsEndingByte, NoBarVanishes}
use Rattle.ps_drawing.specs.Signs.{ending_byte}
use Rattle.ps_drawing.specs.declared.columns.Span.{Span}

-- the byte of a bar, or one that is that of a bar already
either : (t : Bool) (how : Ending) (b : ℕ) → IsEndingByte b → IsEndingByte (if t then ending_byte how else b)
either true how b seen = (how, refl)
either false how b seen = seen

-- the byte of a bar, where the test for it holds
here : (t : Bool) (how : Ending) (b : ℕ) → t ≡ true → IsEndingByte (if t then ending_byte how else b)
here t how b holds = subst (λ (t : Bool). IsEndingByte (if t then ending_byte how else b)) (sym holds) (how, refl)

-- in the column in which a bar ends, the byte of a bar that ends there stands
end-seen : (s : Span) (before after : List Bar) (bar : Bar) (other : ℕ)
    → IsEndingByte (end_at s (column_of s bar.to) (before ++ bar ∷ after) other)
end-seen s [] after bar other =
    here (column_of s bar.to == column_of s bar.to) bar.ending _ (eq-eqb (column_of s bar.to) (column_of s bar.to) refl)
end-seen s (b ∷ before) after bar other =
    either (column_of s b.to == column_of s bar.to) b.ending _ (end-seen s before after bar other)

pub no-bar-vanishes : NoBarVanishes
no-bar-vanishes s row before after bar same =
    let k = column_of s bar.to in
    let other = mark_at s k row.marks (bar_at s k row.bars 32) in
    subst (λ (bs : List Bar). IsEndingByte (end_at s k bs other)) (sym same) (end-seen s before after bar other)
