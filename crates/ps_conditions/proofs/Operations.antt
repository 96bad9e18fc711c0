-- Expressions by how many words and lists they have.
use Rattle.std.proofs.Common.{◌≡◌, ◌≤◌, List, [], ◌∷◌, length, map, slice_index_or, refl, arith, suc}
use Rattle.std.specs.Bool.{if◌then◌else◌}
use Rattle.ps_world.specs.ExprViews.{expr_tree}
use Rattle.ps_world.specs.declared.expressions.Expr.TheVariants.{Neg}
use Rattle.ps_grammar.specs.Marks.{is}
use Rattle.ps_grammar.specs.declared.marks.Mark.TheVariants.{Minus}
use Rattle.ps_lists.specs.Nested.{Nesteds, nesteds, rank, ranks}
use Rattle.ps_lists.specs.NestedViews.{nested}
use Rattle.ps_lists.specs.Places.{head, rest}
use Rattle.ps_lists.specs.declared.trees.Tree.{Tree}
use Rattle.ps_lists.specs.declared.trees.Tree.TheVariants.{Group}
use Rattle.ps_conditions.specs.Signs.{operator_of}
use Rattle.ps_conditions.specs.Steps.{Steps}
use Rattle.ps_conditions.specs.Values.{function_value, operated, operation, value}
use Rattle.ps_conditions.specs.Words.{Words}

pub alone : (s : Steps) (w : Words s) (us : List Tree) → length us ≡ 1 → operation s w (nesteds (map nested us)) ≡ function_value s w (head (nesteds (map nested us))) (rest (nesteds (map nested us)))
alone s w [] h = absurd (omega (arith, h))
alone s w (t ∷ []) h = refl
alone s w (t ∷ u ∷ us) h = absurd (omega (arith, h))

pub with_one : (s : Steps) (w : Words s) (us : List Tree) (a : Tree) → length us ≡ 2 → a ≡ slice_index_or us 1 a → operation s w (nesteds (map nested us)) ≡ (if is Minus (head (nesteds (map nested us))).mark then s.then (value s w (nested a)) (λ a. s.done (Neg (expr_tree a))) else function_value s w (head (nesteds (map nested us))) (rest (nesteds (map nested us))))
with_one s w [] a h p = absurd (omega (arith, h))
with_one s w (t ∷ []) a h p = absurd (omega (arith, h))
with_one s w (t ∷ u ∷ []) a h p = rw p refl
with_one s w (t ∷ u ∷ v ∷ us) a h p = absurd (omega (arith, h))

pub with_two : (s : Steps) (w : Words s) (us : List Tree) (a b : Tree) → 3 ≤ length us → a ≡ slice_index_or us 1 a → b ≡ slice_index_or us 2 b → operation s w (nesteds (map nested us)) ≡ operated s (operator_of (head (nesteds (map nested us))).mark) (value s w (nested a)) (value s w (nested b)) (function_value s w (head (nesteds (map nested us))) (rest (nesteds (map nested us))))
with_two s w [] a b h p q = absurd (omega (arith, h))
with_two s w (t ∷ []) a b h p q = absurd (omega (arith, h))
with_two s w (t ∷ u ∷ []) a b h p q = absurd (omega (arith, h))
with_two s w (t ∷ u ∷ v ∷ us) a b h p q = rw (p, q) refl

-- what stands between two parentheses has a level less
pub group-rank : (t : Tree) (ts : Nesteds) (us : List Tree) → t ≡ Group ts → nesteds (map nested us) ≡ ts → rank (nested t) ≡ suc (ranks (nesteds (map nested us)))
group-rank t ts us p q = rw (p, q) refl
