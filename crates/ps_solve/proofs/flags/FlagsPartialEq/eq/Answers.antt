use Rattle.std.proofs.Common.{◌∙◌}
use Rattle.std.proofs.Math.Bool.{beq}
use Rattle.std.specs.Cmp.Lexicographic.{pointwise}
use Rattle.ps_solve.proofs.Packing.{alike_by_words, apart_by_count}
use Rattle.ps_solve.proofs.flags.FlagsPartialEq.eq.Goals as goal

pub returns-then-self-other : goal.returns-then-self-other
returns-then-self-other c =
    c.eq.ensures ∙ alike_by_words c.self.inside.words.items c.other.inside.words.items c.self.inside.len c.other.inside.len c.self.invariant c.other.invariant c.if-self-other.true
    ∙ (λ i. pointwise beq (c.self.view_is i) (c.other.view_is i))

pub returns-else-self-other : goal.returns-else-self-other
returns-else-self-other c =
    apart_by_count c.self.inside.words.items c.other.inside.words.items c.self.inside.len c.other.inside.len c.self.invariant c.other.invariant c.if-self-other.false
    ∙ (λ i. pointwise beq (c.self.view_is i) (c.other.view_is i))
