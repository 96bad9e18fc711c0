use Rattle.std.proofs.Common.{◌∙◌, ap, ◌*◌, ◌+◌, min, arith}
use Rattle.ps_text.proofs.Digits.{value-more}
use Rattle.ps_text.proofs.decimals.value_after.Goals as goal

pub loop-digit-preserved : goal.loop-digit-preserved
loop-digit-preserved c =
    let next = c.min-value.ensures ∙ ap (λ d. min (c.loop-digit.value * 10 + d) 1000000000000001) c.from.ensures in
    record {
      value = value-more 1000000000000001 c.loop-digit.value _ c.loop-digit.digit-index _ c.args.digits.now c.requires.digits c.loop-digit-test.true next c.loop-digit.invariant.value;
      small = omega arith;
    }
