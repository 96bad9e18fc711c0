use Rattle.std.proofs.Common.{◌+◌, ◌*◌, arith}
use Rattle.ps_drawing.specs.Columns.{step_of}
use Rattle.ps_drawing.specs.Texts.{fitted, line_within}
use Rattle.ps_drawing.proofs.Counting.{piece-more, ticks_more}
use Rattle.ps_drawing.proofs.texts.push_ticks.Goals as goal

pub loop-k-preserved : goal.loop-k-preserved
loop-k-preserved c =
    let s = c.args.span in
    record {
      within = omega arith;
      ticks = piece-more c.loop-k.out.items _ (fitted 10 (line_within s (s.from + 10 * c.loop-k.k * step_of s))) _ _ _
          (cc (c.in_ok-push_fitted.ensures, c.in_ok-number.ensures, c.deref.ensures.value, c.step_of-step.ensures, c.from.ensures))
          (ticks_more s c.loop-k.k c.args.count (omega arith)) c.loop-k.invariant.ticks;
    }
