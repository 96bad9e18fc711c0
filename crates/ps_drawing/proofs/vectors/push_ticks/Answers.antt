use Rattle.std.proofs.Common.{◌+◌, ◌*◌, ◌/◌, arith}
use Rattle.ps_drawing.specs.Vectors.{lines_in, tick_svg}
use Rattle.ps_drawing.proofs.Counting.{piece-more, svg_ticks_more}
use Rattle.ps_drawing.proofs.vectors.push_ticks.Goals as goal

pub loop-k-preserved : goal.loop-k-preserved
loop-k-preserved c =
    let s = c.args.span in
    record {
      within = omega arith;
      ticks = piece-more c.loop-k.out.items _ (tick_svg s c.args.y c.args.reach (s.from + c.loop-k.k * lines_in s / 7)) _ _ _
          (cc (c.in_ok-push_tick.ensures, c.lines_in.ensures.lines, c.from.ensures))
          (svg_ticks_more s c.args.y c.args.reach c.loop-k.k c.args.count (omega arith)) c.loop-k.invariant.ticks;
    }
