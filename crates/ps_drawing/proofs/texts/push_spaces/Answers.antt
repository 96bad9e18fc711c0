use Rattle.std.proofs.Common.{arith}
use Rattle.ps_drawing.proofs.Counting.{piece-more, spaces_more}
use Rattle.ps_drawing.proofs.texts.push_spaces.Goals as goal

pub loop-at-preserved : goal.loop-at-preserved
loop-at-preserved c = record {
  within = omega arith;
  spaces = piece-more c.loop-at.out.items _ _ _ _ _ c.in_ok-push.ensures.items
      (spaces_more c.loop-at.at c.args.count (omega arith)) c.loop-at.invariant.spaces;
}
