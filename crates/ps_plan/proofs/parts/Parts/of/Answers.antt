use Rattle.std.proofs.Common.{arith, ◌∙◌}
use Rattle.std.proofs.lemmas.List.{length-set, length-take-le, take_more_set}
use Rattle.ps_plan.specs.PlanText.{parts_of}
use Rattle.ps_text.proofs.Pieces.{Marked-more}
use Rattle.ps_plan.proofs.PartSteps.{Marked-some}
use Rattle.ps_plan.proofs.parts.Parts.of.Goals as goal

pub returns-then-count-eq-MOST_PARTS : goal.returns-then-count-eq-MOST_PARTS
returns-then-count-eq-MOST_PARTS c =
    λ few.
    let more = Marked-some c.args.line.now _ c.loop-from.from _ _ c.loop-from.invariant.marked c.part_end-to.ensures.part in
    omega (arith, more, length-take-le c.loop-from.count c.loop-from.spans)

pub loop-from-preserved : goal.loop-from-preserved
loop-from-preserved c =
    record {
      room = length-set c.loop-from.spans c.loop-from.count _ ∙ c.loop-from.invariant.room;
      few = omega arith;
      marked =
          Marked-more parts_of c.args.line.now _ _ _ c.part_end-to.result c.loop-from.invariant.marked
          (take_more_set c.loop-from.spans c.loop-from.count _ (omega (arith, c.loop-from.invariant.room)))
          (omega arith) (omega arith) (omega arith) (omega arith) c.part_end-to.ensures.part;
    }
