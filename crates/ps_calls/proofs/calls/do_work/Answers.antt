use Rattle.std.proofs.Common.{refl, sym}
use Rattle.ps_inputs.specs.declared.works.Work.TheVariants.{Generation as AGeneration, Planning as APlanning}
use Rattle.ps_calls.proofs.Ends.{finished, no_session-silent}
use Rattle.ps_calls.proofs.calls.do_work.Goals as goal

pub returns-in-Generation : goal.returns-in-Generation
returns-in-Generation g c =
    rw (c.in-Generation.is, sym c.into_inner-in-Generation.ensures)
    (finished (AGeneration c.into_inner-in-Generation.result) c.do_generation.result c.finish-in-Generation.result _ _ _ _ refl c.do_generation.ensures c.finish-in-Generation.ensures)

pub returns-in-Planning : goal.returns-in-Planning
returns-in-Planning g c =
    rw (c.in-Planning.is, sym c.into_inner-in-Planning.ensures)
    (finished (APlanning c.into_inner-in-Planning.result) c.do_plan.result c.finish.result _ _ _ _ refl c.do_plan.ensures c.finish.ensures)

pub returns-in_default : goal.returns-in_default
returns-in_default g c =
    let w = c.args.work in
    finished w c.perform_quiet.result c.finish-in_default.result _ _ _ _ (no_session-silent w c.in_default.not-Session) c.perform_quiet.ensures c.finish-in_default.ensures
