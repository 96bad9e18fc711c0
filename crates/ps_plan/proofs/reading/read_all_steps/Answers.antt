use Rattle.ps_text.proofs.Kept.{cut_kept}
use Rattle.ps_plan.proofs.reading.read_all_steps.Goals as goal

pub returns-then-is_err-clause-err : goal.returns-then-is_err-clause-err
returns-then-is_err-clause-err c =
    cut_kept c.read_steps-steps.result c.args.names.now _ _ _ c.len-known.ensures.count c.cut_back.ensures c.read_steps-steps.ensures.kept
