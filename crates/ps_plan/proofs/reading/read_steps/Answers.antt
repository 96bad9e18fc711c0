use Rattle.std.proofs.Common.{rules}
use Rattle.ps_text.proofs.Kept.{kept_along}
use Rattle.ps_plan.proofs.reading.read_steps.Goals as goal

pub returns-in_err-place-clause-kept : goal.returns-in_err-place-clause-kept
returns-in_err-place-clause-kept c = kept_along c.args.names.now c.loop-rest.names c.step_of.new.names c.loop-rest.invariant.kept c.step_of.ensures.kept

pub loop-rest-preserved-in_ok-place : goal.loop-rest-preserved-in_ok-place
loop-rest-preserved-in_ok-place c =
    record {
      steps = search rules;
      kept = kept_along c.args.names.now c.loop-rest.names c.step_of.new.names c.loop-rest.invariant.kept c.step_of.ensures.kept;
    }
