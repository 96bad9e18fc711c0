use Rattle.ps_script.proofs.LineReads.{plan_nothing_read, plan_read}
use Rattle.ps_script.proofs.reading.read_run_plan.Goals as goal

pub returns-in_ok-put_run_plan-in-Some-clause-read : goal.returns-in_ok-put_run_plan-in-Some-clause-read
returns-in_ok-put_run_plan-in-Some-clause-read c =
    plan_read c.args.names.now _ c.args.bytes.now _ _ _ _ c.requires.something c.requires.no_source c.requires.plan c.after_run.ensures c.after_run-2.ensures c.in_ok-file.ensures c.in-Some.is c.in_ok-put_run_plan-in-Some.ensures.ok

pub returns-in-None-clause-read : goal.returns-in-None-clause-read
returns-in-None-clause-read c =
    plan_nothing_read c.args.names.now c.args.bytes.now _ _ _ _ c.requires.something c.requires.no_source c.requires.plan c.after_run.ensures c.after_run-2.ensures c.in_ok-file.ensures c.in-None.is c.bad.ensures
