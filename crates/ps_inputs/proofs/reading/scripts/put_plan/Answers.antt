use Rattle.std.proofs.Common.{length, ap, sym, ◌∙◌, arith}
use Rattle.ps_inputs.specs.Scripts.{plan_in}
use Rattle.ps_inputs.proofs.Flattening.{plan_added}
use Rattle.ps_inputs.proofs.reading.scripts.put_plan.Goals as goal

pub returns : goal.returns
returns g c =
    plan_added c.args.file.now (g.F.Files.shown c.args.files.now) (g.F.Files.shown c.read_text.new.files) c.args.script.now _ c.in_ok-text.text c.in_ok-plan.plan
    (omega (arith, ap length c.as_slice.ensures.value, c.in_ok-check_room.ensures)) c.in_ok-text.ensures.reads
    (ap (plan_in c.args.script.now.names) (sym c.as_slice-2.ensures.value) ∙ c.in_ok-plan.ensures) c.in_ok-push_line.ensures c.in_ok-push.ensures.items
