use Rattle.std.proofs.Common.{ℕ, ap, ◌∙◌, arith}
use Rattle.std.specs.Global.{Vec}
use Rattle.ps_inputs.proofs.Pushed.{next_pushed, none_pushed}
use Rattle.ps_inputs.proofs.reading.generated.push_all.Goals as goal

pub loop-line-init : goal.loop-line-init
loop-line-init c = none_pushed c.args.script.now

pub loop-line-preserved : goal.loop-line-preserved
loop-line-preserved c =
    next_pushed c.args.lines.now c.loop-line.line-index _ c.as_slice.result.now c.args.script.now c.loop-line.script c.push_command.new.script (omega arith)
    (c.as_slice.ensures.value ∙ ap (λ (v : Vec ℕ). v.items) c.line-item.is) c.loop-line.invariant c.in_ok-push_command.ensures
