use Rattle.std.proofs.Common.{◌≡◌, Ok, List, map, subst}
use Rattle.ps_inputs.specs.Parts.{Joins, named}
use Rattle.ps_inputs.specs.declared.reading.members.MemberText.{MemberText}
use Rattle.ps_inputs.proofs.Loaded.{judged_input}
use Rattle.ps_inputs.proofs.judging.judge.Goals as goal

pub returns-in-Ok : goal.returns-in-Ok
returns-in-Ok c = λ domain texts read.
    let e : c.args.read.domain ≡ Ok c.in-Ok.domain = cc in
    judged_input domain texts c.args.read c.args.budget c.args.replans read c.in-Ok.domain e c.join.result
    (subst (λ (ms : List MemberText). Joins c.args.read.names c.in-Ok.domain c.args.read.lines.items (map named ms) c.args.budget c.args.replans c.join.result) c.as_slice.ensures.value c.join.ensures)
