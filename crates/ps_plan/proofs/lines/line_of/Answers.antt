use Rattle.std.proofs.Common.{ap, sym, ◌∙◌}
use Rattle.std.specs.Option.{option_map}
use Rattle.ps_plan.specs.PlanText.{parts_of, said_of}
use Rattle.ps_plan.proofs.LineParts.{times_of-many}
use Rattle.ps_plan.proofs.lines.line_of.Goals as goal

pub returns-in_err-parts : goal.returns-in_err-parts
returns-in_err-parts c =
    let parts = parts_of c.args.line.now in
    c.from_residual.ensures ∙ sym (ap (option_map (said_of parts)) (times_of-many parts (c.in_err-parts.ensures)))
