use Rattle.std.proofs.Common.{if◌then◌else◌, Some, None, length, ap, sym, ◌∙◌}
use Rattle.ps_rules.specs.Known.{know}
use Rattle.ps_board.specs.Ticks.{idle_answer}
use Rattle.ps_board.specs.declared.whole.Parts.{Parts}
use Rattle.ps_board.proofs.Ticking.{open-now}
use Rattle.ps_board.proofs.whole.Parts.idle.Goals as goal

pub returns-else-wants_plan : goal.returns-else-wants_plan
returns-else-wants_plan c =
    let parts : Parts = c.args.self.now in
    let i = parts.input in
    let es = parts.entries.items in
    ap (λ b. idle_answer (if b then Some (record { at = length es; problem = know i es }) else None))
    (sym c.if-wants_plan.false ∙ c.wants_plan.ensures es (open-now parts c.requires.stands c.requires.live))
