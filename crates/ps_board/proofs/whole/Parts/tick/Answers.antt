use Rattle.std.proofs.Common.{Option, ap, sym, ◌∙◌}
use Rattle.ps_rules.specs.Legal.{is_legal}
use Rattle.ps_board.specs.Ticks.{done_answer, snapshot_of, ticked_answer}
use Rattle.ps_board.specs.declared.ticks.Snapshot.{Snapshot}
use Rattle.ps_board.specs.declared.whole.Parts.{Parts}
use Rattle.ps_actors.proofs.First.{passes}
use Rattle.ps_board.proofs.Ticking.{open-now, plan-less, tick-hand}
use Rattle.ps_board.proofs.whole.Parts.tick.Goals as goal

pub choose-requires-clause-legal : goal.choose-requires-clause-legal
choose-requires-clause-legal c =
    let parts : Parts = c.args.self.now in
    passes (is_legal parts.input parts.entries.items) _ c.in-Some.choice (sym c.in-Some.is ∙ c.ticked.ensures.first parts.entries.items (open-now parts c.requires.stands c.requires.live))

pub choose-requires-clause-plan : goal.choose-requires-clause-plan
choose-requires-clause-plan c = plan-less c.in-Some.choice c.args.self.now.state (c.in-Some.ensures.its.0)

pub choose-requires-clause-by : goal.choose-requires-clause-by
choose-requires-clause-by c =
    let parts : Parts = c.args.self.now in
    tick-hand parts.input parts.entries.items c.in-Some.choice c.args.hand c.requires.live
    (passes (is_legal parts.input parts.entries.items) _ c.in-Some.choice (sym c.in-Some.is ∙ c.ticked.ensures.first parts.entries.items (open-now parts c.requires.stands c.requires.live))) c.requires.hand

pub returns-in_ok-choose-in-Some-clause-answer : goal.returns-in_ok-choose-in-Some-clause-answer
returns-in_ok-choose-in-Some-clause-answer c =
    let parts : Parts = c.args.self.now in
    let asked : Option Snapshot = snapshot_of parts.input parts.entries.items in
    c.done_answer.ensures ∙ ap done_answer c.outcome-how.ensures ∙ ap (ticked_answer asked) (sym c.in-Some.is ∙ c.ticked.ensures.first parts.entries.items (open-now parts c.requires.stands c.requires.live))
