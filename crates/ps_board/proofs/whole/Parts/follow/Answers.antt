use Rattle.std.proofs.Common.{◌&&◌, is_none, OnOk, subst, sym}
use Rattle.std.proofs.lemmas.Bool.{and_parts}
use Rattle.ps_rules.specs.Runs.{is_running}
use Rattle.ps_rules.specs.Settled.{is_settled, verdict}
use Rattle.ps_board.specs.declared.whole.Parts.{Parts}
use Rattle.ps_board.specs.Parts.{Gains}
use Rattle.ps_board.proofs.Submitting.{follows-legal, follows-may, taken-legal}
use Rattle.ps_board.proofs.Ticking.{tick-hand}
use Rattle.ps_board.proofs.whole.Parts.follow.Goals as goal

pub put-requires-clause-legal : goal.put-requires-clause-legal
put-requires-clause-legal c =
    let parts : Parts = c.args.self.now in
    follows-legal parts.input parts.entries.items c.args.answer c.event_of-event.result c.requires.asked c.requires.fits c.event_of-event.ensures

pub put-requires-clause-plan : goal.put-requires-clause-plan
put-requires-clause-plan c = follows-may c.args.self.now c.args.answer c.event_of-event.result c.requires.stands c.requires.fits c.event_of-event.ensures

pub put-requires-clause-by : goal.put-requires-clause-by
put-requires-clause-by c =
    let parts : Parts = c.args.self.now in
    tick-hand parts.input parts.entries.items c.event_of-event.result c.args.hand
    (and_parts (is_running parts.entries.items) (is_settled parts.input parts.entries.items && is_none (verdict parts.input parts.entries.items)) c.requires.asked).0
    (follows-legal parts.input parts.entries.items c.args.answer c.event_of-event.result c.requires.asked c.requires.fits c.event_of-event.ensures) c.requires.hand

pub returns-clause-did : goal.returns-clause-did
returns-clause-did c =
    let parts : Parts = c.args.self.now in
    subst (λ o. OnOk c.put.result (Gains c.args.hand o parts c.put.new.self)) (sym c.event_of-event.ensures) c.put.ensures.did

pub returns-clause-legal : goal.returns-clause-legal
returns-clause-legal c = taken-legal c.args.self.now c.args.answer c.requires.stands c.requires.asked c.requires.fits
