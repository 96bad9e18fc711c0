use Rattle.std.proofs.Common.{◌≡◌, ◌&&◌, IsTrue, true, refl, ap, sym, ◌∙◌}
use Rattle.ps_rules.specs.Legal.{has_hand, is_legal}
use Rattle.ps_ledger.proofs.LegalEvents.{legal_events_speak_of_ledgers}
use Rattle.ps_state.specs.Awaiting.{Awaits}
use Rattle.ps_state.proofs.Awaiting.{awaits}
use Rattle.ps_replay.proofs.judge.judge_other.Goals as goal

pub take-requires-clause-speaks : goal.take-requires-clause-speaks
take-requires-clause-speaks g c =
    let i = c.args.input.now in
    let es = c.args.before.now in
    let what = c.args.entry.now.what in
    let legal : IsTrue (is_legal i es what) = sym (c.in_ok-legal.ensures.legal es c.requires.stands) ∙ c.if-legal.true in
    let a = c.in_ok-make_room.ensures.kept i es what (awaits i es what c.args.state.now _ c.requires.stands c.in_ok-legal.ensures.rest (c.in_ok-legal.ensures.made c.if-legal.true)) in
    legal_events_speak_of_ledgers i es what _ c.requires.sound c.requires.history c.requires.few a.members a.told legal

pub take-requires-clause-plan : goal.take-requires-clause-plan
take-requires-clause-plan g c = c.in_ok-make_room.ensures.plan (c.in_ok-legal.ensures.may c.if-legal.true)

pub returns-in_ok-take-clause-stands : goal.returns-in_ok-take-clause-stands
returns-in_ok-take-clause-stands g c = λ _.
    let i = c.args.input.now in
    let es = c.args.before.now in
    let what = c.args.entry.now.what in
    let a = c.in_ok-make_room.ensures.kept i es what (awaits i es what c.args.state.now _ c.requires.stands c.in_ok-legal.ensures.rest (c.in_ok-legal.ensures.made c.if-legal.true)) in
    c.in_ok-take.ensures i es c.args.entry.now refl a
