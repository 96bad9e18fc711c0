use Rattle.std.proofs.Common.{is_some, refl, ap, sym, ◌∙◌}
use Rattle.ps_ledger.proofs.LegalEvents.{legal_events_speak_of_ledgers}
use Rattle.ps_replay.proofs.PlanQueries.{awaits-query, legal-there}
use Rattle.ps_replay.proofs.queries.judge_plan_query.Goals as goal

pub take-requires-clause-speaks : goal.take-requires-clause-speaks
take-requires-clause-speaks g c =
    let i = c.args.input.now in
    let es = c.args.before.now in
    let what = c.args.entry.now.what in
    let may = sym (c.may_ask_plan.ensures es c.requires.stands) ∙ c.if-not-may_ask_plan.false in
    let made = sym c.in_ok-acts.ensures.there ∙ ap is_some c.in-Some.is in
    let legal = legal-there i es c.args.entry.now.hand what c.args.state.now c.requires.asks c.requires.stands may made in
    let a = c.in_ok-make_room-in-Some.ensures.kept i es what (awaits-query i es what c.args.state.now c.requires.asks c.requires.stands) in
    legal_events_speak_of_ledgers i es what _ c.requires.sound c.requires.history c.requires.few a.members a.told legal

pub returns-in_ok-take-in-Some-clause-stands : goal.returns-in_ok-take-in-Some-clause-stands
returns-in_ok-take-in-Some-clause-stands g c = λ _.
    let i = c.args.input.now in
    let es = c.args.before.now in
    let what = c.args.entry.now.what in
    let a = c.in_ok-make_room-in-Some.ensures.kept i es what (awaits-query i es what c.args.state.now c.requires.asks c.requires.stands) in
    c.in_ok-take-in-Some.ensures i es c.args.entry.now refl a
