use Rattle.std.proofs.Common.{[], ◌∷◌, refl, ap, ◌∙◌}
use Rattle.ps_machine.specs.declared.journal.Event.TheVariants as event
use Rattle.ps_actors.specs.Turns.{first_legal}
use Rattle.ps_actors.proofs.Ticking.{alone}
use Rattle.ps_actors.proofs.acts.request_of.Goals as goal

pub returns-clause-first : goal.returns-clause-first
returns-clause-first c = λ es o.
    c.chosen_if.ensures.event ∙ alone c.args.input.now es (event.Request c.count-r.result c.args.act) c.may_request-may.result o.live refl (c.may_request-may.ensures es o.kept)
    ∙ ap (λ n. first_legal c.args.input.now es (event.Request n c.args.act ∷ [])) (c.count-r.ensures es o.kept.told.requests)
