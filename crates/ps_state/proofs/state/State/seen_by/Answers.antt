use Rattle.std.proofs.Common.{option_and_then, ap, ◌∙◌}
use Rattle.std.specs.List.{slice_get}
use Rattle.ps_rules.specs.Known.{know}
use Rattle.ps_rules.specs.Members.{edit_where}
use Rattle.ps_state.proofs.state.State.seen_by.Goals as goal

pub returns-in-Some : goal.returns-in-Some
returns-in-Some c = λ i es s.
    c.edit_where.ensures ∙ ap (λ d. edit_where d c.args.self.now.problem c.in-Some.item.now) s.domain ∙ ap (λ k. edit_where i.domain k c.in-Some.item.now) s.known
    ∙ ap (option_and_then (edit_where i.domain (know i es))) (c.in-Some.ensures ∙ ap (slice_get c.args.observer.now.units) (c.observed-done.ensures es s.told.observers))

pub returns-in-None : goal.returns-in-None
returns-in-None c = λ i es s.
    ap (option_and_then (edit_where i.domain (know i es))) (c.in-None.ensures ∙ ap (slice_get c.args.observer.now.units) (c.observed-done.ensures es s.told.observers))
