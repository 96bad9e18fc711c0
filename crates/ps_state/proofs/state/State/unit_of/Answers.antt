use Rattle.std.proofs.Common.{List, option_and_then, ap, ◌∙◌}
use Rattle.std.specs.List.{slice_get}
use Rattle.ps_machine.specs.declared.members.Unit.{Unit as Task}
use Rattle.ps_rules.specs.Auctions.{units_done}
use Rattle.ps_rules.specs.Members.{job}
use Rattle.ps_state.proofs.state.State.unit_of.Goals as goal

pub returns-in-Some : goal.returns-in-Some
returns-in-Some c = λ i es s.
    c.unit_at.ensures ∙ ap (slice_get c.in-Some.units.now) (c.units_done-done.ensures es s.told.units)
    ∙ ap (option_and_then (λ (us : List Task). slice_get us (units_done c.args.r c.args.by es))) (c.in-Some.ensures ∙ ap (job c.args.performer.now) (c.begins-begins.ensures es s.told.performers))

pub returns-in-None : goal.returns-in-None
returns-in-None c = λ i es s.
    ap (option_and_then (λ (us : List Task). slice_get us (units_done c.args.r c.args.by es))) (c.in-None.ensures ∙ ap (job c.args.performer.now) (c.begins-begins.ensures es s.told.performers))
