use Rattle.std.specs.List.{list_any}
use Rattle.std.proofs.Common.{not, ap, ◌∙◌}
use Rattle.ps_rules.specs.Runs.{is_active}
use Rattle.ps_state.proofs.Places.{none-state}
use Rattle.ps_state.proofs.state.State.none_active.Goals as goal

pub returns : goal.returns
returns c = λ i es s.
    ap not (c.any_active.ensures ∙ ap (list_any is_active) c.deref.ensures.value) ∙ none-state is_active es c.args.self.now.ledger.acts s.told.acts
