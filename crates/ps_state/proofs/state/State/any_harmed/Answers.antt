use Rattle.std.specs.List.{list_any, list_all}
use Rattle.std.proofs.Common.{ap, ◌∙◌}
use Rattle.ps_rules.specs.Runs.{is_harmed}
use Rattle.ps_state.proofs.Places.{any-state}
use Rattle.ps_state.proofs.state.State.any_harmed.Goals as goal

pub returns : goal.returns
returns c = λ i es s. c.any_harmed.ensures ∙ ap (list_any is_harmed) c.deref.ensures.value ∙ any-state is_harmed es c.args.self.now.ledger.acts s.told.acts
