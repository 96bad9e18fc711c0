use Rattle.std.specs.List.{list_any, list_all}
use Rattle.std.proofs.Common.{ap, ◌∙◌}
use Rattle.ps_rules.specs.Runs.{is_done}
use Rattle.ps_state.proofs.Places.{all-state}
use Rattle.ps_state.proofs.state.State.all_done.Goals as goal

pub returns : goal.returns
returns c = λ i es s. c.all_done.ensures ∙ ap (list_all is_done) c.deref.ensures.value ∙ all-state is_done es c.args.self.now.ledger.acts s.told.acts
