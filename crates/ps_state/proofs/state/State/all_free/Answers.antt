use Rattle.std.proofs.Common.{not, ap, ◌∙◌}
use Rattle.std.specs.List.{list_all}
use Rattle.std.proofs.lemmas.List.Folds.{list_all-map}
use Rattle.ps_machine.specs.declared.members.Performer.{Performer}
use Rattle.ps_rules.specs.Auctions.{is_engaged}
use Rattle.ps_rules.specs.Members.{performers}
use Rattle.ps_state.proofs.state.State.all_free.Goals as goal

pub returns : goal.returns
returns c = λ i es s.
    c.none_engaged.ensures es s.told ∙ ap (list_all (λ n. not (is_engaged n es))) s.members.performers
    ∙ list_all-map (λ n. not (is_engaged n es)) (λ (p : Performer). p.name) (performers i)
