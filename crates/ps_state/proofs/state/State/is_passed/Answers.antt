use Rattle.std.proofs.Common.{is_some, ap, sym, ◌∙◌}
use Rattle.std.specs.List.{list_all}
use Rattle.std.proofs.lemmas.List.Folds.{list_all-map}
use Rattle.ps_machine.specs.declared.members.Performer.{Performer}
use Rattle.ps_rules.specs.Auctions.{is_open, pass_of}
use Rattle.ps_rules.specs.Members.{performers}
use Rattle.ps_state.proofs.Rest.{and-true}
use Rattle.ps_state.proofs.state.State.is_passed.Goals as goal

pub returns-then-open : goal.returns-then-open
returns-then-open c = λ i es s.
    let r = c.args.r in
    c.all_passed-passed.ensures es s.told ∙ ap (list_all (λ n. is_some (pass_of r n es))) s.members.performers
    ∙ list_all-map (λ n. is_some (pass_of r n es)) (λ (p : Performer). p.name) (performers i)
    ∙ sym (and-true (is_open r es) (list_all (λ p. is_some (pass_of r p.name es)) (performers i)) (sym (c.is_open-open.ensures es s.told) ∙ c.if-open.true))
