use Rattle.std.proofs.Common.{ap, ◌∙◌}
use Rattle.std.specs.List.{list_any}
use Rattle.ps_machine.specs.declared.journal.PassWhy.TheVariants.{Busy}
use Rattle.ps_machine.specs.declared.members.Performer.{Performer}
use Rattle.ps_rules.specs.Auctions.{pass_of}
use Rattle.ps_rules.specs.Legal.{is_pass}
use Rattle.ps_rules.specs.Members.{performers}
use Rattle.ps_state.proofs.Rest.{list_any-map}
use Rattle.ps_state.proofs.state.State.was_busy.Goals as goal

pub returns : goal.returns
returns c = λ i es s.
    let r = c.args.r in
    c.any_busy.ensures es s.told ∙ ap (list_any (λ n. is_pass Busy (pass_of r n es))) s.members.performers
    ∙ list_any-map (λ n. is_pass Busy (pass_of r n es)) (λ (p : Performer). p.name) (performers i)
