use Rattle.std.proofs.Common.{List, [], ◌∷◌, ◌++◌, filter_map, map, ap, sym, ◌∙◌, arith}
use Rattle.ps_world.specs.declared.names.Name.{Name}
use Rattle.ps_machine.specs.declared.members.Performer.{Performer}
use Rattle.ps_rules.specs.Members.{as_performer}
use Rattle.ps_state.proofs.MemberNames.{names-more}
use Rattle.ps_state.proofs.taking.performer_names.Goals as goal

pub loop-member-preserved : goal.loop-member-preserved
loop-member-preserved c =
    c.in_ok-push_performer.ensures
    ∙ ap (λ (ns : List Name). ns ++ map (λ (x : Performer). x.name) (filter_map as_performer (c.member-item.result ∷ []))) c.loop-member.invariant
    ∙ sym (names-more as_performer (λ x. x.name) c.as_slice-member-items.result.now c.loop-member.member-index c.member-item.result (omega arith) (sym c.member-item.is))
