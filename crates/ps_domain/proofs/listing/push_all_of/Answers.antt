use Rattle.std.proofs.Common.{◌≡◌, List, ◌++◌, map, ap, sym, ◌∙◌, append-nil}
use Rattle.ps_world.specs.declared.names.Name.{Name}
use Rattle.ps_world.specs.declared.domains.Param.{Param}
use Rattle.ps_action.specs.Grounding.{picks}
use Rattle.ps_domain.specs.Listing.{choices_in, ground_with}
use Rattle.ps_domain.proofs.Listed.{picks_none}
use Rattle.ps_domain.proofs.listing.push_all_of.Goals as goal

pub returns-then-has_empty : goal.returns-then-has_empty
returns-then-has_empty c =
    let a = c.args.action.now in
    let all = c.args.all.now.items in
    let lists = c.as_slice-2.result.now in
    let chosen : lists ≡ map (choices_in c.args.expert.now c.args.sorted.now.entries) a.params =
    c.as_slice-2.ensures.value ∙ (c.in_ok-choices.ensures ∙ ap (λ (ps : List Param). map (choices_in c.args.expert.now c.args.sorted.now.entries) ps) c.as_slice.ensures) in
    let none = picks_none lists (sym c.has_empty.ensures ∙ c.if-has_empty.true) in
    sym (ap (λ (l : List (List Name)). all ++ map (ground_with a) (picks l)) (sym chosen)
    ∙ (ap (λ (l : List (List Name)). all ++ map (ground_with a) l) none ∙ append-nil all))
