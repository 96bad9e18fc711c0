use Rattle.std.proofs.Common.{◌≡◌, List, ap, sym, ◌∙◌, subst}
use Rattle.ps_world.specs.declared.domains.Domain.{Domain}
use Rattle.ps_world.specs.declared.names.Name.{Name}
use Rattle.ps_action.specs.Grounding.{by_name}
use Rattle.ps_ground.specs.Fitting.{AreFirstActions, AreFirstInstances}
use Rattle.ps_ground.proofs.Chosen.{all_acts_fit}
use Rattle.ps_ground.proofs.fits.stand_once.Goals as goal

pub returns-then-rise : goal.returns-then-rise
returns-then-rise c =
    let d = c.args.expert.now in
    λ yes k same.
    all_acts_fit d k (subst AreFirstInstances (sym same) (c.rise.ensures.first c.if-rise.true))
    (subst (λ (l : List (Name × Name)). by_name l ≡ l) (sym same) (c.rise.ensures.order c.if-rise.true))
    (subst AreFirstActions (c.as_slice.ensures ∙ ap (λ (e : Domain). e.actions) c.domain.ensures) (c.are_first.ensures yes))
