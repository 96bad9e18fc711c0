-- Acts that may lead somewhere, of all possible ones.
use Rattle.std.proofs.Common.{◌≡◌, ◌≤◌, List, flat_map, length, ◌∙◌, arith}
use Rattle.std.proofs.lemmas.List.{length-map}
use Rattle.ps_world.specs.declared.domains.Domain.{Domain}
use Rattle.ps_world.specs.declared.facts.Fact.{Fact}
use Rattle.ps_world.specs.declared.known.Knowledge.{Knowledge}
use Rattle.ps_world.specs.declared.names.Name.{Name}
use Rattle.ps_action.specs.Grounding.{all_ground, most_ground}
use Rattle.ps_action.specs.Search.{possible_acts}
use Rattle.ps_action.specs.declared.acts.Act.{Act}
use Rattle.ps_action.specs.declared.acts.GroundAction.{GroundAction}
use Rattle.ps_ground.specs.Atoms.{AreAtoms, adds}
use Rattle.ps_ground.specs.Fitting.{AreFit, grounds_of}
use Rattle.ps_ground.specs.Fixed.{AreFixed, possible_facts}
use Rattle.ps_ground.specs.Grounded.{AreUseful}
use Rattle.ps_ground.specs.Moves.{Node, moves}
use Rattle.ps_ground.specs.Thinned.{IsThinned, IsUseless}
use Rattle.ps_ground.proofs.Gathering.{grounds_possible, thinned_adds, thinned_moves}
use Rattle.ps_ground.proofs.Thinning.{thin_fewer}

module _ (d : Domain) (k : Knowledge) (heads : List Name) (fixed : List Fact) (are : AreFixed heads fixed (possible_facts d k)) (acts : List Act) (thinned : IsThinned (IsUseless d heads fixed) acts (possible_acts d k)) (counted : length (all_ground d k.instances) ≤ most_ground) where
  -- acts that fit, and that come to the same as all but some that lead nowhere
  pub are_useful : (kept : List Act) → length kept ≤ length acts → AreFit d k kept → AreAtoms (flat_map (adds d k) (grounds_of d k acts)) (flat_map (adds d k) (grounds_of d k kept))
      → ((n : Node) → moves d k (grounds_of d k kept) n ≡ moves d k (grounds_of d k acts) n) → AreUseful d k kept
  are_useful kept short fit among same =
      let fewer = thin_fewer (IsUseless d heads fixed) acts (possible_acts d k) thinned in
      let many = length-map (all_ground d k.instances) (λ (g : GroundAction). g.act) in
      record {
        counted = counted;
        few = omega (arith, short, fewer, many, counted);
        fit = fit;
        adds = λ f gone. among f (thinned_adds d k (IsUseless d heads fixed) (possible_facts d k) acts (possible_acts d k) thinned (grounds_possible d k) f gone);
        moves = λ n over. same n ∙ thinned_moves d k heads fixed (possible_facts d k) are n over acts (possible_acts d k) thinned (grounds_possible d k);
      }
