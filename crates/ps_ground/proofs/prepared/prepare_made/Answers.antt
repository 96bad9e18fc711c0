use Rattle.std.proofs.Common.{◌≡◌, List, Option, Result, Ok, option_to_list, sym, subst}
use Rattle.std.specs.Prelude.{IfSome, flat_map}
use Rattle.std.specs.Result.{result_ok}
use Rattle.std.proofs.lemmas.Option.{IfSome_then}
use Rattle.std.proofs.lemmas.Result.{IfOk-weaker}
use Rattle.ps_world.specs.declared.domains.Domain.{Domain}
use Rattle.ps_world.specs.declared.facts.Fact.{Fact}
use Rattle.ps_world.specs.declared.known.Knowledge.{Knowledge}
use Rattle.ps_action.specs.Grounding.{ground_act}
use Rattle.ps_action.specs.declared.acts.GroundAction.{GroundAction}
use Rattle.ps_action.specs.declared.refusals.GroundRefusal.{GroundRefusal}
use Rattle.ps_ground.specs.Atoms.{AreAtoms, adds}
use Rattle.ps_ground.specs.Prepared.{IsSound}
use Rattle.ps_ground.specs.declared.prepared.Prepared.{Prepared}
use Rattle.ps_ground.proofs.Gathering.{alone}
use Rattle.ps_ground.proofs.prepared.prepare_made.Goals as goal

pub returns-in_ok-lighten-in-Ok-clause-sound : goal.returns-in_ok-lighten-in-Ok-clause-sound
returns-in_ok-lighten-in-Ok-clause-sound c =
    let d = c.args.expert.now in
    let k = c.args.problem.now in
    let atoms = c.args.atoms.now in
    let g = c.in-Ok.action in
    let light = c.lighten.new.action in
    let P : Result GroundAction GroundRefusal → Type 0 = λ r. AreAtoms atoms (flat_map (adds d k) (option_to_list (result_ok r))) in
    let Q : List Fact → Type 0 = AreAtoms atoms in
    let made : ground_act d c.args.instances.now c.args.act.now ≡ Ok g = rw c.in-Ok.is at c.ground.ensures.gives in
    let before : AreAtoms atoms (adds d k g) = alone (adds d k) atoms g (subst P made c.requires) in
    let after : AreAtoms atoms (adds d k light) = subst Q (sym c.in_ok-lighten-in-Ok.ensures.adds) before in
    let IsSoundAfter : Prepared → Type 0 = λ one. (e : Domain) (l : Knowledge) → AreAtoms atoms (adds e l light) → IsSound e l atoms one in
    let Before : Option Prepared → Type 0 = λ o. IfSome o IsSoundAfter in
    let After : Option Prepared → Type 0 = λ o. IfSome o (IsSound d k atoms) in
    IfOk-weaker c.prepare_ground.result Before After (λ o h. IfSome_then o {P = IsSoundAfter} {Q = IsSound d k atoms} h (λ one sound. sound d k after)) c.prepare_ground.ensures.sound
