-- Acts whose arguments fit, and steps by conditions and effects with arguments put in.
use Rattle.std.specs.Prelude.{◌≡◌, Bool, true, pos, Some, Ok, List, [], ◌∷◌, filter_map, find, map, zip}
use Rattle.std.specs.List.{AllByRecursion, list_all}
use Rattle.std.specs.Map.{lookup}
use Rattle.std.specs.Result.{result_ok}
use Rattle.ps_world.specs.Knowledge.{action_of, kind_of}
use Rattle.ps_world.specs.Names.{object, same_name}
use Rattle.ps_world.specs.declared.actions.ActionDef.{ActionDef}
use Rattle.ps_world.specs.declared.actions.Conditions.{Conditions}
use Rattle.ps_world.specs.declared.actions.Effects.{Effects}
use Rattle.ps_world.specs.declared.domains.Domain.{Domain}
use Rattle.ps_world.specs.declared.domains.Param.{Param}
use Rattle.ps_world.specs.declared.expressions.Expr.TheVariants.{Num}
use Rattle.ps_world.specs.declared.known.Knowledge.{Knowledge}
use Rattle.ps_world.specs.declared.names.Name.{Name}
use Rattle.ps_action.specs.Grounding.{fitting, ground_act, grounded, put_all_effects, put_cond}
use Rattle.ps_action.specs.Truth.{all_true, fits}
use Rattle.ps_action.specs.declared.acts.Act.{Act}
use Rattle.ps_action.specs.declared.acts.GroundAction.{GroundAction}
use Rattle.ps_ground.specs.States.{State, at}

-- the ground actions of these acts, without those that can't be grounded
abbrev pub grounds_of : Domain → Knowledge → List Act → List GroundAction
grounds_of d k acts = filter_map (λ act. result_ok (ground_act d k.instances act)) acts

-- whether each argument is an instance that fits its parameter
abbrev pub all_fit : Domain → Knowledge → List Param → List Name → Bool
all_fit d k params args = list_all (λ pair. fits d (kind_of k pair.1) pair.0.kind) (zip params args)

-- an act that can be grounded, and whose arguments fit in every state
pub record IsFit (d : Domain) (k : Knowledge) (act : Act) : Type 0 where
  pub action : ActionDef
  pub declared : action_of d act.action ≡ Some action
  pub made : ground_act d k.instances act ≡ Ok (grounded action act)
  pub fit : (s : State) → all_true d (at k s) (fitting action.params act.args) ≡ true

-- so is each of these
abbrev pub AreFit : Domain → Knowledge → List Act → Type 0
AreFit d k [] = Unit {0}
AreFit d k (act ∷ acts) = IsFit d k act × AreFit d k acts

-- each of these instances is the first of its name
abbrev pub AreFirstInstances : List (Name × Name) → Type 0
AreFirstInstances instances = AllByRecursion (λ i. lookup (same_name i.0) instances ≡ Some i.1) instances

-- each of these actions is the first of its name
abbrev pub AreFirstActions : List ActionDef → Type 0
AreFirstActions actions = AllByRecursion (λ a. find (λ b. same_name a.name b.name) actions ≡ Some a) actions

-- a ground action with these conditions and effects with arguments put in, where its act and its duration don't matter
abbrev pub parts_with : List Name → Conditions → Effects → GroundAction
parts_with args c e = record {
  act = record { action = object; args = args };
  duration = Num (pos 0);
  conditions = record {
    at_start = map (put_cond args) c.at_start;
    over_all = map (put_cond args) c.over_all;
    at_end = map (put_cond args) c.at_end;
  };
  effects = put_all_effects args e;
}
