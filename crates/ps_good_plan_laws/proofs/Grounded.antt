-- The ground actions of a plan that is judged good, and their arcs.
use Rattle.std.proofs.Common.{◌≡◌, suc, ◌==◌, if◌then◌else◌, Bool, true, false, ◌&&◌, Option, Some, None, Result, Ok, Err, is_ok, List, [], ◌∷◌, map, length, option_map, refl, ap, sym, ◌∙◌, subst}
use Rattle.ps_world.specs.Knowledge.{action_of}
use Rattle.ps_world.specs.CondViews.{cond_tree}
use Rattle.ps_world.specs.declared.names.Name.{Name}
use Rattle.ps_world.specs.declared.conditions.Cond.{Cond}
use Rattle.ps_world.specs.declared.domains.Domain.{Domain}
use Rattle.ps_world.specs.declared.actions.ActionDef.{ActionDef}
use Rattle.ps_world.specs.declared.known.Knowledge.{Knowledge}
use Rattle.ps_action.specs.Grounding.{first_unfit, ground_act, ground_by, grounded}
use Rattle.ps_action.specs.Refusals.{unless}
use Rattle.ps_action.specs.Plans.{after_steps, judged, judged_by, where_true}
use Rattle.ps_action.specs.Truth.{is_true}
use Rattle.ps_action.specs.declared.acts.Act.{Act}
use Rattle.ps_action.specs.declared.acts.GroundAction.{GroundAction}
use Rattle.ps_action.specs.declared.refusals.GroundRefusal.{GroundRefusal}
use Rattle.ps_action.specs.declared.refusals.PlanRefusal.{PlanRefusal}
use Rattle.ps_action.specs.declared.refusals.PlanRefusal.TheVariants.{GoalFalse}
use Rattle.ps_action.specs.declared.refusals.GroundRefusal.TheVariants.{Arity}
use Rattle.ps_action.specs.Arcs.{changes}
use Rattle.ps_arcs.specs.Commuting.{IsGood}
use Rattle.ps_arcs.specs.Laws.{LeavesOthers}
use Rattle.ps_arcs.proofs.Alike.{effects_leave_others}
use Rattle.ps_arcs.proofs.Judged.{judged_is_grounded, judged_is_good}
use Rattle.ps_arcs.proofs.Steps.{of_then, of_where, parts}
use Rattle.ps_rules.specs.Known.{grounds}
use Rattle.ps_rules.specs.Settled.{is_met}

-- what can be grounded has the ground action that needs no knowledge
unless_ok : (o : Option GroundRefusal) (a g : GroundAction) → unless o a ≡ Ok g → a ≡ g
unless_ok None a g e = cc
unless_ok (Some r) a g e = absurd (cc)

of_action : (d : Domain) (instances : List (Name × Name)) (act : Act) (a : Option ActionDef) (g : GroundAction) → ground_by d instances a act ≡ Ok g → option_map (λ a. grounded a act) a ≡ Some g
of_action d instances act None g e = absurd (cc)
of_action d instances act (Some a) g e = by_length (length a.params == length act.args) e
  where
    by_length : (b : Bool) → (if b then unless (first_unfit d instances a.params act.args 0) (grounded a act) else Err (Arity (length a.params) (length act.args))) ≡ Ok g → Some (grounded a act) ≡ Some g
    by_length true e = ap Some (unless_ok (first_unfit d instances a.params act.args 0) (grounded a act) g e)
    by_length false e = absurd (cc)

all_grounded : (d : Domain) (instances : List (Name × Name)) (acts : List Act) (gs : List GroundAction) → map (ground_act d instances) acts ≡ map Ok gs → (grounds d acts ≡ gs) × (length gs ≡ length acts)
all_grounded d instances [] [] e = (refl, refl)
all_grounded d instances [] (g ∷ gs) e = absurd (cc)
all_grounded d instances (act ∷ acts) [] e = absurd (cc)
all_grounded d instances (act ∷ acts) (g ∷ gs) e =
    let one : ground_act d instances act ≡ Ok g = cc in
    let rest : map (ground_act d instances) acts ≡ map Ok gs = cc in
    let w = all_grounded d instances acts gs rest in
    let head = of_action d instances act (action_of d act.action) g one in
    (rw head (ap (λ hs. g ∷ hs) w.0), ap (λ n. suc n) w.1)

-- a step leaves the goal
goal_stays : (d : Domain) (k last : Knowledge) (gs : List GroundAction) → IsGood d k gs last → last.goal ≡ k.goal
goal_stays d k last [] g = ap (λ k. k.goal) (sym g)
goal_stays d k last (a ∷ gs) g =
    let p = parts d 0 a k g.0 g.1 in
    let one = subst (LeavesOthers k (changes a)) p.begin (effects_leave_others d k a).0 in
    let two = subst (LeavesOthers p.during (changes a)) p.finish (effects_leave_others d p.during a).1 in
    goal_stays d g.0 last gs g.2 ∙ two.2 ∙ one.2

and_so : (b : Bool) → b ≡ true → (b && true) ≡ true
and_so b e = ap (λ b. b && true) e

goal_met : (d : Domain) (k last : Knowledge) (goal : Option Cond) (acts : List Act) → judged_by d k goal acts ≡ Ok last → is_met d last goal ≡ true
goal_met d k last None acts e = absurd (cc)
goal_met d k last (Some c) acts e =
    let one = of_then (λ r. r) (after_steps d k 0 acts) (λ l. where_true (is_true d l (cond_tree c)) GoalFalse (Ok l)) last e in
    let two = of_where (is_true d one.0 (cond_tree c)) GoalFalse (Ok one.0) last one.2 in
    let so : one.0 ≡ last = (let u = two.1 in cc) in
    and_so (is_true d last (cond_tree c)) (subst (λ l. is_true d l (cond_tree c) ≡ true) so two.0)

-- a plan that is judged good, by its ground actions
pub record Good (d : Domain) (k : Knowledge) (acts : List Act) : Type 0 where
  pub last : Knowledge
  pub good : IsGood d k (grounds d acts) last
  pub each : length (grounds d acts) ≡ length acts
  pub goal : last.goal ≡ k.goal
  pub met : is_met d last k.goal ≡ true

pub good_of : (d : Domain) (k : Knowledge) (acts : List Act) → is_ok (judged d k acts) ≡ true → Good d k acts
good_of d k acts h = by_judge (judged d k acts) refl h
  where
    by_judge : (r : Result Knowledge PlanRefusal) → judged d k acts ≡ r → is_ok r ≡ true → Good d k acts
    by_judge (Err r) e h = absurd (cc)
    by_judge (Ok last) e h =
        let w = judged_is_grounded d k last acts e in
        let good = judged_is_good d k last acts w.0 e w.1 in
        let all = all_grounded d k.instances acts w.0 w.1 in
        record {
          last = last;
          good = subst (λ gs. IsGood d k gs last) (sym all.0) good;
          each = ap length all.0 ∙ all.1;
          goal = goal_stays d k last w.0 good;
          met = goal_met d k last k.goal acts e;
        }
