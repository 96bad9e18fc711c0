-- Steps taken apart, and what they leave known.
use Rattle.std.proofs.Common.{◌≡◌, ◌⊎◌, ℕ, Bool, true, false, not, ◌||◌, List, [], Option, Some, None, Result, Ok, Err, filter, inl, inr, refl, ap, sym, ◌∙◌}
use Rattle.std.specs.Cmp.{first_so, second_so}
use Rattle.std.specs.List.{list_any, list_all}
use Rattle.std.proofs.lemmas.Bool.{and_from}
use Rattle.ps_world.specs.Trees.{CondTree, CondTrees, all_of, any_of, no, implied, holds, same, compares, is_a, for_some, for_all, none, more, cond_trees}
use Rattle.ps_world.specs.Bound.{ground_in}
use Rattle.ps_world.specs.Knowledge.{is_known}
use Rattle.ps_world.specs.declared.facts.Fact.{Fact}
use Rattle.ps_world.specs.declared.actions.Spread.{Spread}
use Rattle.ps_world.specs.declared.domains.Domain.{Domain}
use Rattle.ps_world.specs.declared.known.Knowledge.{Knowledge}
use Rattle.ps_action.specs.Effects.{deletes, effect, fault_of_effects, flat, made, values_set}
use Rattle.ps_action.specs.Grounding.{ground_act}
use Rattle.ps_action.specs.Plans.{and_then, step, step_of, where_true}
use Rattle.ps_action.specs.Refusals.{unless}
use Rattle.ps_action.specs.Truth.{all_true, are_true, is_true}
use Rattle.ps_action.specs.declared.acts.Act.{Act}
use Rattle.ps_action.specs.declared.acts.GroundAction.{GroundAction}
use Rattle.ps_action.specs.declared.refusals.PlanRefusal.TheVariants.{Ground, StartFalse, StartEffect, OverAllFalse, EndFalse, EndEffect}
use Rattle.ps_marks.specs.Atoms.{atoms, atoms_of, atoms_of_all}
use Rattle.ps_marks.specs.Closures.{is_in}
use Rattle.ps_marks.specs.Landmarks.{is_made_in}
use Rattle.ps_marks.proofs.Makes.{added}
use Rattle.ps_marks.proofs.Members.{in_fold, in_filter, all_both}

-- ---- parts

module _ {A E : Type 0} where
  pub where_is : (b : Bool) (why : E) (r : Result A E) (a : A) → where_true b why r ≡ Ok a → (b ≡ true) × (r ≡ Ok a)
  where_is true why r a e = (refl, e)
  where_is false why r a e = absurd (cc)

  pub then_is : {B F : Type 0} (why : F → E) (r : Result B F) (next : B → Result A E) (a : A) → and_then why r next ≡ Ok a → (b : B) × (r ≡ Ok b) × (next b ≡ Ok a)
  then_is why (Ok b) next a e = (b, refl, e)
  then_is why (Err f) next a e = absurd (cc)

pub unless_is : {R A : Type 0} (fault : Option R) (a b : A) → unless fault a ≡ Ok b → a ≡ b
unless_is (Some r) a b e = absurd (cc)
unless_is None a b e = cc

-- a step of a ground action goes well: its start leads to one knowledge, and its end to another
pub record IsStep (d : Domain) (k : Knowledge) (g : GroundAction) (during next : Knowledge) : Type 0 where
  pub start : all_true d k g.conditions.at_start ≡ true
  pub begun : effect d k g.effects.at_start ≡ Ok during
  pub over : all_true d during g.conditions.over_all ≡ true
  pub end : all_true d during g.conditions.at_end ≡ true
  pub ended : effect d during g.effects.at_end ≡ Ok next

module _ (d : Domain) (k : Knowledge) (i : ℕ) (g : GroundAction) (next : Knowledge) where
  pub parts_of_step : step_of d k i g ≡ Ok next → (during : Knowledge) × IsStep d k g during next
  parts_of_step e =
      let first = where_is (all_true d k g.conditions.at_start) (StartFalse i) _ next e in
      let begin = then_is (StartEffect i) (effect d k g.effects.at_start) _ next first.1 in
      let mid = begin.0 in
      let over = where_is (all_true d mid g.conditions.over_all) (OverAllFalse i) _ next begin.2 in
      let end = where_is (all_true d mid g.conditions.at_end) (EndFalse i) _ next over.1 in
      let last = then_is (EndEffect i) (effect d mid g.effects.at_end) (λ l. Ok l) next end.1 in
      let same : last.0 ≡ next = let e : Ok last.0 ≡ Ok next = last.2 in cc in
      (mid, record { start = first.0; begun = begin.1; over = over.0; end = end.0; ended = last.1 ∙ ap (λ l. Ok l) same })

  pub step_from_parts : (during : Knowledge) → IsStep d k g during next → step_of d k i g ≡ Ok next
  step_from_parts during s = rw (s.start, s.begun, s.over, s.end, s.ended) refl

-- a step of an act, whatever its place
pub parts_of_act : (d : Domain) (k : Knowledge) (i : ℕ) (act : Act) (next : Knowledge) → step d k i act ≡ Ok next → (g : GroundAction) × (ground_act d k.instances act ≡ Ok g) × ((during : Knowledge) × IsStep d k g during next)
parts_of_act d k i act next e =
    let made = then_is (Ground i) (ground_act d k.instances act) (step_of d k i) next e in
    (made.0, made.1, parts_of_step d k i made.0 next made.2)

pub act_from_parts : (d : Domain) (k : Knowledge) (i : ℕ) (act : Act) (g : GroundAction) (during next : Knowledge) → ground_act d k.instances act ≡ Ok g → IsStep d k g during next → step d k i act ≡ Ok next
act_from_parts d k i act g during next e s = rw e (step_from_parts d k i g next during s)

-- ---- effects

module _ (d : Domain) (k : Knowledge) (es : List Spread) (new : Knowledge) (e : effect d k es ≡ Ok new) where
  is_made_so : made k (flat d k es) (values_set d k es) ≡ new
  is_made_so = unless_is (fault_of_effects d k es) (made k (flat d k es) (values_set d k es)) new e

  pub same_instances : new.instances ≡ k.instances
  same_instances = ap (λ (l : Knowledge). l.instances) (sym is_made_so)

  pub same_goal : new.goal ≡ k.goal
  same_goal = ap (λ (l : Knowledge). l.goal) (sym is_made_so)

  -- a fact that is known afterwards is added, or was known
  pub known_after : (x : Fact) → is_known new x ≡ true → (is_in (added (flat d k es)) x ≡ true) ⊎ (is_known k x ≡ true)
  known_after x h =
      let there : is_known (made k (flat d k es) (values_set d k es)) x ≡ true = ap (λ (l : Knowledge). is_known l x) is_made_so ∙ h in
      elim (in_fold (filter (λ f. not (list_any (deletes f) (flat d k es))) k.facts) (added (flat d k es)) x there) [
        | inl made ↦ inl made
        | inr old ↦ inr (in_filter (λ f. not (list_any (deletes f) (flat d k es))) k.facts x old).0
      ]

-- ---- conditions

module _ (d : Domain) (k : Knowledge) where
  mutual
    -- the atoms of a condition that holds are known
    pub atoms_known : (c : CondTree) → is_true d k c ≡ true → list_all (is_in k.facts) (atoms c) ≡ true
    atoms_known (all_of cs) e = atoms_known_of cs e
    atoms_known (any_of cs) e = refl
    atoms_known (no c) e = refl
    atoms_known (implied a b) e = refl
    atoms_known (holds l) e = and_from (is_known k (ground_in [] l)) true e refl
    atoms_known (same s t) e = refl
    atoms_known (compares rel x y) e = refl
    atoms_known (is_a t kind) e = refl
    atoms_known (for_some ps c) e = refl
    atoms_known (for_all ps c) e = refl

    atoms_known_of : (cs : CondTrees) → are_true d k cs ≡ true → list_all (is_in k.facts) (atoms_of_all cs) ≡ true
    atoms_known_of none e = refl
    atoms_known_of (more c cs) e =
        all_both (is_in k.facts) (atoms c) (atoms_of_all cs) (atoms_known c (first_so (is_true d k c) (are_true d k cs) e)) (atoms_known_of cs (second_so (is_true d k c) (are_true d k cs) e))

  pub all_atoms_known : (cs : List CondTree) → all_true d k cs ≡ true → list_all (is_in k.facts) (atoms_of cs) ≡ true
  all_atoms_known cs e = atoms_known_of (cond_trees cs) e

-- ---- what a step makes

pub made_in_is : (d : Domain) (k : Knowledge) (f : Fact) (g : GroundAction) (during next : Knowledge) → IsStep d k g during next → is_made_in d k f g ≡ (is_known during f || is_known next f)
made_in_is d k f g during next s = rw (step_from_parts d k 0 g next during s, s.begun) refl
