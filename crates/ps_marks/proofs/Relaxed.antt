-- What is known along a plan that never makes a fact true lies in the closure without it; so good plans make landmarks true.
use Rattle.std.proofs.Common.{◌≡◌, ◌⊎◌, ℕ, ◌+◌, Bool, true, false, not, ◌||◌, ◌&&◌, List, [], ◌∷◌, ◌++◌, Option, Some, None, Result, Ok, Err, is_ok, inl, inr, refl, ap, sym, ◌∙◌, subst}
use Rattle.std.specs.List.{Contains, list_any, list_all}
use Rattle.std.specs.Option.{option_map_or}
use Rattle.std.specs.Result.{result_ok}
use Rattle.std.proofs.lemmas.Bool.{and_from, not_from_false, or_left, or_parts, or_right}
use Rattle.ps_world.specs.CondViews.{cond_tree}
use Rattle.ps_world.specs.Knowledge.{same_fact, is_known}
use Rattle.ps_world.specs.declared.conditions.Cond.{Cond}
use Rattle.ps_world.specs.declared.facts.Fact.{Fact}
use Rattle.ps_world.specs.declared.domains.Domain.{Domain}
use Rattle.ps_world.specs.declared.known.Knowledge.{Knowledge}
use Rattle.ps_action.specs.Grounding.{all_ground, ground_act}
use Rattle.ps_action.specs.Plans.{after_steps, judged, judged_by, step}
use Rattle.ps_action.specs.Truth.{is_true}
use Rattle.ps_action.specs.declared.acts.Act.{Act}
use Rattle.ps_action.specs.declared.acts.GroundAction.{GroundAction}
use Rattle.ps_action.specs.declared.refusals.PlanRefusal.TheVariants.{GoalFalse}
use Rattle.ps_action.proofs.Contained.{fact_same}
use Rattle.ps_domain.proofs.AllActions.{ground_actions_are_all}
use Rattle.ps_marks.specs.Atoms.{atoms, atoms_of, can_make, makes}
use Rattle.ps_marks.specs.Closures.{closure, is_in, is_in_or_made, is_other, is_usable}
use Rattle.ps_marks.specs.Landmarks.{candidates, goal_atoms, is_made, is_made_in, is_needed, landmarks}
use Rattle.ps_marks.specs.Laws.{AllDeclared, IsClosed, LandmarksAreMade}
use Rattle.ps_marks.proofs.Members.{all_both, all_so, both_first, both_second, in_filter, no_both, none_not}
use Rattle.ps_marks.proofs.Makes.{can_be_added}
use Rattle.ps_marks.proofs.Steps.{IsStep, act_from_parts, all_atoms_known, atoms_known, known_after, made_in_is, parts_of_act, same_instances, then_is, where_is}
use Rattle.ps_marks.proofs.Closed.{closures_are_least}

module _ (d : Domain) (start : Knowledge) (f : Fact) (set : List Fact) (closed : IsClosed d start (Some f) set) (declared : AllDeclared d start) (all : (act : Act) (g : GroundAction) → ground_act d start.instances act ≡ Ok g → Contains (all_ground d start.instances) g) where
  -- what is known is in the set
  abbrev pub IsInside : Knowledge → Type 0
  IsInside k = (x : Fact) → is_known k x ≡ true → is_in set x ≡ true

  -- what is known where the fact isn't is another
  other : (k : Knowledge) (x : Fact) → is_known k f ≡ false → is_known k x ≡ true → is_other (Some f) x ≡ true
  other k x unmade e = not_from_false (same_fact x f) (at (same_fact x f) refl)
    where
      at : (b : Bool) → same_fact x f ≡ b → same_fact x f ≡ false
      at false s = s
      at true s =
          let P : Fact → Type 0 = λ y. is_known k y ≡ true in
          absurd (no_both (is_known k f) (subst P (fact_same x f s) e) unmade)

  module _ (k during next : Knowledge) (act : Act) (g : GroundAction) (of : k.instances ≡ start.instances) (inside : IsInside k) (made : ground_act d k.instances act ≡ Ok g) (s : IsStep d k g during next) (never : is_known during f ≡ false) (nor : is_known next f ≡ false) where
    there : Contains (all_ground d start.instances) g
    there = all act g (ap (λ instances. ground_act d instances act) (sym of) ∙ made)

    -- what is known during the step was known before or can be made at its start
    begins : (x : Fact) → is_known during x ≡ true → (is_in (makes d start g.effects.at_start) x ≡ true) ⊎ (is_known k x ≡ true)
    begins x e =
        elim (known_after d k g.effects.at_start during s.begun x e) [
          | inl more ↦ inl (can_be_added d start x (declared.at_start g there k of x more) k g.effects.at_start more)
          | inr old ↦ inr old
        ]

    mid : during.instances ≡ start.instances
    mid = same_instances d k g.effects.at_start during s.begun ∙ of

    ends : (x : Fact) → is_known next x ≡ true → (is_in (makes d start g.effects.at_end) x ≡ true) ⊎ (is_known during x ≡ true)
    ends x e =
        elim (known_after d during g.effects.at_end next s.ended x e) [
          | inl more ↦ inl (can_be_added d start x (declared.at_end g there during mid x more) during g.effects.at_end more)
          | inr old ↦ inr old
        ]

    -- an atom that is known during the step is in the set, or is made at its start
    reached : (x : Fact) → is_known during x ≡ true → is_in_or_made (Some f) set (makes d start g.effects.at_start) x ≡ true
    reached x e =
        elim (begins x e) [
          | inl more ↦ or_right (is_in set x) (is_other (Some f) x && is_in (makes d start g.effects.at_start) x) (and_from (is_other (Some f) x) (is_in (makes d start g.effects.at_start) x) (other during x never e) more)
          | inr old ↦ or_left (is_in set x) (is_other (Some f) x && is_in (makes d start g.effects.at_start) x) (inside x old)
        ]

    usable : is_usable d start (Some f) set g ≡ true
    usable =
        let p = is_in_or_made (Some f) set (makes d start g.effects.at_start) in
        and_from
        (list_all (is_in set) (atoms_of g.conditions.at_start))
        (list_all p (atoms_of g.conditions.over_all ++ atoms_of g.conditions.at_end))
        (all_so (is_in k.facts) (is_in set) (atoms_of g.conditions.at_start) inside (all_atoms_known d k g.conditions.at_start s.start))
        (all_both p (atoms_of g.conditions.over_all) (atoms_of g.conditions.at_end)
        (all_so (is_in during.facts) p (atoms_of g.conditions.over_all) reached (all_atoms_known d during g.conditions.over_all s.over))
        (all_so (is_in during.facts) p (atoms_of g.conditions.at_end) reached (all_atoms_known d during g.conditions.at_end s.end)))

    -- what is made is in the set
    has_made : (x : Fact) → is_known next x ≡ true → is_in (can_make d start g) x ≡ true → is_in set x ≡ true
    has_made x e m = closed.closed g there usable x m (other next x nor e)

    stays : IsInside next
    stays x e =
        elim (ends x e) [
          | inl more ↦ has_made x e (both_second (makes d start g.effects.at_start) (makes d start g.effects.at_end) x more)
          | inr during_it ↦ elim (begins x during_it) [
            | inl more ↦ has_made x e (both_first (makes d start g.effects.at_start) (makes d start g.effects.at_end) x more)
            | inr old ↦ inside x old
          ]
        ]

    still : next.instances ≡ start.instances
    still = same_instances d during g.effects.at_end next s.ended ∙ mid

  -- along acts that never make the fact true
  along : (acts : List Act) (k last : Knowledge) (i : ℕ) → k.instances ≡ start.instances → IsInside k → after_steps d k i acts ≡ Ok last → is_made d k f acts ≡ false → IsInside last
  along [] k last i of inside e unmade =
      let same : k ≡ last = cc in
      let P : Knowledge → Type 0 = λ l. IsInside l in
      subst P same inside
  along (act ∷ acts) k last i of inside e unmade =
      let one = then_is (λ r. r) (step d k i act) (λ next. after_steps d next (i + 1) acts) last e in
      let next = one.0 in
      let parts = parts_of_act d k i act next one.1 in
      let g = parts.0 in
      let during = parts.2.0 in
      let s = parts.2.1 in
      let zero_step = act_from_parts d k 0 act g during next parts.1 s in
      let shown : (is_made_in d k f g || is_made d next f acts) ≡ false =
      sym (ap (λ o. option_map_or (is_made_in d k f) (result_ok o) false || option_map_or (λ l. is_made d l f acts) (result_ok (step d k 0 act)) false) parts.1 ∙ ap (λ o. is_made_in d k f g || option_map_or (λ l. is_made d l f acts) (result_ok o) false) zero_step) ∙ unmade in
      let nots = or_parts (is_made_in d k f g) (is_made d next f acts) shown in
      let neither = or_parts (is_known during f) (is_known next f) (sym (made_in_is d k f g during next s) ∙ nots.0) in
      along acts next last (i + 1) (still k during next act g of inside parts.1 s neither.0 neither.1) (stays k during next act g of inside parts.1 s neither.0 neither.1) one.2 nots.1

module _ (d : Domain) (k : Knowledge) (f : Fact) where
  ok_is : {A E : Type 0} (r : Result A E) → is_ok r ≡ true → (a : A) × (r ≡ Ok a)
  ok_is (Ok a) e = (a, refl)
  ok_is (Err r) e = absurd (cc)

  module _ (closed : IsClosed d k (Some f) (closure d k (Some f))) (declared : AllDeclared d k) (all : (act : Act) (g : GroundAction) → ground_act d k.instances act ≡ Ok g → Contains (all_ground d k.instances) g) where
    missed : (o : Option Cond) → k.goal ≡ o → (acts : List Act) → is_made d k f acts ≡ false → is_ok (judged_by d k o acts) ≡ true → is_needed d k f ≡ false
    missed None there acts unmade e = absurd (cc)
    missed (Some goal) there acts unmade e =
        let w = ok_is (judged_by d k (Some goal) acts) e in
        let run = then_is (λ r. r) (after_steps d k 0 acts) _ w.0 w.1 in
        let met = where_is (is_true d run.0 (cond_tree goal)) GoalFalse (Ok run.0) w.0 run.2 in
        let inside = along d k f (closure d k (Some f)) closed declared all acts k run.0 0 refl closed.known run.1 unmade in
        let set = closure d k (Some f) in
        let reached = all_so (is_in run.0.facts) (is_in set) (atoms (cond_tree goal)) inside (atoms_known d run.0 (cond_tree goal) met.0) in
        ap (λ o. list_any (λ a. not (is_in set a)) (goal_atoms o)) there ∙ none_not (is_in set) (atoms (cond_tree goal)) reached

    made_at : (acts : List Act) (b : Bool) → is_made d k f acts ≡ b → is_needed d k f ≡ true → is_ok (judged d k acts) ≡ true → is_made d k f acts ≡ true
    made_at acts true s needed e = s
    made_at acts false s needed e = absurd (no_both (is_needed d k f) needed (missed k.goal refl acts s e))

pub landmarks_are_made : LandmarksAreMade
unfolding landmarks
landmarks_are_made d k apart once declared f mark acts good =
    let all : (act : Act) (g : GroundAction) → ground_act d k.instances act ≡ Ok g → Contains (all_ground d k.instances) g = λ act g e. ((ground_actions_are_all d k.instances apart once).just g).1 (act, e) in
    let closed = (closures_are_least d k (Some f)).0 in
    let needed = (in_filter (is_needed d k) (candidates d k) f mark).1 in
    made_at d k f closed declared all acts (is_made d k f acts) refl needed good
