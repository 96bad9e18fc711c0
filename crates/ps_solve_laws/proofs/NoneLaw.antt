-- Where no plan is answered, none is good.
use Rattle.std.proofs.Common.{◌≡◌, ℕ, zero, suc, ◌+◌, Bool, true, false, cond, nat_le, List, [], ◌∷◌, Option, Some, None, option_map, option_and_then, Result, Ok, Err, is_ok, map, flat_map, length, refl, ap, sym, ◌∙◌, subst, inl, inr, ◌⊎◌, ◌||◌, add-one}
use Rattle.std.specs.Result.{result_ok}
use Rattle.std.specs.List.{AllPairs}
use Rattle.ps_world.specs.Names.{same_name}
use Rattle.ps_world.specs.declared.conditions.Cond.{Cond}
use Rattle.ps_world.specs.declared.domains.Domain.{Domain}
use Rattle.ps_world.specs.declared.known.Knowledge.{Knowledge}
use Rattle.ps_action.specs.declared.acts.Act.{Act}
use Rattle.ps_action.specs.declared.acts.GroundAction.{GroundAction}
use Rattle.ps_action.specs.declared.refusals.GroundRefusal.{GroundRefusal}
use Rattle.ps_action.specs.declared.answers.Answer.{Answer}
use Rattle.ps_action.specs.declared.answers.Answer.TheVariants.{NoPlan, Spent, TooMany}
use Rattle.ps_action.specs.Grounding.{all_ground, ground_act}
use Rattle.ps_action.specs.Plans.{judged, judged_by, most_acts}
use Rattle.ps_action.specs.Search.{answer, answer_from, at_depth, least_plan, level, possible_acts, reach, unplanned}
use Rattle.ps_domain.proofs.AllActions.{ground_actions_are_all}
use Rattle.ps_domain.proofs.Members.{Has, has_from_Contains, has_image}
use Rattle.ps_solve_laws.specs.Laws.{NoPlanIsNone}
use Rattle.ps_ground.specs.States.{State, at, state_of, stepped}
use Rattle.ps_ground.specs.Moves.{Node, grounds, moves}
use Rattle.ps_solve.specs.Nodes.{is_met, met}
use Rattle.ps_solve.proofs.Courses.{act_is, good_in, judged_so}
use Rattle.ps_solve.proofs.Firsts.{AllMet, LeadInto, still_met}
use Rattle.ps_solve_laws.proofs.LevelLaw.{has_gift}
use Rattle.ps_solve.proofs.Levels.{NoneBefore, found, leads, least_at, level_is, nodes, none_after, reached, succs}
use Rattle.ps_solve.proofs.SameStates.{state_itself}
use Rattle.ps_ground.proofs.Stepping.{next, run}

module _ (d : Domain) (k : Knowledge) (goal : Cond) (there : k.goal ≡ Some goal) where
  -- a depth where nothing is left, and up to which nothing that is reached meets the goal
  pub record IsEnd (n : ℕ) : Type 0 where
    pub empty : level d k n ≡ []
    pub none : NoneBefore d k goal (suc n)

  path_none : (o : Option Node) → option_map (λ (m : Node). m.path) o ≡ None → o ≡ None
  path_none None e = refl
  path_none (Some m) e = absurd (cc)

  none_here : (n : ℕ) → NoneBefore d k goal n → least_plan d k n ≡ None → NoneBefore d k goal (suc n)
  none_here n h e = none_after d k goal n h (path_none (found d k goal (nodes d k n)) (sym (least_at d k goal there n h) ∙ e))

  spent_at : (b : Bool) (n : ℕ) (next : Answer) → cond b (Spent n) next ≡ NoPlan → next ≡ NoPlan
  spent_at true n next e = absurd (cc)
  spent_at false n next e = e

  left_at : (ks : List Knowledge) (budget n : ℕ) (next : Answer) → unplanned ks (reach d k n) budget n next ≡ NoPlan → (ks ≡ []) ⊎ (next ≡ NoPlan)
  left_at [] budget n next e = inl refl
  left_at (l ∷ ks) budget n next e = inr (spent_at (nat_le budget (length (reach d k n))) n next e)

  ended_at : (o : Option (List Act)) (budget n : ℕ) (next : Answer) → least_plan d k n ≡ o → NoneBefore d k goal n → (next ≡ NoPlan → NoneBefore d k goal (suc n) → (m : ℕ) × IsEnd m) → at_depth d k budget n o next ≡ NoPlan → (m : ℕ) × IsEnd m
  ended_at (Some path) budget n next e h more f = absurd (cc)
  ended_at None budget n next e h more f =
      elim (left_at (level d k n) budget n next f) [
        | inl nothing ↦ (n, record { empty = nothing; none = none_here n h e })
        | inr later ↦ more later (none_here n h e)
      ]

  ended_from : (budget more n : ℕ) → NoneBefore d k goal n → answer_from d k budget more n ≡ NoPlan → (m : ℕ) × IsEnd m
  ended_from budget zero n h e = ended_at (least_plan d k n) budget n (Spent n) refl h (λ f. absurd (cc)) e
  ended_from budget (suc more) n h e =
      ended_at (least_plan d k n) budget n (answer_from d k budget more (n + 1)) refl h (λ f none.
      let P : ℕ → Type 0 = λ m. NoneBefore d k goal m in
      ended_from budget more (n + 1) (subst P (sym (add-one n)) none) f) e

  counted_at : (b : Bool) (next : Answer) → cond b TooMany next ≡ NoPlan → next ≡ NoPlan
  counted_at true next e = absurd (cc)
  counted_at false next e = e

  ended : (budget : ℕ) → answer d k budget ≡ NoPlan → (m : ℕ) × IsEnd m
  unfolding answer
  ended budget e = ended_from budget most_acts 0 tt (counted_at _ (answer_from d k budget most_acts 0) e)

  -- ---- what is reached where nothing is left

  no_nodes : (ns : List Node) → map (λ (m : Node). at k m.state) ns ≡ [] → ns ≡ []
  no_nodes [] e = refl
  no_nodes (n ∷ ns) e = absurd (cc)

  first_met : (n : ℕ) → is_met (reached d k n) (state_of k) ≡ true
  first_met zero = ap (λ b. b || false) (state_itself (state_of k))
  first_met (suc n) = still_met (state_of k) (reached d k n) (flat_map (moves d k (grounds d k)) (nodes d k n)) (first_met n)

  all_has : (seen ss : List State) (s : State) → AllMet seen ss → Has ss s → is_met seen s ≡ true
  all_has seen [] s a h = absurd h
  all_has seen (t ∷ ss) s a (inl e) = ap (is_met seen) (sym e) ∙ a.0
  all_has seen (t ∷ ss) s a (inr h) = all_has seen ss s a.1 h

  module _ (n : ℕ) (end : IsEnd n) where
    nothing : nodes d k n ≡ []
    nothing = no_nodes (nodes d k n) (sym (level_is d k n) ∙ end.empty)

    closed : LeadInto (succs d k) (reached d k n) (reached d k n)
    closed s e =
        let P : List State → Type 0 = λ seen. AllMet seen (succs d k s) in
        subst P (ap (λ ns. met (reached d k n) (flat_map (moves d k (grounds d k)) ns)) nothing) (leads d k n s e)

    module _ (independent : AllPairs (λ a b. same_name a.name b.name ≡ false) d.actions) (distinct : AllPairs (λ i j. same_name i.0 j.0 ≡ false) k.instances) where
      -- every act that can be grounded is possible
      ground_there : (act : Act) (g : GroundAction) → ground_act d k.instances act ≡ Ok g → Has (grounds d k) g
      ground_there act g e =
          let among = (ground_actions_are_all d k.instances independent distinct).just g in
          let same : g.act ≡ act = act_is d k.instances act g (ap result_ok e) in
          let P : Act → Type 0 = λ a. Has (possible_acts d k) a in
          let possible = subst P same (has_image (λ (h : GroundAction). h.act) (all_ground d k.instances) g (has_from_Contains _ _ (among.1 (act, e)))) in
          has_gift (λ a. result_ok (ground_act d k.instances a)) (possible_acts d k) act g possible (ap result_ok e)

      next_met_at : (s t : State) (act : Act) (r : Result GroundAction GroundRefusal) → ground_act d k.instances act ≡ r → is_met (reached d k n) s ≡ true → option_and_then (stepped d k s) (result_ok r) ≡ Some t → is_met (reached d k n) t ≡ true
      next_met_at s t act (Ok g) e m f =
          all_has (reached d k n) (succs d k s) t (closed s m) (has_gift (stepped d k s) (grounds d k) g t (ground_there act g e) f)
      next_met_at s t act (Err w) e m f = absurd (cc)

      run_at_end : (o : Option State) (t : State) (f : State → Option State) → ((u : State) → o ≡ Some u → f u ≡ Some t → is_met (reached d k n) t ≡ true) → option_and_then f o ≡ Some t → is_met (reached d k n) t ≡ true
      run_at_end None t f h e = absurd (cc)
      run_at_end (Some u) t f h e = h u refl e

      run_met : (acts : List Act) (s t : State) → is_met (reached d k n) s ≡ true → run d k s acts ≡ Some t → is_met (reached d k n) t ≡ true
      run_met [] s t m e = let same : s ≡ t = cc in ap (is_met (reached d k n)) (sym same) ∙ m
      run_met (act ∷ acts) s t m e =
          run_at_end (next d k s act) t (λ u. run d k u acts) (λ u f later. run_met acts u t (next_met_at s u act (ground_act d k.instances act) refl m f) later) e

      bad_in : (o : Option State) (acts : List Act) → run d k (state_of k) acts ≡ o → good_in d k goal there o ≡ false
      bad_in None acts e = refl
      bad_in (Some t) acts e = end.none t (run_met acts (state_of k) t (first_met n) e)

      bad : (acts : List Act) → is_ok (judged d k acts) ≡ false
      bad acts = judged_so d k goal there acts ∙ bad_in (run d k (state_of k) acts) acts refl

pub no_plan_is_none : NoPlanIsNone
no_plan_is_none d k budget independent distinct e acts = by k.goal refl
  where
    by : (o : Option Cond) → k.goal ≡ o → is_ok (judged d k acts) ≡ false
    by None there = ap (λ g. is_ok (judged_by d k g acts)) there
    by (Some goal) there = let end = ended d k goal there budget e in bad d k goal there end.0 end.1 independent distinct acts
