-- Courses: lists of acts of which no step fails, each with the state after it.
use Rattle.std.proofs.Common.{◌≡◌, ℕ, zero, suc, Bool, true, false, cond, List, [], ◌∷◌, ◌++◌, Option, Some, None, option_map, option_and_then, option_to_list, Result, Ok, Err, is_ok, map, find, filter_map, flat_map, refl, ap, sym, ◌∙◌}
use Rattle.std.specs.List.{cons_option}
use Rattle.std.specs.Result.{result_ok}
use Rattle.std.proofs.lemmas.List.{append-nil}
use Rattle.ps_world.specs.CondViews.{cond_tree}
use Rattle.ps_world.specs.declared.names.Name.{Name}
use Rattle.ps_world.specs.declared.conditions.Cond.{Cond}
use Rattle.ps_world.specs.declared.actions.ActionDef.{ActionDef}
use Rattle.ps_world.specs.declared.domains.Domain.{Domain}
use Rattle.ps_world.specs.declared.known.Knowledge.{Knowledge}
use Rattle.ps_world.specs.Knowledge.{action_of}
use Rattle.ps_action.specs.declared.acts.Act.{Act}
use Rattle.ps_action.specs.declared.acts.GroundAction.{GroundAction}
use Rattle.ps_action.specs.declared.refusals.GroundRefusal.{GroundRefusal}
use Rattle.ps_action.specs.declared.refusals.PlanRefusal.{PlanRefusal}
use Rattle.ps_action.specs.declared.refusals.PlanRefusal.TheVariants.{GoalFalse}
use Rattle.ps_action.specs.Refusals.{unless}
use Rattle.ps_action.specs.Grounding.{first_unfit, ground_act, ground_by, grounded}
use Rattle.ps_action.specs.Plans.{after_steps, and_then, judged, judged_by, where_true}
use Rattle.ps_action.specs.Search.{after, ends, least_plan, plans_of, possible_acts}
use Rattle.ps_action.specs.Truth.{is_true}
use Rattle.ps_ground.specs.States.{State, at, state_of, stepped}
use Rattle.ps_ground.specs.Moves.{Node, grounds, move, moves}
use Rattle.ps_solve.specs.Nodes.{root}
use Rattle.ps_ground.proofs.Lists.{filter_map-filter_map, filter_map-flat_map, filter_map-map, flat_map-filter_map, lengthened_by, lists_more, map-filter_map, none_given}
use Rattle.ps_ground.proofs.Stepping.{next, run, run-append, run_at}

-- ---- the act of a ground action

module _ (d : Domain) (instances : List (Name × Name)) (act : Act) (g : GroundAction) where
  act_unless : (a : ActionDef) (fault : Option GroundRefusal) → result_ok (unless fault (grounded a act)) ≡ Some g → g.act ≡ act
  act_unless a None e = let same : g ≡ grounded a act = cc in ap (λ (h : GroundAction). h.act) same
  act_unless a (Some r) e = absurd (cc)

  act_where : (a : ActionDef) (b : Bool) (why : GroundRefusal) (r : Result GroundAction GroundRefusal) → (result_ok r ≡ Some g → g.act ≡ act) → result_ok (cond b r (Err why)) ≡ Some g → g.act ≡ act
  act_where a true why r h e = h e
  act_where a false why r h e = absurd (cc)

  act_by : (o : Option ActionDef) → result_ok (ground_by d instances o act) ≡ Some g → g.act ≡ act
  act_by None e = absurd (cc)
  act_by (Some a) e = act_where a _ _ (unless (first_unfit d instances a.params act.args 0) (grounded a act)) (act_unless a (first_unfit d instances a.params act.args 0)) e

  pub act_is : result_ok (ground_act d instances act) ≡ Some g → g.act ≡ act
  act_is e = act_by (action_of d act.action) e

-- ---- courses

module _ (d : Domain) (k : Knowledge) where
  -- the node of these acts, if no step fails
  abbrev pub planned : List Act → Option Node
  planned acts = option_map (λ s. record { state = s; path = acts }) (run d k (state_of k) acts)

  -- all courses of so many acts, in order
  abbrev pub courses : ℕ → List Node
  courses zero = root k ∷ []
  courses (suc n) = flat_map (moves d k (grounds d k)) (courses n)

  moved_by : (s : State) (us : List Act) (act : Act) (o : Option GroundAction) → result_ok (ground_act d k.instances act) ≡ o → option_map (λ t. record { state = t; path = us ++ act ∷ [] }) (option_and_then (stepped d k s) o) ≡ option_and_then (move d k (record { state = s; path = us })) o
  moved_by s us act None e = refl
  moved_by s us act (Some g) e =
      ap (λ (a : Act). option_map (λ t. record { state = t; path = us ++ a ∷ [] }) (stepped d k s g)) (sym (act_is d k.instances act g e))

  -- the nodes that acts lead to are those that their ground actions do
  pub moved : (s : State) (us : List Act) (acts : List Act) → filter_map (λ act. option_map (λ t. record { state = t; path = us ++ act ∷ [] }) (next d k s act)) acts ≡ filter_map (move d k (record { state = s; path = us })) (filter_map (λ act. result_ok (ground_act d k.instances act)) acts)
  moved s us acts =
      (λ i. filter_map (λ act. moved_by s us act (result_ok (ground_act d k.instances act)) refl i) acts)
      ∙ sym (filter_map-filter_map (move d k (record { state = s; path = us })) (λ act. result_ok (ground_act d k.instances act)) acts)

  goes_on : (us : List Act) (o : Option State) → filter_map (λ act. option_map (λ t. record { state = t; path = us ++ act ∷ [] }) (option_and_then (λ t. next d k t act) o)) (possible_acts d k) ≡ flat_map (moves d k (grounds d k)) (option_to_list (option_map (λ s. record { state = s; path = us }) o))
  goes_on us None = none_given (possible_acts d k)
  goes_on us (Some s) = moved s us (possible_acts d k) ∙ sym (append-nil (moves d k (grounds d k) (record { state = s; path = us })))

  goes_on_from : (us : List Act) → filter_map planned (lengthened_by (possible_acts d k) us) ≡ flat_map (moves d k (grounds d k)) (option_to_list (planned us))
  goes_on_from us =
      filter_map-map planned (λ act. us ++ act ∷ []) (possible_acts d k)
      ∙ (λ i. filter_map (λ act. option_map (λ t. record { state = t; path = us ++ act ∷ [] }) (run-append d k us act (state_of k) i)) (possible_acts d k))
      ∙ goes_on us (run d k (state_of k) us)

  -- the courses are the plans of which no step fails
  pub planned_courses : (n : ℕ) → filter_map planned (plans_of d k n) ≡ courses n
  planned_courses zero = refl
  planned_courses (suc n) =
      ap (filter_map planned) (lists_more (possible_acts d k) n)
      ∙ filter_map-flat_map planned (lengthened_by (possible_acts d k)) (plans_of d k n)
      ∙ (λ i. flat_map (λ us. goes_on_from us i) (plans_of d k n))
      ∙ sym (flat_map-filter_map (moves d k (grounds d k)) planned (plans_of d k n))
      ∙ ap (flat_map (moves d k (grounds d k))) (planned_courses n)

  known_of : (us : List Act) (o : Option State) → option_map (at k) o ≡ option_map (λ (m : Node). at k m.state) (option_map (λ s. record { state = s; path = us }) o)
  known_of us None = refl
  known_of us (Some s) = refl

  after_is : (us : List Act) → after d k us ≡ option_map (λ (m : Node). at k m.state) (planned us)
  after_is us = run_at d k us (state_of k) 0 ∙ known_of us (run d k (state_of k) us)

  -- what courses lead to
  pub ends_are : (n : ℕ) → ends d k n ≡ map (λ (m : Node). at k m.state) (courses n)
  ends_are n =
      (λ i. filter_map (λ us. after_is us i) (plans_of d k n))
      ∙ sym (map-filter_map (λ (m : Node). at k m.state) planned (plans_of d k n)) ∙ ap (map (λ (m : Node). at k m.state)) (planned_courses n)

  -- ---- the least good plan

  -- whether the goal holds in a state
  abbrev pub good : Cond → State → Bool
  good goal s = is_true d (at k s) (cond_tree goal)

  module _ (goal : Cond) (there : k.goal ≡ Some goal) where
    -- whether it does where there is a state
    abbrev pub good_in : Option State → Bool
    good_in None = false
    good_in (Some s) = good goal s

    ok_where : (b : Bool) (last : Knowledge) → is_ok (where_true b GoalFalse (Ok last)) ≡ b
    ok_where true last = refl
    ok_where false last = refl

    judged_in : (r : Result Knowledge PlanRefusal) (o : Option State) → result_ok r ≡ option_map (at k) o → is_ok (and_then (λ r. r) r (λ last. where_true (is_true d last (cond_tree goal)) GoalFalse (Ok last))) ≡ good_in o
    judged_in (Err r) None e = refl
    judged_in (Err r) (Some s) e = absurd (cc)
    judged_in (Ok l) None e = absurd (cc)
    judged_in (Ok l) (Some s) e =
        let same : l ≡ at k s = cc in
        ok_where (is_true d l (cond_tree goal)) l ∙ ap (λ m. is_true d m (cond_tree goal)) same

    -- a list of acts is good where it leads to a state where the goal holds
    pub judged_so : (acts : List Act) → is_ok (judged d k acts) ≡ good_in (run d k (state_of k) acts)
    judged_so acts =
        ap (λ g. is_ok (judged_by d k g acts)) there
        ∙ judged_in (after_steps d k 0 acts) (run d k (state_of k) acts) (run_at d k acts (state_of k) 0)

    found_one : (acts : List Act) (o : Option State) (rest : Option (List Act)) (nodes : List Node) → rest ≡ option_map (λ (n : Node). n.path) (find (λ n. good goal n.state) nodes) → cond (good_in o) (Some acts) rest ≡ option_map (λ (n : Node). n.path) (find (λ n. good goal n.state) (cons_option (option_map (λ s. record { state = s; path = acts }) o) nodes))
    found_one acts None rest nodes e = e
    found_one acts (Some s) rest nodes e =
        elim (good goal s) as (λ b. cond b (Some acts) rest ≡ option_map (λ (n : Node). n.path) (cond b (Some (record { state = s; path = acts })) (find (λ n. good goal n.state) nodes))) [ true ↦ refl | false ↦ e ]

    found_among : (plans : List (List Act)) → find (λ acts. is_ok (judged d k acts)) plans ≡ option_map (λ (n : Node). n.path) (find (λ n. good goal n.state) (filter_map planned plans))
    found_among [] = refl
    found_among (acts ∷ plans) =
        ap (λ b. cond b (Some acts) (find (λ more. is_ok (judged d k more)) plans)) (judged_so acts)
        ∙ found_one acts (run d k (state_of k) acts) _ (filter_map planned plans) (found_among plans)

    -- the least good plan is the path of the first course that meets the goal
    pub least_is : (n : ℕ) → least_plan d k n ≡ option_map (λ (n : Node). n.path) (find (λ n. good goal n.state) (courses n))
    least_is n = found_among (plans_of d k n) ∙ ap (λ l. option_map (λ (n : Node). n.path) (find (λ n. good goal n.state) l)) (planned_courses n)
