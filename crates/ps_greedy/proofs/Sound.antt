-- What the greedy search answers is sound.
use Rattle.std.proofs.Common.{◌≡◌, ◌⊎◌, ℕ, zero, suc, ◌+◌, ◌<◌, ◌≤◌, nat_le, nat_lt, nat_eq, Bool, true, false, cond, not, ◌||◌, ◌&&◌, List, [], ◌∷◌, ◌++◌, Option, Some, None, option_map, Result, Ok, Err, is_ok, IsOk, length, map, filter, filter_map, find, inl, inr, refl, ap, sym, ◌∙◌, subst, arith}
use Rattle.std.specs.Cmp.{first_so, second_so}
use Rattle.std.specs.List.{AllPairs, Contains, list_any}
use Rattle.std.specs.Option.{option_map_or}
use Rattle.std.specs.Result.{result_ok}
use Rattle.std.proofs.lemmas.Bool.{eqb-false, lt-ltb, ltb-true, or_left}
use Rattle.std.proofs.lemmas.List.{map-append}
use Rattle.ps_world.specs.CondViews.{cond_tree}
use Rattle.ps_world.specs.Names.{same_name}
use Rattle.ps_world.specs.Knowledge.{action_of}
use Rattle.ps_world.specs.declared.names.Name.{Name}
use Rattle.ps_world.specs.declared.actions.ActionDef.{ActionDef}
use Rattle.ps_world.specs.declared.conditions.Cond.{Cond}
use Rattle.ps_world.specs.declared.facts.Fact.{Fact}
use Rattle.ps_world.specs.declared.domains.Domain.{Domain}
use Rattle.ps_world.specs.declared.known.Knowledge.{Knowledge}
use Rattle.ps_action.specs.Grounding.{all_ground, first_unfit, ground_act, ground_by, grounded, most_ground}
use Rattle.ps_action.specs.Refusals.{unless}
use Rattle.ps_action.specs.declared.refusals.GroundRefusal.{GroundRefusal}
use Rattle.ps_action.specs.Plans.{IsGoodPlan, after_steps, and_then, judged, judged_by, most_acts, step, where_true}
use Rattle.ps_action.specs.Search.{is_there, possible_acts, same_known}
use Rattle.ps_action.specs.Truth.{is_true}
use Rattle.ps_action.specs.declared.acts.Act.{Act}
use Rattle.ps_action.specs.declared.acts.GroundAction.{GroundAction}
use Rattle.ps_action.specs.declared.refusals.PlanRefusal.{PlanRefusal}
use Rattle.ps_action.specs.declared.refusals.PlanRefusal.TheVariants.{GoalFalse}
use Rattle.ps_domain.proofs.Members.{Has, has_found, has_from_Contains, has_image}
use Rattle.ps_domain.proofs.AllActions.{ground_actions_are_all}
use Rattle.ps_marks.proofs.Members.{no_both}
use Rattle.ps_marks.proofs.Steps.{act_from_parts, parts_of_act, same_goal, same_instances, then_is}
use Rattle.ps_greedy.specs.Greedy.{Spot, answered, can_expand, child, children, done, ended, first_spot, missing_in, greedy, greedy_from, greedy_to, next, unseen}
use Rattle.ps_greedy.specs.Laws.{GreedyIsSound, IsDistinct, IsSoundAnswer}
use Rattle.ps_greedy.specs.declared.found.Found.{Found}
use Rattle.ps_greedy.specs.declared.found.Found.TheVariants.{Plan, NoPlan, Spent, TooMany}
use Rattle.ps_greedy.proofs.Known.{known_itself, known_same, there_first, there_later}
use Rattle.ps_greedy.proofs.Spots.{Covered, IsNext, covered, has_either, has_gift, has_given, is_unseen, knowns, next_is, none_any, none_found, spot_there, stuck}

-- ---- steps, whatever their places

step_at : (d : Domain) (k l : Knowledge) (i j : ℕ) (act : Act) → step d k i act ≡ Ok l → step d k j act ≡ Ok l
step_at d k l i j act e = let p = parts_of_act d k i act l e in act_from_parts d k j act p.0 p.2.0 l p.1 p.2.1

step_instances : (d : Domain) (k l : Knowledge) (i : ℕ) (act : Act) → step d k i act ≡ Ok l → l.instances ≡ k.instances
step_instances d k l i act e =
    let p = parts_of_act d k i act l e in
    let s = p.2.1 in
    same_instances d p.2.0 p.0.effects.at_end l s.ended ∙ same_instances d k p.0.effects.at_start p.2.0 s.begun

step_goal : (d : Domain) (k l : Knowledge) (i : ℕ) (act : Act) → step d k i act ≡ Ok l → l.goal ≡ k.goal
step_goal d k l i act e =
    let p = parts_of_act d k i act l e in
    let s = p.2.1 in
    same_goal d p.2.0 p.0.effects.at_end l s.ended ∙ same_goal d k p.0.effects.at_start p.2.0 s.begun

-- one more act
one_more : (d : Domain) (path : List Act) (k m l : Knowledge) (i : ℕ) (act : Act) → after_steps d k i path ≡ Ok m → step d m 0 act ≡ Ok l → after_steps d k i (path ++ act ∷ []) ≡ Ok l
one_more d [] k m l i act e s =
    let same : k ≡ m = cc in
    let P : Knowledge → Type 0 = λ x. step d x 0 act ≡ Ok l in
    rw (step_at d k l 0 i act (subst P (sym same) s)) refl
one_more d (a ∷ path) k m l i act e s =
    let one = then_is (λ r. r) (step d k i a) (λ x. after_steps d x (i + 1) path) m e in
    rw one.1 (one_more d path one.0 m l (i + 1) act one.2 s)

length_more : (path : List Act) (act : Act) → length (path ++ act ∷ []) ≡ suc (length path)
length_more [] act = refl
length_more (a ∷ path) act = ap suc (length_more path act)

made_by : (make : Knowledge → Spot) (r : Result Knowledge PlanRefusal) (m : Spot) → option_map make (result_ok r) ≡ Some m → (l : Knowledge) × (r ≡ Ok l) × (make l ≡ m)
made_by make (Ok l) m e = (l, refl, cc)
made_by make (Err x) m e = absurd (cc)

below : (a b : ℕ) → nat_lt a b ≡ true → a < b
below a b e = ltb-true a b e

-- ---- the act of a ground action

module _ (d : Domain) (instances : List (Name × Name)) (act : Act) (g : GroundAction) where
  act_unless : (a : ActionDef) (fault : Option GroundRefusal) → unless fault (grounded a act) ≡ Ok g → g.act ≡ act
  act_unless a None e = let same : g ≡ grounded a act = cc in ap (λ (h : GroundAction). h.act) same
  act_unless a (Some r) e = absurd (cc)

  act_where : (a : ActionDef) (b : Bool) (why : GroundRefusal) (r : Result GroundAction GroundRefusal) → (r ≡ Ok g → g.act ≡ act) → cond b r (Err why) ≡ Ok g → g.act ≡ act
  act_where a true why r h e = h e
  act_where a false why r h e = absurd (cc)

  act_by : (o : Option ActionDef) → ground_by d instances o act ≡ Ok g → g.act ≡ act
  act_by None e = absurd (cc)
  act_by (Some a) e = act_where a _ _ (unless (first_unfit d instances a.params act.args 0) (grounded a act)) (act_unless a (first_unfit d instances a.params act.args 0)) e

  act_is : ground_act d instances act ≡ Ok g → g.act ≡ act
  act_is e = act_by (action_of d act.action) e

-- an act that can be grounded is possible
grounded_there : (d : Domain) (k : Knowledge) → IsDistinct d k → (act : Act) (g : GroundAction) → ground_act d k.instances act ≡ Ok g → Has (possible_acts d k) act
grounded_there d k distinct act g e =
    let among = (ground_actions_are_all d k.instances distinct.actions distinct.instances).just g in
    let P : Act → Type 0 = λ a. Has (possible_acts d k) a in
    subst P (act_is d k.instances act g e) (has_image (λ (h : GroundAction). h.act) (all_ground d k.instances) g (has_from_Contains _ _ (among.1 (act, e))))

-- ---- the search

module _ (d : Domain) (k : Knowledge) (goal : Cond) where
  abbrev pub good : Spot → Bool
  good n = is_true d n.known (cond_tree goal)

  -- a node is where its path leads
  pub record IsReached (n : Spot) : Type 0 where
    pub ran : after_steps d k 0 n.path ≡ Ok n.known
    pub few : length n.path ≤ most_acts
    pub instances : n.known.instances ≡ k.instances
    pub goal_is : n.known.goal ≡ k.goal

  -- what one step of a possible act from a node leads to is there
  abbrev pub LeadsInto : List Knowledge → Spot → Type 0
  LeadsInto ks n = (act : Act) (l : Knowledge) → Has (possible_acts d k) act → step d n.known 0 act ≡ Ok l → is_there ks l ≡ true

  -- nodes as the search has them
  pub record IsTree (ns : List Spot) : Type 0 where
    pub reached : (n : Spot) → Has ns n → IsReached n
    pub closed : (n : Spot) → Has ns n → n.expanded ≡ true → LeadsInto (knowns ns) n
    pub bad : (n : Spot) → Has ns n → good n ≡ false
    pub start : is_there (knowns ns) k ≡ true

  -- ---- good paths

  ok_where : (b : Bool) (last : Knowledge) → b ≡ true → IsOk (where_true b GoalFalse (Ok last))
  ok_where true last e = refl
  ok_where false last e = absurd (cc)

  module _ (there : k.goal ≡ Some goal) where
    good_plan : (n : Spot) → IsReached n → good n ≡ true → IsGoodPlan d k n.path
    good_plan n r e =
        let P : Option Cond → Type 0 = λ o. IsOk (judged_by d k o n.path) in
        let Q : Result Knowledge PlanRefusal → Type 0 = λ o. IsOk (and_then (λ r. r) o (λ last. where_true (is_true d last (cond_tree goal)) GoalFalse (Ok last))) in
        record {
          few = r.few;
          goes_well = subst P (sym there) (subst Q (sym r.ran) (ok_where (good n) n.known e));
        }

    -- ---- where no node is left

    module _ (distinct : IsDistinct d k) (ns : List Spot) (tree : IsTree ns) (all : (n : Spot) → Has ns n → n.expanded ≡ true) where
      led : (acts : List Act) (l last : Knowledge) (i : ℕ) → l.instances ≡ k.instances → l.goal ≡ k.goal → is_there (knowns ns) l ≡ true → after_steps d l i acts ≡ Ok last → (n : Spot) × Has ns n × (last ≡ n.known)
      led [] l last i of to among e =
          let w = spot_there ns l among in
          let r = tree.reached w.0 w.1 in
          let same : l ≡ w.0.known = known_same l w.0.known (of ∙ sym r.instances) (to ∙ sym r.goal_is) w.2 in
          let end : l ≡ last = cc in
          (w.0, w.1, sym end ∙ same)
      led (act ∷ acts) l last i of to among e =
          let w = spot_there ns l among in
          let r = tree.reached w.0 w.1 in
          let same : l ≡ w.0.known = known_same l w.0.known (of ∙ sym r.instances) (to ∙ sym r.goal_is) w.2 in
          let one = then_is (λ x. x) (step d l i act) (λ x. after_steps d x (i + 1) acts) last e in
          let P : Knowledge → Type 0 = λ x. step d x 0 act ≡ Ok one.0 in
          let from = subst P same (step_at d l one.0 i 0 act one.1) in
          let parts = parts_of_act d l i act one.0 one.1 in
          let possible = grounded_there d k distinct act parts.0 (ap (λ instances. ground_act d instances act) (sym of) ∙ parts.1) in
          led acts one.0 last (i + 1) (step_instances d l one.0 i act one.1 ∙ of) (step_goal d l one.0 i act one.1 ∙ to) (tree.closed w.0 w.1 (all w.0 w.1) act one.0 possible from) one.2

      bad_where : (b : Bool) (last : Knowledge) → b ≡ false → is_ok (where_true b GoalFalse (Ok last)) ≡ false
      bad_where true last e = absurd (cc)
      bad_where false last e = refl

      bad_by : (acts : List Act) (o : Result Knowledge PlanRefusal) → after_steps d k 0 acts ≡ o → is_ok (and_then (λ r. r) o (λ last. where_true (is_true d last (cond_tree goal)) GoalFalse (Ok last))) ≡ false
      bad_by acts (Err r) e = refl
      bad_by acts (Ok last) e =
          let w = led acts k last 0 refl refl tree.start e in
          let P : Knowledge → Type 0 = λ l. is_true d l (cond_tree goal) ≡ false in
          bad_where (is_true d last (cond_tree goal)) last (subst P (sym w.2) (tree.bad w.0 w.1))

      none_good : (acts : List Act) → is_ok (judged d k acts) ≡ false
      none_good acts = ap (λ o. is_ok (judged_by d k o acts)) there ∙ bad_by acts (after_steps d k 0 acts) refl

    expanded_by : (a b : Bool) → (not a && b) ≡ false → b ≡ true → a ≡ true
    expanded_by true b e s = refl
    expanded_by false b e s = absurd (no_both b s e)

    short : (a : ℕ) → a ≤ most_acts → nat_eq a most_acts ≡ false → nat_lt a most_acts ≡ true
    short a l e =
        let other : ¬ (a ≡ most_acts) = eqb-false a most_acts e in
        lt-ltb a most_acts (omega (arith, l, other))

    ended_by : (ns : List Spot) → IsTree ns → next ns ≡ None → (b : Bool) → list_any (λ (n : Spot). nat_eq (length n.path) most_acts) ns ≡ b → IsSoundAnswer d k (cond b Spent NoPlan)
    ended_by ns tree e true s = tt
    ended_by ns tree e false s = λ distinct.
        none_good distinct ns tree (λ n a.
        let r = tree.reached n a in
        expanded_by n.expanded (nat_lt (length n.path) most_acts) (stuck ns n e a) (short (length n.path) r.few (none_any (λ (m : Spot). nat_eq (length m.path) most_acts) ns n s a)))

    -- ---- expanding

    module _ where
      module _ (ns : List Spot) (tree : IsTree ns) (n : Spot) (more : List Spot) (s : IsNext ns n more) where
        abbrev new : List Spot
        new = children d (possible_acts d k) more n

        abbrev made_from : Act → Knowledge → Spot
        made_from act l = record { known = l; path = n.path ++ act ∷ []; missing = missing_in l n.missing; expanded = false }

        expandable : (a b : Bool) → (not a && b) ≡ true → b ≡ true
        expandable true b e = absurd (cc)
        expandable false b e = e

        within : length n.path < most_acts
        within = below (length n.path) most_acts (expandable n.expanded (nat_lt (length n.path) most_acts) s.may)

        -- what an act leads to
        child_is : (act : Act) (m : Spot) → child d n act ≡ Some m → (l : Knowledge) × (step d n.known 0 act ≡ Ok l) × (made_from act l ≡ m)
        child_is act m e = made_by (made_from act) (step d n.known 0 act) m e

        of_new : (m : Spot) → Has new m → (act : Act) × (l : Knowledge) × (step d n.known 0 act ≡ Ok l) × (made_from act l ≡ m)
        of_new m a =
            let w = has_given (child d n) (possible_acts d k) m (is_unseen (knowns more) (filter_map (child d n) (possible_acts d k)) m a) in
            let c = child_is w.0 m w.2 in
            (w.0, c.0, c.1, c.2)

        few_more : (act : Act) → length (n.path ++ act ∷ []) ≤ most_acts
        few_more act = omega (arith, within, length_more n.path act)

        reached_new : (m : Spot) → Has new m → IsReached m
        reached_new m a =
            let w = of_new m a in
            let r = tree.reached n s.among in
            subst IsReached w.3 (record {
              ran = one_more d n.path k n.known w.1 0 w.0 r.ran w.2;
              few = few_more w.0;
              instances = step_instances d n.known w.1 0 w.0 w.2 ∙ r.instances;
              goal_is = step_goal d n.known w.1 0 w.0 w.2 ∙ r.goal_is;
            })

        fresh_new : (m : Spot) → Has new m → m.expanded ≡ false
        fresh_new m a = let w = of_new m a in ap (λ (x : Spot). x.expanded) (sym w.3)

        reached_done : IsReached (done n)
        reached_done = let r = tree.reached n s.among in record { ran = r.ran; few = r.few; instances = r.instances; goal_is = r.goal_is }

        old_reached : (x : Spot) → Has more x → IsReached x
        old_reached x a = elim (s.others x a) [ inl old ↦ tree.reached x old | inr same ↦ subst IsReached same reached_done ]

        joined : knowns (more ++ new) ≡ knowns more ++ knowns new
        joined = map-append (λ (m : Spot). m.known) more new

        first_there : (l : Knowledge) → is_there (knowns more) l ≡ true → is_there (knowns (more ++ new)) l ≡ true
        first_there l e = ap (λ ks. is_there ks l) joined ∙ there_first (knowns more) (knowns new) l e

        new_there : (l : Knowledge) → is_there (knowns new) l ≡ true → is_there (knowns (more ++ new)) l ≡ true
        new_there l e = ap (λ ks. is_there ks l) joined ∙ there_later (knowns more) (knowns new) l e

        old_there : (l : Knowledge) → is_there (knowns ns) l ≡ true → is_there (knowns (more ++ new)) l ≡ true
        old_there l e = first_there l (ap (λ ks. is_there ks l) s.known ∙ e)

        -- what a step from the node that is expanded leads to is there
        led_on : (act : Act) (l : Knowledge) → Has (possible_acts d k) act → step d n.known 0 act ≡ Ok l → is_there (knowns (more ++ new)) l ≡ true
        led_on act l there e =
            let is = ap (λ o. option_map (made_from act) (result_ok o)) e in
            let given = has_gift (child d n) (possible_acts d k) act (made_from act l) there is in
            elim (covered (knowns more) (filter_map (child d n) (possible_acts d k)) (made_from act l) given) [
              | inl old ↦ first_there l old
              | inr now ↦ new_there l now
            ]

        closed_old : (x : Spot) → Has more x → x.expanded ≡ true → LeadsInto (knowns (more ++ new)) x
        closed_old x a e =
            elim (s.others x a) [
              | inl old ↦ λ act l there st. old_there l (tree.closed x old e act l there st)
              | inr same ↦ λ act l there st. led_on act l there (ap (λ (m : Spot). step d m.known 0 act) same ∙ st)
            ]

        closed_new : (x : Spot) → Has new x → x.expanded ≡ true → LeadsInto (knowns (more ++ new)) x
        closed_new x a e = absurd (no_both x.expanded e (fresh_new x a))

        bad_old : (x : Spot) → Has more x → good x ≡ false
        bad_old x a = elim (s.others x a) [ inl old ↦ tree.bad x old | inr same ↦ ap good (sym same) ∙ tree.bad n s.among ]

        -- where no new node is good, the nodes are again as the search has them
        grown : find good new ≡ None → IsTree (more ++ new)
        grown e = record {
          reached = λ x a. elim (has_either more new x a) [ inl b ↦ old_reached x b | inr c ↦ reached_new x c ];
          closed = λ x a. elim (has_either more new x a) [ inl b ↦ closed_old x b | inr c ↦ closed_new x c ];
          bad = λ x a. elim (has_either more new x a) [ inl b ↦ bad_old x b | inr c ↦ none_found good new x e c ];
          start = old_there k tree.start;
        }

        found_sound : (o : Option Spot) (enough : Bool) (rest : Found) → find good new ≡ o → (find good new ≡ None → IsSoundAnswer d k rest) → IsSoundAnswer d k (answered o enough rest)
        found_sound (Some m) enough rest e h = let w = has_found good new m e in good_plan m (reached_new m w.0) w.1
        found_sound None true rest e h = tt
        found_sound None false rest e h = h e

      sound_by : (budget fuel : ℕ) (ns : List Spot) (tree : IsTree ns) (o : Option (Spot × List Spot)) → next ns ≡ o → ((ms : List Spot) → IsTree ms → IsSoundAnswer d k (greedy_from d (possible_acts d k) goal budget fuel ms)) → IsSoundAnswer d k (option_map_or (λ n. answered (find (λ m. is_true d m.known (cond_tree goal)) (children d (possible_acts d k) n.1 n.0)) (nat_le budget (length (n.1 ++ children d (possible_acts d k) n.1 n.0))) (greedy_from d (possible_acts d k) goal budget fuel (n.1 ++ children d (possible_acts d k) n.1 n.0))) o (ended ns))
      sound_by budget fuel ns tree None e h = ended_by ns tree e (list_any (λ (n : Spot). nat_eq (length n.path) most_acts) ns) refl
      sound_by budget fuel ns tree (Some u) e h =
          let s = next_is ns u e in
          let news = children d (possible_acts d k) u.1 u.0 in
          found_sound ns tree u.0 u.1 s (find good news) (nat_le budget (length (u.1 ++ news))) (greedy_from d (possible_acts d k) goal budget fuel (u.1 ++ news)) refl (λ f. h (u.1 ++ news) (grown ns tree u.0 u.1 s f))

      sound_from : (budget fuel : ℕ) (ns : List Spot) → IsTree ns → IsSoundAnswer d k (greedy_from d (possible_acts d k) goal budget fuel ns)
      sound_from budget zero ns tree = tt
      sound_from budget (suc fuel) ns tree = sound_by budget fuel ns tree (next ns) refl (λ ms t. sound_from budget fuel ms t)

      reached_first : (marks : List Fact) → IsReached (first_spot k marks)
      reached_first marks = record { ran = refl; few = omega (arith); instances = refl; goal_is = refl }

      begun : (marks : List Fact) → is_true d k (cond_tree goal) ≡ false → IsTree (first_spot k marks ∷ [])
      begun marks e = record {
        reached = λ n a. elim a [ inl same ↦ subst IsReached same (reached_first marks) | inr none ↦ absurd none ];
        closed = λ n a x. elim a [ inl same ↦ absurd (no_both n.expanded x (ap (λ (m : Spot). m.expanded) (sym same))) | inr none ↦ absurd none ];
        bad = λ n a. elim a [ inl same ↦ ap good (sym same) ∙ e | inr none ↦ absurd none ];
        start = or_left (same_known k k) false (known_itself k);
      }

      sound_at : (budget : ℕ) (marks : List Fact) (b : Bool) → is_true d k (cond_tree goal) ≡ b → IsSoundAnswer d k (cond b (Plan []) (greedy_from d (possible_acts d k) goal budget budget (first_spot k marks ∷ [])))
      sound_at budget marks true e = good_plan (first_spot k marks) (reached_first marks) e
      sound_at budget marks false e = sound_from budget budget (first_spot k marks ∷ []) (begun marks e)

module _ (d : Domain) (k : Knowledge) where
  sound_to : (budget : ℕ) (marks : List Fact) (o : Option Cond) → k.goal ≡ o → IsSoundAnswer d k (greedy_to d k budget marks o)
  sound_to budget marks None e = λ distinct acts. ap (λ o. is_ok (judged_by d k o acts)) e
  sound_to budget marks (Some goal) e = sound_at d k goal e budget marks (is_true d k (cond_tree goal)) refl

  sound_if : (budget : ℕ) (marks : List Fact) (b : Bool) → IsSoundAnswer d k (cond b TooMany (greedy_to d k budget marks k.goal))
  sound_if budget marks true = tt
  sound_if budget marks false = sound_to budget marks k.goal refl

pub greedy_is_sound : GreedyIsSound
unfolding greedy
greedy_is_sound d k budget marks = sound_if d k budget marks (nat_lt most_ground (length (all_ground d k.instances)))
