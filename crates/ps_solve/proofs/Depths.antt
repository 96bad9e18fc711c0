-- A search at a depth: what its nodes are, and what is answered there.
use Rattle.std.proofs.Common.{◌≡◌, ℕ, zero, suc, ◌+◌, ◌-◌, ◌<◌, Bool, true, false, cond, nat_le, List, [], ◌∷◌, Option, Some, None, option_map, unwrap_or, map, flat_map, length, refl, ap, sym, ◌∙◌, subst, arith, add-one}
use Rattle.std.proofs.lemmas.List.Folds.{flat_map-map}
use Rattle.ps_world.specs.declared.conditions.Cond.{Cond}
use Rattle.ps_world.specs.declared.domains.Domain.{Domain}
use Rattle.ps_world.specs.declared.known.Knowledge.{Knowledge}
use Rattle.ps_action.specs.declared.acts.Act.{Act}
use Rattle.ps_action.specs.declared.answers.Answer.{Answer}
use Rattle.ps_action.specs.declared.answers.Answer.TheVariants.{Plan, Spent}
use Rattle.ps_action.specs.Plans.{most_acts}
use Rattle.ps_action.specs.Search.{answer_from, at_depth, least_plan, level, reach, unplanned}
use Rattle.ps_solve.specs.Endings.{ending, searched, unfinished}
use Rattle.ps_ground.specs.States.{State, at, state_of}
use Rattle.ps_ground.specs.Moves.{Node, grounds, moves}
use Rattle.ps_solve.specs.Nodes.{firsts, met}
use Rattle.ps_solve.proofs.Levels.{NoneBefore, found, least_at, level_is, nodes, none_after, reach_length, reached}

-- ---- from one depth to the next

pub from_more : (d : Domain) (k : Knowledge) (budget most depth : ℕ) → depth < most → answer_from d k budget (most - depth) depth ≡ at_depth d k budget depth (least_plan d k depth) (answer_from d k budget (most - (depth + 1)) (depth + 1))
from_more d k budget most depth h =
    let e : most - depth ≡ suc (most - (depth + 1)) = omega arith in
    ap (λ m. answer_from d k budget m depth) e

-- A search for this goal has these nodes at a depth and has met these states, and none before met the goal.
pub record IsAtDepth (d : Domain) (k : Knowledge) (goal : Cond) (n : ℕ) (ns : List Node) (seen : List State) : Type 0 where
  pub nodes_are : ns ≡ nodes d k n
  pub seen_are : seen ≡ reached d k n
  pub none : NoneBefore d k goal n

module _ (d : Domain) (k : Knowledge) (goal : Cond) where
  -- what is found at first
  pub begins_at : (start : State) (next : List Node) (seen : List State) → start ≡ state_of k → next ≡ record { state = start; path = [] } ∷ [] → seen ≡ start ∷ [] → IsAtDepth d k goal 0 next seen
  begins_at start next seen is_start is_next is_seen = record {
    nodes_are = is_next ∙ (λ i. record { state = is_start i; path = [] } ∷ []);
    seen_are = is_seen ∙ (λ i. is_start i ∷ []);
    none = tt;
  }

  -- one depth on, where no node meets the goal
  pub deepens : (n : ℕ) (ns : List Node) (seen : List State) → IsAtDepth d k goal n ns seen → found d k goal ns ≡ None → IsAtDepth d k goal (n + 1) (firsts seen (flat_map (moves d k (grounds d k)) ns)) (met seen (flat_map (moves d k (grounds d k)) ns))
  deepens n ns seen h e =
      let next = flat_map (moves d k (grounds d k)) in
      let P : ℕ → Type 0 = λ m. IsAtDepth d k goal m (firsts seen (next ns)) (met seen (next ns)) in
      subst P (sym (add-one n)) (record {
        nodes_are = λ i. firsts (h.seen_are i) (next (h.nodes_are i));
        seen_are = λ i. met (h.seen_are i) (next (h.nodes_are i));
        none = none_after d k goal n h.none (ap (found d k goal) (sym h.nodes_are) ∙ e);
      })

  -- the same by other steps that lead to the same nodes from these
  pub deepens_by : (X : Type 0) (plain : X → Node) (moved : Node → List Node) → ((x : X) → moved (plain x) ≡ moves d k (grounds d k) (plain x)) → (n : ℕ) (xs read : List X) (next : List Node) (seen later : List State) → IsAtDepth d k goal n (map plain xs) seen → found d k goal (map plain xs) ≡ None → read ≡ xs → next ≡ firsts seen (flat_map moved (map plain read)) → later ≡ met seen (flat_map moved (map plain read)) → IsAtDepth d k goal (n + 1) next later
  deepens_by X plain moved same n xs read next seen later h none is_read is_next is_later =
      let deeper = deepens n (map plain xs) seen h none in
      let each : flat_map moved (map plain xs) ≡ flat_map (moves d k (grounds d k)) (map plain xs) =
      (flat_map-map moved plain xs ∙ (λ i. flat_map (λ x. same x i) xs) ∙ sym (flat_map-map (moves d k (grounds d k)) plain xs)) in
      let all : flat_map moved (map plain read) ≡ flat_map (moves d k (grounds d k)) (map plain xs) = ap (λ l. flat_map moved (map plain l)) is_read ∙ each in
      record {
        nodes_are = is_next ∙ ap (firsts seen) all ∙ deeper.nodes_are;
        seen_are = is_later ∙ ap (met seen) all ∙ deeper.seen_are;
        none = deeper.none;
      }

  budget_at : (b : Bool) (n : ℕ) (next : Answer) → unwrap_or (cond b (Some (Spent n)) None) next ≡ cond b (Spent n) next
  budget_at true n next = refl
  budget_at false n next = refl

  unplanned_at : (ns : List Node) (count budget n : ℕ) (next : Answer) → length (reach d k n) ≡ count → unwrap_or (unfinished ns count budget n) next ≡ unplanned (map (λ m. at k m.state) ns) (reach d k n) budget n next
  unplanned_at [] count budget n next e = refl
  unplanned_at (m ∷ ns) count budget n next e = budget_at (nat_le budget count) n next ∙ ap (λ c. cond (nat_le budget c) (Spent n) next) (sym e)

  ends_at : (o : Option (List Act)) (ns : List Node) (count budget n : ℕ) (next : Answer) → level d k n ≡ map (λ m. at k m.state) ns → length (reach d k n) ≡ count → unwrap_or (ending o ns count budget n) next ≡ at_depth d k budget n o next
  ends_at None ns count budget n next l e = unplanned_at ns count budget n next e ∙ ap (λ ks. unplanned ks (reach d k n) budget n next) (sym l)
  ends_at (Some path) ns count budget n next l e = refl

  module _ (there : k.goal ≡ Some goal) where
    -- what is answered at a depth
    pub answers : (n : ℕ) (ns : List Node) (seen : List State) (budget : ℕ) (next : Answer) → IsAtDepth d k goal n ns seen → unwrap_or (ending (option_map (λ (m : Node). m.path) (found d k goal ns)) ns (length seen) budget n) next ≡ at_depth d k budget n (least_plan d k n) next
    answers n ns seen budget next h =
        let level_here : level d k n ≡ map (λ m. at k m.state) ns = level_is d k n ∙ ap (map (λ m. at k m.state)) (sym h.nodes_are) in
        let count_here : length (reach d k n) ≡ length seen = reach_length d k n ∙ ap length (sym h.seen_are) in
        let least_here : option_map (λ (m : Node). m.path) (found d k goal ns) ≡ least_plan d k n = ap (λ l. option_map (λ (m : Node). m.path) (found d k goal l)) h.nodes_are ∙ sym (least_at d k goal there n h.none) in
        ends_at _ ns (length seen) budget n next level_here count_here ∙ ap (λ o. at_depth d k budget n o next) least_here

    -- where there is a plan of so many acts, the least of them is answered, however many depths are left
    planned : (budget more n : ℕ) (path : List Act) → least_plan d k n ≡ Some path → Plan path ≡ answer_from d k budget more n
    planned budget zero n path e = ap (λ o. at_depth d k budget n o (Spent n)) (sym e)
    planned budget (suc more) n path e = ap (λ o. at_depth d k budget n o (answer_from d k budget more (n + 1))) (sym e)

    -- where a node at a depth meets the goal, the path of the first is the answer
    pub is_planned : (n : ℕ) (ns : List Node) (seen : List State) (budget more : ℕ) (path : List Act) → IsAtDepth d k goal n ns seen → option_map (λ (m : Node). m.path) (found d k goal ns) ≡ Some path → Plan path ≡ answer_from d k budget more n
    is_planned n ns seen budget more path h e =
        planned budget more n path (least_at d k goal there n h.none ∙ ap (λ l. option_map (λ (m : Node). m.path) (found d k goal l)) (sym h.nodes_are) ∙ e)

    module _ (n : ℕ) (ns : List Node) (seen : List State) (budget most : ℕ) (h : IsAtDepth d k goal n ns seen) (left : answer_from d k budget (most - n) n ≡ answer_from d k budget most 0) where
      -- what ends the search at this depth
      abbrev ending_here : Option Answer
      ending_here = ending (option_map (λ (m : Node). m.path) (found d k goal ns)) ns (length seen) budget n

      -- what comes next
      abbrev next_here : Answer
      next_here = answer_from d k budget (most - (n + 1)) (n + 1)

      whole : n < most → unwrap_or ending_here next_here ≡ answer_from d k budget most 0
      whole lt = answers n ns seen budget next_here h ∙ sym (from_more d k budget most n lt) ∙ left

      pub stops : n < most → (a : Answer) → ending_here ≡ Some a → a ≡ answer_from d k budget most 0
      stops lt a e = ap (λ o. unwrap_or o next_here) (sym e) ∙ whole lt

      pub goes_on : n < most → ending_here ≡ None → next_here ≡ answer_from d k budget most 0
      goes_on lt e = ap (λ o. unwrap_or o next_here) (sym e) ∙ whole lt

      -- the last depth
      pub is_last : n ≡ most → unwrap_or ending_here (Spent n) ≡ answer_from d k budget most 0
      is_last e =
          let none_left : 0 ≡ most - n = omega arith in
          answers n ns seen budget (Spent n) h ∙ ap (λ m. answer_from d k budget m n) none_left ∙ left

none_path : (o : Option Node) → option_map (λ (m : Node). m.path) o ≡ None → o ≡ None
none_path None e = refl
none_path (Some m) e = absurd (cc)

-- where no node has a path to the goal, none meets it
pub none_found : (d : Domain) (k : Knowledge) (goal : Cond) (ns : List Node) → option_map (λ (m : Node). m.path) (found d k goal ns) ≡ None → found d k goal ns ≡ None
none_found d k goal ns e = none_path (found d k goal ns) e

-- an answer that is right for the most acts there are
pub searched_from : (d : Domain) (k : Knowledge) (budget : ℕ) (a : Answer) → ((most : ℕ) → most ≡ most_acts → a ≡ answer_from d k budget most 0) → a ≡ searched d k budget
unfolding searched
searched_from d k budget a h = h most_acts refl
