-- Levels of nodes are the levels of what is known, and each node has the first of all paths to its state.
use Rattle.std.proofs.Common.{◌≡◌, ℕ, zero, suc, ◌+◌, true, false, cond, ◌||◌, List, [], ◌∷◌, ◌++◌, Option, Some, None, option_map, map, find, filter_map, flat_map, length, refl, ap, sym, ◌∙◌, inl, inr}
use Rattle.std.specs.List.{list_any}
use Rattle.std.proofs.lemmas.List.{length-append, length-map}
use Rattle.std.proofs.lemmas.List.Folds.{list_any-append}
use Rattle.ps_world.specs.declared.conditions.Cond.{Cond}
use Rattle.ps_world.specs.declared.domains.Domain.{Domain}
use Rattle.ps_world.specs.declared.known.Knowledge.{Knowledge}
use Rattle.ps_action.specs.declared.acts.GroundAction.{GroundAction}
use Rattle.ps_action.specs.Search.{fresh, is_there, least_plan, level, reach, same_known}
use Rattle.ps_action.proofs.Contained.{or_cases}
use Rattle.ps_ground.specs.States.{State, at, state_of, stepped}
use Rattle.ps_ground.specs.Moves.{Node, grounds, move, moves}
use Rattle.ps_solve.specs.Nodes.{firsts, is_met, levels, root, same_state, with_state}
use Rattle.ps_solve.proofs.Courses.{courses, ends_are, good, least_is}
use Rattle.ps_solve.proofs.Firsts.{LeadInto, NoneGood, all_lead, all_still_met, expands, found_first, is_met-met, length-met, none_found, states}
use Rattle.ps_ground.proofs.Lists.{map-filter_map}
use Rattle.ps_solve.proofs.SameStates.{met_more, same_known-at}

module _ (d : Domain) (k : Knowledge) where
  -- the nodes of a level
  abbrev pub nodes : ℕ → List Node
  nodes n = (levels d k (grounds d k) n).0

  -- the states up to a level
  abbrev pub reached : ℕ → List State
  reached n = (levels d k (grounds d k) n).1

  -- what a node leads to
  abbrev pub next_nodes : Node → List Node
  next_nodes = moves d k (grounds d k)

  -- what a state leads to
  abbrev pub succs : State → List State
  succs s = filter_map (stepped d k s) (grounds d k)

  state_only : (n : Node) (g : GroundAction) (o : Option State) → option_map (λ (m : Node). m.state) (option_map (λ s. record { state = s; path = n.path ++ g.act ∷ [] }) o) ≡ o
  state_only n g None = refl
  state_only n g (Some s) = refl

  next_states : (n : Node) → states (next_nodes n) ≡ succs n.state
  next_states n =
      map-filter_map (λ (m : Node). m.state) (move d k n) (grounds d k)
      ∙ (λ i. filter_map (λ g. state_only n g (stepped d k n.state g) i) (grounds d k))

  -- all that a state leads to is met one level on
  pub leads : (n : ℕ) → LeadInto succs (reached n) (reached (suc n))
  leads zero s e = all_lead next_nodes succs next_states s (root k ∷ []) (state_of k ∷ []) e
  leads (suc n) s e =
      elim (or_cases (is_met (reached n) s) (list_any (same_state s) (states (nodes (suc n)))) (sym (is_met-met s (reached n) (flat_map next_nodes (nodes n))) ∙ e)) [
        | inl old ↦ all_still_met (succs s) (reached (suc n)) (flat_map next_nodes (nodes (suc n))) (leads n s old)
        | inr new ↦ all_lead next_nodes succs next_states s (nodes (suc n)) (reached (suc n)) new
      ]

  -- a level is of the first courses to new states
  pub first_courses : (n : ℕ) → nodes (suc n) ≡ firsts (reached n) (courses d k (suc n))
  first_courses zero = refl
  first_courses (suc n) =
      ap (λ l. firsts (reached (suc n)) (flat_map next_nodes l)) (first_courses n)
      ∙ sym (expands next_nodes succs next_states (courses d k (suc n)) (reached n) (reached (suc n)) (leads n))

  -- ---- what is known

  abbrev known : List Node → List Knowledge
  known ns = map (λ m. at k m.state) ns

  fresh_is : (ns : List Node) (old : List Knowledge) (seen : List State) → ((s : State) → is_there old (at k s) ≡ is_met seen s) → fresh old (known ns) ≡ known (firsts seen ns)
  fresh_is [] old seen h = refl
  fresh_is (n ∷ ns) old seen h =
      let more = with_state seen n.state in
      let here = at k n.state in
      ap (λ b. cond b (fresh old (known ns)) (here ∷ fresh (here ∷ old) (known ns))) (h n.state)
      ∙ elim (is_met seen n.state) as (λ b. cond b (fresh old (known ns)) (here ∷ fresh (here ∷ old) (known ns)) ≡ known (cond b (firsts seen ns) (n ∷ firsts more ns))) [
        | true ↦ fresh_is ns old seen h
        | false ↦ ap (λ l. here ∷ l) (fresh_is ns (here ∷ old) more (λ s. (λ i. same_known-at k s n.state i || h s i) ∙ sym (met_more s n.state seen)))
      ]

  there_known : (s : State) (ns : List Node) → is_there (known ns) (at k s) ≡ list_any (same_state s) (states ns)
  there_known s [] = refl
  there_known s (n ∷ ns) = λ i. same_known-at k s n.state i || there_known s ns i

  level_more : (n : ℕ) → ((s : State) → is_there (reach d k n) (at k s) ≡ is_met (reached n) s) → level d k (suc n) ≡ known (nodes (suc n))
  level_more n h = ap (fresh (reach d k n)) (ends_are d k (suc n)) ∙ fresh_is (courses d k (suc n)) (reach d k n) (reached n) h ∙ ap known (sym (first_courses n))

  -- what so many steps lead to is what is known in the states that are met
  pub reach_is : (n : ℕ) (s : State) → is_there (reach d k n) (at k s) ≡ is_met (reached n) s
  reach_is zero s = ap (λ b. b || false) (same_known-at k s (state_of k))
  reach_is (suc n) s =
      list_any-append (same_known (at k s)) (reach d k n) (level d k (suc n))
      ∙ (λ i. reach_is n s i || is_there (level_more n (reach_is n) i) (at k s))
      ∙ ap (λ b. is_met (reached n) s || b) (there_known s (nodes (suc n)))
      ∙ sym (is_met-met s (reached n) (flat_map next_nodes (nodes n)))

  pub level_is : (n : ℕ) → level d k n ≡ known (nodes n)
  level_is zero = refl
  level_is (suc n) = level_more n (reach_is n)

  pub reach_length : (n : ℕ) → length (reach d k n) ≡ length (reached n)
  reach_length zero = refl
  reach_length (suc n) =
      let here : length (level d k (suc n)) ≡ length (nodes (suc n)) = ap length (level_is (suc n)) ∙ length-map (nodes (suc n)) (λ (m : Node). at k m.state) in
      length-append (reach d k n) (level d k (suc n)) ∙ (λ i. reach_length n i + here i)
      ∙ sym (length-met (reached n) (flat_map next_nodes (nodes n)))

  -- ---- the goal

  -- no state of an earlier level meets the goal
  abbrev pub NoneBefore : Cond → ℕ → Type 0
  NoneBefore goal zero = Unit {0}
  NoneBefore goal (suc n) = NoneGood (good d k goal) (reached n)

  -- the first node that meets the goal
  abbrev pub found : Cond → List Node → Option Node
  found goal ns = find (λ n. good d k goal n.state) ns

  pub none_after : (goal : Cond) (n : ℕ) → NoneBefore goal n → found goal (nodes n) ≡ None → NoneBefore goal (suc n)
  none_after goal zero h e s m = none_found (good d k goal) s (root k ∷ []) e m
  none_after goal (suc n) h e s m =
      elim (or_cases (is_met (reached n) s) (list_any (same_state s) (states (nodes (suc n)))) (sym (is_met-met s (reached n) (flat_map next_nodes (nodes n))) ∙ m)) [
        | inl old ↦ h s old
        | inr new ↦ none_found (good d k goal) s (nodes (suc n)) e new
      ]

  module _ (goal : Cond) (there : k.goal ≡ Some goal) where
    pub least_at : (n : ℕ) → NoneBefore goal n → least_plan d k n ≡ option_map (λ (m : Node). m.path) (found goal (nodes n))
    least_at zero h = least_is d k goal there 0
    least_at (suc n) h =
        least_is d k goal there (suc n)
        ∙ ap (option_map (λ (m : Node). m.path)) (sym (found_first (good d k goal) (courses d k (suc n)) (reached n) h) ∙ ap (found goal) (sym (first_courses n)))
