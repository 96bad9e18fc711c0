-- The levels of a planner's space are the levels of its nodes.
use Rattle.std.proofs.Common.{◌≡◌, ℕ, zero, suc, ◌+◌, Bool, true, false, cond, nat_le, List, [], ◌∷◌, ◌++◌, Option, Some, None, option_map, unwrap_or, flat_map, length, map, refl, ap, sym, ◌∙◌, append_assoc, add-one, ◌||◌}
use Rattle.std.proofs.lemmas.List.{append-nil, length-map, map-append}
use Rattle.ps_world.specs.declared.conditions.Cond.{Cond}
use Rattle.ps_world.specs.declared.domains.Domain.{Domain}
use Rattle.ps_world.specs.declared.known.Knowledge.{Knowledge}
use Rattle.ps_action.specs.Search.{answer_from as answer_of_depth, at_depth as at_depth_of, least_plan, reach as reach_of}
use Rattle.ps_action.specs.declared.acts.Act.{Act}
use Rattle.ps_action.specs.declared.answers.Answer.{Answer}
use Rattle.ps_action.specs.declared.answers.Answer.TheVariants.{Spent as SpentAt}
use Rattle.ps_levels.specs.Levels.{Space, answer_from, at_depth, first_good, fresh, is_met, level, reach}
use Rattle.ps_levels.specs.declared.searching.Found.{Found}
use Rattle.ps_levels.specs.declared.searching.Found.TheVariants.{Spent}
use Rattle.ps_solve.specs.Endings.{ending}
use Rattle.ps_ground.specs.Moves.{Node, moves, grounds}
use Rattle.ps_solve.specs.Nodes.{firsts, is_met as is_met_state, met, same_state, with_state}
use Rattle.ps_solve.specs.Spaces.{FindsTheAnswer, answer_of, path_of, space}
use Rattle.ps_ground.specs.States.{State}
use Rattle.ps_solve.proofs.Depths.{answers, searched_from}
use Rattle.ps_solve.proofs.Levels.{NoneBefore, found, nodes, none_after, reach_length, reached}

module _ (d : Domain) (k : Knowledge) (goal : Cond) where
  abbrev p : Space Node State
  p = space d k goal

  abbrev states : List Node → List State
  states ns = map (λ n. n.state) ns

  met_same : (old : List Node) (s : State) → is_met p old s ≡ is_met_state (states old) s
  met_same [] s = refl
  met_same (n ∷ ns) s = ap (λ b. same_state s n.state || b) (met_same ns s)

  -- new nodes are those whose states weren't met
  pub fresh_is : (old ns : List Node) → fresh p old ns ≡ firsts (states old) ns
  fresh_is old [] = refl
  fresh_is old (n ∷ ns) =
      let more = fresh_is (old ++ n ∷ []) ns ∙ ap (λ l. firsts l ns) (map-append (λ (m : Node). m.state) old (n ∷ [])) in
      λ i. cond (met_same old n.state i) (fresh_is old ns i) (n ∷ more i)

  met_is : (seen : List State) (ns : List Node) → met seen ns ≡ seen ++ states (firsts seen ns)
  met_is seen [] = sym (append-nil seen)
  met_is seen (n ∷ ns) =
      let more = with_state seen n.state in
      elim (is_met_state seen n.state) as (λ b. cond b (met seen ns) (met more ns) ≡ seen ++ states (cond b (firsts seen ns) (n ∷ firsts more ns))) [
        | true ↦ met_is seen ns
        | false ↦ met_is more ns ∙ append_assoc seen (n.state ∷ []) (states (firsts more ns))
      ]

  -- the levels are the same
  pub level_same : (n : ℕ) → (level p n ≡ nodes d k n) × (states (reach p n) ≡ reached d k n)
  level_same zero = (refl, refl)
  level_same (suc n) =
      let old = level_same n in
      let next = flat_map (moves d k (grounds d k)) in
      let here : level p (suc n) ≡ nodes d k (suc n) = fresh_is (reach p n) (next (level p n)) ∙ (λ i. firsts (old.1 i) (next (old.0 i))) in (
        here,
        map-append (λ (m : Node). m.state) (reach p n) (level p (suc n)) ∙ (λ i. old.1 i ++ states (here i)) ∙ sym (met_is (reached d k n) (next (nodes d k n))),
      )

  pub as_many : (n : ℕ) → length (reach p n) ≡ length (reach_of d k n)
  as_many n =
      sym (length-map (reach p n) (λ (m : Node). m.state)) ∙ ap length (level_same n).1 ∙ sym (reach_length d k n)

  -- ---- the answer

  budget_at : (b : Bool) (n : ℕ) (next : Found (List Act)) → answer_of (cond b (Spent n) next) ≡ unwrap_or (cond b (Some (SpentAt n)) None) (answer_of next)
  budget_at true n next = refl
  budget_at false n next = refl

  at_same : (o : Option Node) (ns all : List Node) (budget n : ℕ) (next : Found (List Act)) → answer_of (at_depth path_of o ns all budget n next) ≡ unwrap_or (ending (option_map path_of o) ns (length all) budget n) (answer_of next)
  at_same (Some m) ns all budget n next = refl
  at_same None [] all budget n next = refl
  at_same None (m ∷ ns) all budget n next = budget_at (nat_le budget (length all)) n next

  next_same : (o : Option Node) (ns : List Node) (count budget n : ℕ) (a b : Answer) → (o ≡ None → a ≡ b) → unwrap_or (ending (option_map path_of o) ns count budget n) a ≡ unwrap_or (ending (option_map path_of o) ns count budget n) b
  next_same (Some m) ns count budget n a b h = refl
  next_same None ns count budget n a b h = ap (λ x. unwrap_or (ending None ns count budget n) x) (h refl)

  module _ (there : k.goal ≡ Some goal) (budget : ℕ) where
    -- what is answered at a depth, where what comes next is the same
    here_same : (n : ℕ) → NoneBefore d k goal n → (next : Found (List Act)) (after : Answer) → (found d k goal (nodes d k n) ≡ None → answer_of next ≡ after) → answer_of (at_depth path_of (first_good p (level p n)) (level p n) (reach p n) budget n next) ≡ at_depth_of d k budget n (least_plan d k n) after
    here_same n none next after same =
        let ns = level_same n in
        let count : length (reach p n) ≡ length (reached d k n) = sym (length-map (reach p n) (λ (m : Node). m.state)) ∙ ap length ns.1 in
        at_same (first_good p (level p n)) (level p n) (reach p n) budget n next
        ∙ (λ i. unwrap_or (ending (option_map path_of (first_good p (ns.0 i))) (ns.0 i) (count i) budget n) (answer_of next))
        ∙ next_same (found d k goal (nodes d k n)) (nodes d k n) (length (reached d k n)) budget n (answer_of next) after same
        ∙ answers d k goal there n (nodes d k n) (reached d k n) budget after (record { nodes_are = refl; seen_are = refl; none = none })

    same_from : (more n : ℕ) → NoneBefore d k goal n → answer_of (answer_from p path_of budget more n) ≡ answer_of_depth d k budget more n
    same_from zero n none = here_same n none (Spent n) (SpentAt n) (λ e. refl)
    same_from (suc more) n none =
        here_same n none (answer_from p path_of budget more (suc n)) (answer_of_depth d k budget more (n + 1))
        (λ e. same_from more (suc n) (none_after d k goal n none e) ∙ ap (answer_of_depth d k budget more) (sym (add-one n)))

pub finds_the_answer : FindsTheAnswer
finds_the_answer d k goal budget most there is =
    searched_from d k budget (answer_of (answer_from (space d k goal) path_of budget most 0))
    (λ all e. same_from d k goal there budget most 0 tt ∙ ap (λ m. answer_of_depth d k budget m 0) (is ∙ sym e))
