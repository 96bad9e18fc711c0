-- What a node leads to, by the definition of the search, is what its state leads to.
use Rattle.std.proofs.Common.{◌≡◌, ℕ, Bool, true, false, cond, ◌||◌, List, [], ◌∷◌, ◌++◌, Option, Some, None, option_map, filter_map, find, map, refl, ap, sym, ◌∙◌}
use Rattle.std.specs.Result.{result_ok}
use Rattle.ps_world.specs.CondViews.{cond_tree}
use Rattle.ps_world.specs.declared.conditions.Cond.{Cond}
use Rattle.ps_world.specs.declared.domains.Domain.{Domain}
use Rattle.ps_world.specs.declared.facts.Fact.{Fact}
use Rattle.ps_world.specs.declared.known.Knowledge.{Knowledge}
use Rattle.ps_action.specs.Plans.{step}
use Rattle.ps_action.specs.Search.{is_there, possible_acts, same_known}
use Rattle.ps_action.specs.Truth.{is_true}
use Rattle.ps_action.specs.declared.acts.Act.{Act}
use Rattle.ps_levels.specs.Levels.{Space, first_good, fresh}
use Rattle.ps_ground.specs.Goals.{is_good}
use Rattle.ps_ground.specs.Moves.{Node, grounds, moves}
use Rattle.ps_ground.specs.States.{State, at}
use Rattle.ps_ground.proofs.Lists.{map-filter_map}
use Rattle.ps_ground.proofs.Stepping.{next, next_at}
use Rattle.ps_solve.specs.Nodes.{firsts, is_met, same_state, with_state}
use Rattle.ps_solve.specs.Spaces.{space}
use Rattle.ps_solve.proofs.Bridge.{fresh_is}
use Rattle.ps_solve.proofs.Courses.{moved}
use Rattle.ps_solve.proofs.SameStates.{met_more, same_known-at}
use Rattle.ps_greedy.specs.Greedy.{Spot, child, children, missing_in, unseen}
use Rattle.ps_greedy.proofs.Spots.{knowns}
use Rattle.ps_best_first.specs.Leaves.{shut}
use Rattle.ps_best_first.specs.Search.{AreDeep, leaf_of, spot_of, spots_of}
use Rattle.ps_best_first.specs.declared.leaves.Leaf.{Leaf}

module _ (d : Domain) (k : Knowledge) (depth : ℕ) (marks : List Fact) where
  -- a new node, where these marks were missing before
  abbrev pub grown : Node → Spot
  grown n = spot_of k n (leaf_of k depth marks n)

  pub grown_spots : (ns : List Node) → spots_of k ns (map (leaf_of k depth marks) ns) ≡ map grown ns
  grown_spots [] = refl
  grown_spots (n ∷ ns) = ap (λ xs. grown n ∷ xs) (grown_spots ns)

  -- the first new node that meets the goal
  grown_at : (goal : Cond) (n : Node) (ns : List Node) (b : Bool) → find (λ (m : Spot). is_true d m.known (cond_tree goal)) (map grown ns) ≡ option_map grown (first_good (space d k goal) ns) → cond b (Some (grown n)) (find (λ (m : Spot). is_true d m.known (cond_tree goal)) (map grown ns)) ≡ option_map grown (cond b (Some n) (first_good (space d k goal) ns))
  grown_at goal n ns true h = refl
  grown_at goal n ns false h = h

  pub grown_good : (goal : Cond) (ns : List Node) → find (λ (m : Spot). is_true d m.known (cond_tree goal)) (map grown ns) ≡ option_map grown (first_good (space d k goal) ns)
  grown_good goal [] = refl
  grown_good goal (n ∷ ns) = grown_at goal n ns (is_good d k goal n.state) (grown_good goal ns)

-- ---- steps

module _ (d : Domain) (k : Knowledge) (n : Node) (l : Leaf) (depth : ℕ) where
  abbrev grow : Node → Spot
  grow = grown d k depth l.missing

  abbrev to : Act → Knowledge → Spot
  to act m = record { known = m; path = n.path ++ act ∷ []; missing = missing_in m l.missing; expanded = false }

  abbrev on : Act → State → Node
  on act s = record { state = s; path = n.path ++ act ∷ [] }

  child_by : (act : Act) (o : Option State) → option_map (to act) (option_map (at k) o) ≡ option_map grow (option_map (on act) o)
  child_by act None = refl
  child_by act (Some s) = refl

  -- what an act leads to
  child_is : (act : Act) → child d (spot_of k n l) act ≡ option_map grow (option_map (on act) (next d k n.state act))
  child_is act = ap (option_map (to act)) (next_at d k n.state 0 act) ∙ child_by act (next d k n.state act)

  all_children : filter_map (child d (spot_of k n l)) (possible_acts d k) ≡ map grow (moves d k (grounds d k) n)
  all_children =
      (λ i. filter_map (λ act. child_is act i) (possible_acts d k))
      ∙ sym (map-filter_map grow (λ act. option_map (on act) (next d k n.state act)) (possible_acts d k))
      ∙ ap (map grow) (moved d k n.state n.path (possible_acts d k))

  -- ---- new ones

  unseen_by : (m : Node) (a b : Bool) (x y : List Spot) (u v : List Node) → a ≡ b → x ≡ map grow u → y ≡ map grow v → cond a x (grow m ∷ y) ≡ map grow (cond b u (m ∷ v))
  unseen_by m true true x y u v e f g = f
  unseen_by m true false x y u v e f g = absurd (cc)
  unseen_by m false true x y u v e f g = absurd (cc)
  unseen_by m false false x y u v e f g = ap (λ xs. grow m ∷ xs) g

  unseen_is : (seen : List Knowledge) (old : List State) (ms : List Node) → ((s : State) → is_there seen (at k s) ≡ is_met old s) → unseen seen (map grow ms) ≡ map grow (firsts old ms)
  unseen_is seen old [] h = refl
  unseen_is seen old (m ∷ ms) h =
      unseen_by m (is_there seen (at k m.state)) (is_met old m.state) (unseen seen (map grow ms)) (unseen (at k m.state ∷ seen) (map grow ms)) (firsts old ms) (firsts (with_state old m.state) ms)
      (h m.state) (unseen_is seen old ms h)
      (unseen_is (at k m.state ∷ seen) (with_state old m.state) ms (λ s. (λ i. same_known-at k s m.state i || h s i) ∙ sym (met_more s m.state old)))

  known_there : (ns : List Node) (ls : List Leaf) (s : State) → AreDeep ns ls → is_there (knowns (spots_of k ns ls)) (at k s) ≡ is_met (map (λ (m : Node). m.state) ns) s
  known_there [] ls s deep = refl
  known_there (m ∷ ns) [] s deep = absurd deep
  known_there (m ∷ ns) (x ∷ ls) s deep = λ i. same_known-at k s m.state i || known_there ns ls s deep.1 i

  -- the new nodes that a node leads to
  pub children_are : (goal : Cond) (ns : List Node) (ls : List Leaf) → AreDeep ns ls → children d (possible_acts d k) (spots_of k ns ls) (spot_of k n l) ≡ map grow (fresh (space d k goal) ns (moves d k (grounds d k) n))
  children_are goal ns ls deep =
      ap (unseen (knowns (spots_of k ns ls))) all_children
      ∙ unseen_is (knowns (spots_of k ns ls)) (map (λ (m : Node). m.state) ns) (moves d k (grounds d k) n) (λ s. known_there ns ls s deep)
      ∙ ap (map grow) (sym (fresh_is d k goal ns (moves d k (grounds d k) n)))
