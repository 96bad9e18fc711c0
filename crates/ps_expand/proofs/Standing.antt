-- Where the problem of a tree stands.
use Rattle.std.proofs.Common.{◌≡◌, ◌<◌, ℕ, zero, suc, Option, Some, None, option_map, Result, Ok, Err, IfOk, List, [], ◌∷◌, ◌++◌, drop, length, map, take, refl, ap, sym, ◌∙◌, subst, arith}
use Rattle.std.specs.Prelude.{slice_get}
use Rattle.ps_world.specs.declared.conditions.Cond.{Cond}
use Rattle.ps_world.specs.declared.domains.Domain.{Domain}
use Rattle.ps_world.specs.declared.known.Knowledge.{Knowledge}
use Rattle.ps_action.specs.declared.acts.Act.{Act}
use Rattle.ps_ground.specs.Moves.{Node, grounds, moves}
use Rattle.ps_ground.specs.States.{State, at, state_of}
use Rattle.ps_levels.specs.Levels.{Space, first_good, fresh}
use Rattle.ps_expand.specs.Children.{AreChildren}
use Rattle.ps_expand.specs.Differences.{IsAt, IsBeside, Rise, difference, forth}
use Rattle.ps_expand.specs.Reached.{keys_in, path_in}
use Rattle.ps_expand.specs.Trees.{AreBeside, AreOf, IsOf, IsTree, child_node, node_in, nodes_in, path_of, tree_space}
use Rattle.ps_expand.specs.declared.differences.Difference.{Difference}
use Rattle.ps_expand.specs.declared.expanding.Child.{Child}
use Rattle.ps_expand.proofs.Trees.{children_beside, children_moved, state_is}

-- the difference at a place, and its node
record Found (k : Knowledge) (i : ℕ) (rs : List (Difference × List Act)) : Type 0 where
  difference : Difference
  of : IsOf k difference
  there : slice_get (keys_in rs) i ≡ Some difference
  node : (n : Node) (ns : List Node) → drop i (nodes_in k rs) ≡ n ∷ ns → n ≡ record { state = of.state; path = path_in rs i }

found_at : (k : Knowledge) (up : Rise k) (i : ℕ) (rs : List (Difference × List Act)) → i < length rs → AreOf k (keys_in rs) → Found k i rs
found_at k up i [] h a = absurd (omega (arith, h))
found_at k up zero (r ∷ rs) h a = record {
  difference = r.0;
  of = a.0;
  there = refl;
  node = λ n ns e.
      let same : node_in k r ≡ n = cc in
      sym same ∙ ap (λ (l : Knowledge). let m : Node = record { state = state_of l; path = r.1 } in m) (state_is k up r.0 a.0);
}
found_at k up (suc i) (r ∷ rs) h a =
    let f = found_at k up i rs (omega (arith, h)) a.1 in
    record { difference = f.difference; of = f.of; there = f.there; node = f.node }

module _ (k l : Knowledge) (i : ℕ) (rs : List (Difference × List Act)) (tree : IsTree k l i rs) (low : i < length rs) where
  f : Found k i rs
  f = found_at k tree.rise i rs low tree.all

  stands : l ≡ at k f.of.state
  stands = tree.stands f.difference f.there ∙ state_is k tree.rise f.difference f.of

  -- it has the instances of the start
  pub instances_here : l.instances ≡ k.instances
  instances_here = ap (λ (m : Knowledge). m.instances) stands

  -- its difference is the one at the place
  pub at_here : (x : Difference) → slice_get (keys_in rs) i ≡ Some x → IsAt k l x (forth x)
  at_here x e =
      let there = f.there in
      let same : f.difference ≡ x = cc in
      let At : Difference → Type 0 = λ y. IsAt k l y (forth y) in
      let beside : IsBeside k (at k f.of.state) = record { instances = refl; goal = refl } in
      subst At same (record {
        start = tree.rise;
        rise = subst Rise (sym stands) f.of.rise;
        beside = subst (IsBeside k) (sym stands) beside;
        is = f.of.is ∙ ap (difference k) (sym stands);
        leads = sym (tree.stands f.difference f.there);
      })

  module _ (d : Domain) (cs : List Child) (are : AreChildren d l cs) where
    are_there : AreChildren d (at k f.of.state) cs
    are_there = subst (λ (m : Knowledge). AreChildren d m cs) stands are

    -- the children have them too
    pub beside_here : AreBeside k l cs
    beside_here = subst (λ (m : Knowledge). AreBeside k m cs) (sym stands) (children_beside d k f.of.state (path_in rs i) cs are_there)

    -- and are where the node leads
    pub moved_here : (n : Node) (ns : List Node) → drop i (nodes_in k rs) ≡ n ∷ ns → map (child_node l (path_in rs i)) cs ≡ moves d k (grounds d k) n
    moved_here n ns e =
        ap (λ (m : Knowledge). map (child_node m (path_in rs i)) cs) stands
        ∙ children_moved d k f.of.state (path_in rs i) cs are_there
        ∙ ap (moves d k (grounds d k)) (sym (f.node n ns e))

    module _ (goal : Cond) where
      abbrev p : Space Node State
      p = tree_space d k goal

      -- what is said of the children is said of where the node leads
      pub found_here : {E : Type 0} (r : Result (Option (List Act)) E) → IfOk r (λ found. found ≡ option_map path_of (first_good p (map (child_node l (path_in rs i)) cs))) → IfOk r (λ found. (n : Node) (ns : List Node) → drop i (nodes_in k rs) ≡ n ∷ ns → found ≡ option_map path_of (first_good p (p.moves n)))
      found_here (Ok found) e = λ n ns at. e ∙ ap (λ ms. option_map path_of (first_good p ms)) (moved_here n ns at)
      found_here (Err w) e = tt

      pub kept_here : {E : Type 0} (most : ℕ) (new : List Node) (r : Result (Option (List Act)) E) → IfOk r (λ found. found ≡ None → new ≡ take most (nodes_in k rs ++ fresh p (nodes_in k rs) (map (child_node l (path_in rs i)) cs))) → IfOk r (λ found. found ≡ None → (n : Node) (ns : List Node) → drop i (nodes_in k rs) ≡ n ∷ ns → new ≡ take most (nodes_in k rs ++ fresh p (nodes_in k rs) (p.moves n)))
      kept_here most new (Ok found) e = λ none n ns at. e none ∙ ap (λ ms. take most (nodes_in k rs ++ fresh p (nodes_in k rs) ms)) (moved_here n ns at)
      kept_here most new (Err w) e = tt
