-- What is kept after a child is met, and what is answered.
use Rattle.std.proofs.Common.{◌≡◌, ℕ, ◌≤◌, Bool, true, false, Some, List, [], ◌∷◌, ◌++◌, length, take, refl, ap, sym, ◌∙◌, subst}
use Rattle.ps_world.specs.CondViews.{cond_tree}
use Rattle.ps_world.specs.declared.conditions.Cond.{Cond}
use Rattle.ps_world.specs.declared.domains.Domain.{Domain}
use Rattle.ps_world.specs.declared.known.Knowledge.{Knowledge}
use Rattle.ps_action.specs.Truth.{is_true}
use Rattle.ps_action.specs.declared.acts.Act.{Act}
use Rattle.ps_ground.specs.Moves.{Node}
use Rattle.ps_ground.specs.States.{State, at, state_of}
use Rattle.ps_levels.specs.Levels.{Space, first_good, fresh}
use Rattle.ps_levels.proofs.Nexts.{kept_on}
use Rattle.ps_problem.specs.Patches.{changed}
use Rattle.ps_expand.specs.Differences.{IsBeside, Rise, difference, forth}
use Rattle.ps_expand.specs.Reached.{keys_in, path_in, with_difference}
use Rattle.ps_expand.specs.Trees.{AreOf, IsTree, child_node, nodes_in, root_of, tree_space}
use Rattle.ps_expand.specs.declared.differences.Difference.{Difference}
use Rattle.ps_expand.specs.declared.expanding.Child.{Child}
use Rattle.ps_expand.proofs.Differing.{leads_forth}
use Rattle.ps_expand.proofs.Trees.{all_of, kept_one}

-- what stands beside the start is its own state's
pub at_beside : (k l : Knowledge) → IsBeside k l → at k (state_of l) ≡ l
at_beside k l b = λ i. record { instances = sym b.instances i; facts = l.facts; values = l.values; goal = sym b.goal i }

module _ (d : Domain) (k : Knowledge) (goal : Cond) where
  abbrev p : Space Node State
  p = tree_space d k goal

  module _ (here : Knowledge) (path : List Act) (c : Child) (bes : IsBeside k (changed here c.change)) where
    abbrev l : Knowledge
    l = changed here c.change

    -- a child is good where the goal holds
    pub good_there : p.good (child_node here path c).state ≡ is_true d l (cond_tree goal)
    good_there = ap (λ (m : Knowledge). is_true d m (cond_tree goal)) (at_beside k l bes)

    first_at : (b : Bool) (rest : List Node) → p.good (child_node here path c).state ≡ b → b ≡ false → first_good p (child_node here path c ∷ rest) ≡ first_good p rest
    first_at true rest e f = absurd (cc)
    first_at false rest e f = rw e refl

    -- where the goal doesn't hold there, the first good node is later
    pub first_later : (rest : List Node) → is_true d l (cond_tree goal) ≡ false → first_good p (child_node here path c ∷ rest) ≡ first_good p rest
    first_later rest e = first_at (p.good (child_node here path c).state) rest refl (good_there ∙ e)

    -- else it is this one
    pub first_now : (rest : List Node) → is_true d l (cond_tree goal) ≡ true → first_good p (child_node here path c ∷ rest) ≡ Some (child_node here path c)
    first_now rest e = let so = good_there ∙ e in rw so refl

    module _ (most : ℕ) (rs : List (Difference × List Act)) (few : length rs ≤ most) (up : Rise k) (rise : Rise l) (all : AreOf k (keys_in rs)) (from : ℕ) (there : path_in rs from ≡ path) where
      abbrev new : List (Difference × List Act)
      new = with_difference most rs (difference k l) from c.act

      up_there : Rise (at k (state_of l))
      up_there = subst Rise (sym (at_beside k l bes)) rise

      nodes_are : nodes_in k new ≡ take most (nodes_in k rs ++ fresh p (nodes_in k rs) (child_node here path c ∷ []))
      nodes_are =
          ap (λ (m : Knowledge). nodes_in k (with_difference most rs (difference k m) from c.act)) (sym (at_beside k l bes))
          ∙ kept_one d k goal most rs few up all (state_of l) up_there from c.act
          ∙ ap (λ (q : List Act). let n : Node = record { state = state_of l; path = q ++ c.act ∷ [] } in take most (nodes_in k rs ++ fresh p (nodes_in k rs) (n ∷ []))) there

      -- what is kept after it and the others is what is kept after those
      pub kept_next : (rest : List Node) → take most (nodes_in k new ++ fresh p (nodes_in k new) rest) ≡ take most (nodes_in k rs ++ fresh p (nodes_in k rs) (child_node here path c ∷ rest))
      kept_next rest =
          ap (λ (ns : List Node). take most (ns ++ fresh p ns rest)) nodes_are
          ∙ kept_on p most (nodes_in k rs) (child_node here path c ∷ []) rest

      -- and all are differences from the start
      pub all_next : AreOf k (keys_in new)
      all_next =
          all_of k most rs (difference k l) from c.act all (record { state = state_of l; rise = up_there; is = ap (difference k) (sym (at_beside k l bes)) })

-- ---- the beginning

module _ (k : Knowledge) (x : Difference) (rise : Rise k) (is : x ≡ difference k k) where
  back_there : changed k (forth x) ≡ k
  back_there = ap (λ y. changed k (forth y)) is ∙ leads_forth k k rise rise (record { instances = refl; goal = refl })

  -- the start's own difference is the first node
  pub first_node : nodes_in k ((x, []) ∷ []) ≡ root_of k ∷ []
  first_node = ap (λ (l : Knowledge). let n : Node = record { state = state_of l; path = [] } in n ∷ []) back_there

  -- and where the problem stands
  pub begins_with : (l : Knowledge) → l ≡ k → IsTree k l 0 ((x, []) ∷ [])
  begins_with l e = record {
    rise = rise;
    all = (record { state = state_of k; rise = rise; is = is }, tt);
    stands = λ y q. let same : x ≡ y = cc in e ∙ sym back_there ∙ ap (λ (z : Difference). changed k (forth z)) same;
  }
