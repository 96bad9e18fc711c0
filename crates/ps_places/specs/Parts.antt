-- The parts of a condition.
use Rattle.std.specs.Prelude.{not, Option, List, [], ◌∷◌, ◌++◌}
use Rattle.std.specs.List.{find}
use Rattle.ps_world.specs.Trees.{CondTree, CondTrees, all_of, any_of, no, implied, holds, same, compares, is_a, for_some, for_all, none, more, cond_trees}
use Rattle.ps_world.specs.declared.domains.Domain.{Domain}
use Rattle.ps_world.specs.declared.known.Knowledge.{Knowledge}
use Rattle.ps_action.specs.Truth.{is_true}

abbrev mutual
  -- the parts of a condition: those of its `and`s, in their order, and any other form is one part
  pub parts : CondTree → List CondTree
  parts (all_of cs) = parts_of_each cs
  parts (any_of cs) = any_of cs ∷ []
  parts (no c) = no c ∷ []
  parts (implied a b) = implied a b ∷ []
  parts (holds l) = holds l ∷ []
  parts (same s t) = same s t ∷ []
  parts (compares rel x y) = compares rel x y ∷ []
  parts (is_a t kind) = is_a t kind ∷ []
  parts (for_some ps c) = for_some ps c ∷ []
  parts (for_all ps c) = for_all ps c ∷ []

  -- the parts of several, one after another
  pub parts_of_each : CondTrees → List CondTree
  parts_of_each none = []
  parts_of_each (more c cs) = parts c ++ parts_of_each cs

-- the parts of a list of conditions
abbrev pub parts_of : List CondTree → List CondTree
parts_of cs = parts_of_each (cond_trees cs)

-- the first of these that is false
abbrev pub first_false_among : Domain → Knowledge → List CondTree → Option CondTree
first_false_among d k cs = find (λ c. not (is_true d k c)) cs

-- the first false part of a condition
abbrev pub first_false : Domain → Knowledge → CondTree → Option CondTree
first_false d k c = first_false_among d k (parts c)

-- the first false part of a list of conditions
abbrev pub first_false_of : Domain → Knowledge → List CondTree → Option CondTree
first_false_of d k cs = first_false_among d k (parts_of cs)
