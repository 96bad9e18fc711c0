-- What conditions hold.
use Rattle.std.specs.Prelude.{Bool, true, false, not, ◌&&◌, ◌||◌, int_lt, int_le, ℤ, Option, Some, None, List, []}
use Rattle.std.specs.List.{list_all, list_any}
use Rattle.std.specs.Ordering.{int_eq}
use Rattle.ps_world.specs.Names.{same_name}
use Rattle.ps_world.specs.Trees.{CondTree, CondTrees, all_of, any_of, no, implied, holds, same, compares, is_a, for_some, for_all, none, more, cond_trees}
use Rattle.ps_world.specs.Bound.{ground_in, name_in}
use Rattle.ps_world.specs.Knowledge.{is_known, kind_of, is_below}
use Rattle.ps_world.specs.declared.names.Name.{Name}
use Rattle.ps_world.specs.declared.numbers.Num.{Num}
use Rattle.ps_world.specs.declared.conditions.Rel.{Rel}
use Rattle.ps_world.specs.declared.conditions.Rel.TheVariants.{Lt, Le, Eq, Ge, Gt}
use Rattle.ps_world.specs.declared.domains.Domain.{Domain}
use Rattle.ps_world.specs.declared.known.Knowledge.{Knowledge}
use Rattle.ps_action.specs.Bindings.{bindings}
use Rattle.ps_action.specs.Values.{value_with}

-- whether two numbers compare so
abbrev pub related : Rel → ℤ → ℤ → Bool
related Lt a b = int_lt a b
related Le a b = int_le a b
related Eq a b = int_eq a b
related Ge a b = int_le b a
related Gt a b = int_lt b a

-- whether two sides compare so: not where one of them isn't defined
abbrev pub compare_so : Rel → Option Num → Option Num → Bool
compare_so rel (Some a) (Some b) = related rel a b
compare_so rel a b = false

-- whether what has this type, if it is an instance, fits that one
abbrev pub fits : Domain → Option Name → Name → Bool
fits d None kind = false
fits d (Some have) kind = is_below d have kind

abbrev mutual
  -- Whether a condition holds, where variables stand for these names; the domain counts for types alone. A variable that a quantifier binds
  -- stands for a name after those.
  pub is_true_with : Domain → Knowledge → List Name → CondTree → Bool
  is_true_with d k env (all_of cs) = are_true_with d k env cs
  is_true_with d k env (any_of cs) = is_one_true_with d k env cs
  is_true_with d k env (no c) = not (is_true_with d k env c)
  is_true_with d k env (implied a b) = not (is_true_with d k env a) || is_true_with d k env b
  is_true_with d k env (holds l) = is_known k (ground_in env l)
  is_true_with d k env (same s t) = same_name (name_in env s) (name_in env t)
  is_true_with d k env (compares rel x y) = compare_so rel (value_with k env x) (value_with k env y)
  is_true_with d k env (is_a t kind) = fits d (kind_of k (name_in env t)) kind
  is_true_with d k env (for_some ps c) = list_any (λ e. is_true_with d k e c) (bindings d k.instances ps env)
  is_true_with d k env (for_all ps c) = list_all (λ e. is_true_with d k e c) (bindings d k.instances ps env)

  -- whether each of several does
  pub are_true_with : Domain → Knowledge → List Name → CondTrees → Bool
  are_true_with d k env none = true
  are_true_with d k env (more c cs) = is_true_with d k env c && are_true_with d k env cs

  -- whether one of several does
  pub is_one_true_with : Domain → Knowledge → List Name → CondTrees → Bool
  is_one_true_with d k env none = false
  is_one_true_with d k env (more c cs) = is_true_with d k env c || is_one_true_with d k env cs

-- whether a condition holds where no variable stands for a name
abbrev pub is_true : Domain → Knowledge → CondTree → Bool
is_true d k c = is_true_with d k [] c

-- whether each of several does
abbrev pub are_true : Domain → Knowledge → CondTrees → Bool
are_true d k cs = are_true_with d k [] cs

-- whether each condition of a list holds, where variables stand for these names
abbrev pub all_true_with : Domain → Knowledge → List Name → List CondTree → Bool
all_true_with d k env cs = are_true_with d k env (cond_trees cs)

-- whether one condition of a list holds, where variables stand for these names
abbrev pub any_true_with : Domain → Knowledge → List Name → List CondTree → Bool
any_true_with d k env cs = is_one_true_with d k env (cond_trees cs)

-- whether each condition of a list holds where no variable stands for a name
abbrev pub all_true : Domain → Knowledge → List CondTree → Bool
all_true d k cs = all_true_with d k [] cs
