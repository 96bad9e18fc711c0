-- What differs between what is known at two times.
use Rattle.std.specs.Prelude.{◌≡◌, Bool, false, not, ◌&&◌, if◌then◌else◌, Option, Some, None, option_map, List, [], filter}
use Rattle.std.specs.List.{list_any}
use Rattle.std.specs.List.Sorted.{IsStrictlySortedBy}
use Rattle.std.specs.Map.{keys_of, lookup}
use Rattle.ps_world.specs.Facts.{fact_cmp}
use Rattle.ps_world.specs.declared.facts.Fact.{Fact}
use Rattle.ps_world.specs.declared.known.Knowledge.{Knowledge}
use Rattle.ps_world.specs.declared.numbers.Num.{Num}
use Rattle.std.specs.Ordering.{int_eq}
use Rattle.ps_world.specs.Knowledge.{same_fact}
use Rattle.ps_problem.specs.Patches.{changed}
use Rattle.ps_problem.specs.Puts.{fresh_in}
use Rattle.ps_problem.specs.declared.change.Change.{Change}
use Rattle.ps_expand.specs.declared.differences.Difference.{Difference}

-- whether a term is worth this
abbrev pub is_worth : Num → Option Num → Bool
is_worth x None = false
is_worth x (Some y) = int_eq y x

-- the values of the second list that aren't in the first
abbrev pub new_in : List (Fact × Num) → List (Fact × Num) → List (Fact × Num)
new_in old new = filter (λ v. not (is_worth v.1 (lookup (same_fact v.0) old))) new

-- what differs where nothing does
abbrev pub no_difference : Difference
no_difference = record { came = []; went = []; given = []; lost = [] }

-- what differs: the facts that came and those that went, and so for values
abbrev pub difference : Knowledge → Knowledge → Difference
difference old new = record {
  came = fresh_in old.facts new.facts;
  went = fresh_in new.facts old.facts;
  given = new_in old.values new.values;
  lost = new_in new.values old.values;
}

-- the change from the first to the second
abbrev pub forth : Difference → Change
forth x = record { instances_in = []; instances_out = []; adds = x.came; deletes = x.went; values = x.given; gone = keys_of x.lost; goal = None }

-- and from the second back to the first
abbrev pub back : Difference → Change
back x = record { instances_in = []; instances_out = []; adds = x.went; deletes = x.came; values = x.lost; gone = keys_of x.given; goal = None }

-- facts and values rise
pub record Rise (k : Knowledge) : Type 0 where
  pub facts : IsStrictlySortedBy fact_cmp k.facts
  pub values : IsStrictlySortedBy fact_cmp (keys_of k.values)

-- the instances and the goal are the same
pub record IsBeside (old new : Knowledge) : Type 0 where
  pub instances : new.instances ≡ old.instances
  pub goal : new.goal ≡ old.goal

-- ---- what a change leads to

-- whether a fact is in the second list and not in the first
abbrev pub is_new : List Fact → List Fact → Fact → Bool
is_new old new f = list_any (same_fact f) new && not (list_any (same_fact f) old)

-- the second value, unless it is the first
abbrev pub newly : Option Num → Option Num → Option Num
newly old None = None
newly old (Some x) = if is_worth x old then None else Some x

-- a term with its value in the second list, unless it has that in the first
abbrev pub new_value : List (Fact × Num) → List (Fact × Num) → Fact → Option (Fact × Num)
new_value old new f = option_map (λ x. (f, x)) (newly (lookup (same_fact f) old) (lookup (same_fact f) new))

-- no other fact than these is in the second list and not in the first
abbrev pub HaveNewFacts : List Fact → List Fact → List Fact → Type 0
HaveNewFacts old new fs = (f : Fact) → list_any (same_fact f) fs ≡ false → is_new old new f ≡ false

-- no other term than these has a value in the second list that it hasn't in the first
abbrev pub HaveNewValues : List (Fact × Num) → List (Fact × Num) → List Fact → Type 0
HaveNewValues old new fs = (f : Fact) → list_any (same_fact f) fs ≡ false → newly (lookup (same_fact f) old) (lookup (same_fact f) new) ≡ None

-- a change leads here from a state that has this difference from the start
pub record IsLed (k : Knowledge) (x : Difference) (c : Change) (here : Knowledge) : Type 0 where
  pub from : Knowledge
  pub start : Rise k
  pub rise : Rise from
  pub is : x ≡ difference k from
  pub leads : here ≡ changed from c

-- a state has this difference from the start, and this change leads to it from there
pub record IsAt (k here : Knowledge) (x : Difference) (home : Change) : Type 0 where
  pub start : Rise k
  pub rise : Rise here
  pub beside : IsBeside k here
  pub is : x ≡ difference k here
  pub leads : changed k home ≡ here
