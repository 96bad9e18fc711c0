-- What an accepted edit changes.
use Rattle.std.specs.Prelude.{◌≡◌, ◌≢◌, ◌↔◌, ◌⊎◌, false, Option, Some, None, Ok}
use Rattle.std.specs.List.{Contains}
use Rattle.std.specs.List.Sorted.{IsStrictlySortedBy}
use Rattle.std.specs.Map.{keys_of}
use Rattle.ps_world.specs.Names.{name_cmp}
use Rattle.ps_world.specs.Facts.{fact_cmp}
use Rattle.ps_world.specs.Knowledge.{kind_of, value_in, is_among, goal_without, edited}
use Rattle.ps_world.specs.declared.names.Name.{Name}
use Rattle.ps_world.specs.declared.numbers.Num.{Num}
use Rattle.ps_world.specs.declared.conditions.Cond.{Cond}
use Rattle.ps_world.specs.declared.facts.Fact.{Fact}
use Rattle.ps_world.specs.declared.domains.Domain.{Domain}
use Rattle.ps_world.specs.declared.known.Knowledge.{Knowledge}
use Rattle.ps_world.specs.declared.edits.Edit.{Edit}
use Rattle.ps_world.specs.declared.edits.Edit.TheVariants.{AddInstance, RemoveInstance, AddFact, RemoveFact, SetValue, RemoveValue, SetGoal, RemoveGoal}

-- the lists rise: each instance has a lower name than those after it, each fact is below those after it, and the values likewise
pub record Rises (k : Knowledge) : Type 0 where
  pub instances : IsStrictlySortedBy name_cmp (keys_of k.instances)
  pub facts : IsStrictlySortedBy fact_cmp k.facts
  pub values : IsStrictlySortedBy fact_cmp (keys_of k.values)

-- a fact is known after the edit: it was, or is the one added, and it is not the one removed and doesn't name the instance removed
abbrev pub FactAfter : Knowledge → Edit → Fact → Type 0
FactAfter k (AddFact g) f = Contains k.facts f ⊎ (f ≡ g)
FactAfter k (RemoveFact g) f = Contains k.facts f × (f ≢ g)
FactAfter k (RemoveInstance n) f = Contains k.facts f × (is_among n f.args ≡ false)
FactAfter k edit f = Contains k.facts f

-- a name is an instance of a type after the edit: it was, or is the one added, and it is not the one removed
abbrev pub KindAfter : Knowledge → Edit → Name → Name → Type 0
KindAfter k (AddInstance m s) n t = (kind_of k n ≡ Some t) ⊎ ((n ≡ m) × (t ≡ s))
KindAfter k (RemoveInstance m) n t = (kind_of k n ≡ Some t) × (n ≢ m)
KindAfter k edit n t = kind_of k n ≡ Some t

-- a function has a value there after the edit: it had, or it is the one set, and it is not the one removed and doesn't name the
-- instance removed
abbrev pub ValueAfter : Knowledge → Edit → Fact → Num → Type 0
ValueAfter k (SetValue g y) f x = ((f ≡ g) × (x ≡ y)) ⊎ ((value_in k f ≡ Some x) × (f ≢ g))
ValueAfter k (RemoveValue g) f x = (value_in k f ≡ Some x) × (f ≢ g)
ValueAfter k (RemoveInstance n) f x = (value_in k f ≡ Some x) × (is_among n f.args ≡ false)
ValueAfter k edit f x = value_in k f ≡ Some x

-- the goal after the edit: the one set, none where it was removed or names the instance removed, or the one from before
abbrev pub goal_after : Knowledge → Edit → Option Cond
goal_after k (SetGoal goal) = Some goal
goal_after k RemoveGoal = None
goal_after k (RemoveInstance n) = goal_without n k.goal
goal_after k edit = k.goal

-- what the edit says is changed, and nothing else
pub record IsChange (old : Knowledge) (edit : Edit) (new : Knowledge) : Type 0 where
  pub facts : (f : Fact) → Contains new.facts f ↔ FactAfter old edit f
  pub kinds : (n t : Name) → (kind_of new n ≡ Some t) ↔ KindAfter old edit n t
  pub values : (f : Fact) (x : Num) → (value_in new f ≡ Some x) ↔ ValueAfter old edit f x
  pub goal : new.goal ≡ goal_after old edit

-- an accepted edit changes what it says and nothing else, in lists of any order, and keeps lists that rise rising
abbrev pub EditsChange : Type 0
EditsChange = (d : Domain) (old : Knowledge) (edit : Edit) (new : Knowledge) → edited d old edit ≡ Ok new → IsChange old edit new × (Rises old → Rises new)
