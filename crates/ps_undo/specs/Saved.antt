-- The edits that save what is known.
use Rattle.std.specs.Prelude.{◌≡◌, Bool, is_none, Option, Some, None, Result, Ok, Err, List, [], ◌∷◌, ◌++◌, filter, fold, map}
use Rattle.std.specs.Cmp.Lexicographic.{slice_cmp}
use Rattle.std.specs.List.Sorted.{IsPermutation, IsSortedByKey}
use Rattle.std.specs.Ordering.{nat_cmp}
use Rattle.ps_world.specs.Knowledge.{constant_of, edited, opening}
use Rattle.ps_world.specs.Names.{Table}
use Rattle.ps_world.specs.Texts.{edit_text}
use Rattle.ps_world.specs.declared.conditions.Cond.{Cond}
use Rattle.ps_world.specs.declared.domains.Domain.{Domain}
use Rattle.ps_world.specs.declared.edits.Edit.{Edit}
use Rattle.ps_world.specs.declared.edits.Edit.TheVariants.{AddInstance, AddFact, SetValue, SetGoal}
use Rattle.ps_world.specs.declared.edits.EditRefusal.{EditRefusal}
use Rattle.ps_world.specs.declared.facts.Fact.{Fact}
use Rattle.ps_world.specs.declared.known.Knowledge.{Knowledge}
use Rattle.ps_world.specs.declared.names.Name.{Name}
use Rattle.ps_world.specs.declared.numbers.Num.{Num}
use Rattle.ps_problem.specs.WellKnown.{IsWellKnown}

-- ---- the edits

-- the edit that makes an instance, and the one that gives a term its value
abbrev pub set_instance : Name × Name → Edit
set_instance i = AddInstance i.0 i.1

abbrev pub set_value : Fact × Num → Edit
set_value v = SetValue v.0 v.1

-- the edit that sets the goal, where there is one
abbrev pub set_goal : Option Cond → List Edit
set_goal None = []
set_goal (Some goal) = SetGoal goal ∷ []

-- whether an instance is no constant of the domain
abbrev pub is_new : Domain → Name × Name → Bool
is_new d i = is_none (constant_of d i.0)

-- the same items in the order of the bytes of the lines of their edits
pub record IsInLineOrder {X : Type 0} (names : Table) (edit : X → Edit) (all ordered : List X) : Type 0 where
  pub same : IsPermutation all ordered
  pub rises : IsSortedByKey (λ x. edit_text names (edit x)) (slice_cmp nat_cmp) ordered

-- edits are those before them, and then those of these items in the order of their lines
pub record ArePut {X : Type 0} (names : Table) (edit : X → Edit) (all : List X) (old new : List Edit) : Type 0 where
  pub ordered : List X
  pub rises : IsInLineOrder names edit all ordered
  pub are : new ≡ old ++ map edit ordered

-- The edits that save what is known: first the instances that are no constants, then the facts, the values and the goal; each kind in the order
-- of its lines.
pub record AreSaved (names : Table) (d : Domain) (k : Knowledge) (edits : List Edit) : Type 0 where
  pub instances : List (Name × Name)
  pub facts : List Fact
  pub values : List (Fact × Num)
  pub instances_rise : IsInLineOrder names set_instance (filter (is_new d) k.instances) instances
  pub facts_rise : IsInLineOrder names AddFact k.facts facts
  pub values_rise : IsInLineOrder names set_value k.values values
  pub are : edits ≡ map set_instance instances ++ (map AddFact facts ++ (map set_value values ++ set_goal k.goal))

-- ---- what they make

-- the knowledge after one more edit, unless one was refused
abbrev pub edited_next : Domain → Result Knowledge EditRefusal → Edit → Result Knowledge EditRefusal
edited_next d (Ok k) x = edited d k x
edited_next d (Err r) x = Err r

-- what is known after edits, or the first refusal
abbrev pub edited_by : Domain → Knowledge → List Edit → Result Knowledge EditRefusal
edited_by d k xs = fold (edited_next d) (Ok k) xs

-- the edits that save what is known are all accepted where a session opens, and give the same knowledge
abbrev pub SavedGiveIt : Type 0
SavedGiveIt =
    (names : Table) (d : Domain) (k : Knowledge) (edits : List Edit) → IsWellKnown d k → AreSaved names d k edits → edited_by d (opening d) edits ≡ Ok k
