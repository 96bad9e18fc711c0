-- Two lists of effects, joined to one change.
use Rattle.std.specs.Prelude.{Bool, false, if◌then◌else◌, Option, Some, None, List, [], ◌∷◌, ◌++◌, filter_map}
use Rattle.std.specs.List.{list_any}
use Rattle.ps_world.specs.Knowledge.{ground, same_fact}
use Rattle.ps_world.specs.declared.numbers.Num.{Num}
use Rattle.ps_world.specs.declared.facts.Fact.{Fact}
use Rattle.ps_world.specs.declared.actions.Effect.{Effect}
use Rattle.ps_world.specs.declared.actions.Effect.TheVariants.{Add, Delete, Number}
use Rattle.ps_action.specs.Effects.{added_by, deletes}
use Rattle.ps_problem.specs.Puts.{deleted_by}
use Rattle.ps_problem.specs.declared.change.Change.{Change}

-- whether an effect adds this fact
abbrev pub adds : Fact → Effect → Bool
adds f (Add l) = same_fact f (ground l)
adds f (Delete l) = false
adds f (Number how l x) = false

-- a fact that comes, unless later effects delete it
abbrev pub left : List Effect → Option Fact → Option Fact
left ends None = None
left ends (Some f) = if list_any (deletes f) ends then None else Some f

-- the fact that an effect adds, unless it adds none or later ones delete it
abbrev pub left_by : List Effect → Effect → Option Fact
left_by ends e = left ends (added_by e)

-- the change that effects make with these values, and then others with those
abbrev pub joined : List Effect → List (Fact × Num) → List Effect → List (Fact × Num) → Change
joined starts ready ends last = record {
  instances_in = [];
  instances_out = [];
  adds = filter_map (left_by ends) starts ++ filter_map added_by ends;
  deletes = filter_map deleted_by starts ++ filter_map deleted_by ends;
  values = ready ++ last;
  gone = [];
  goal = None;
}

-- the value of a term after these are put in, where it had this one before, or none
abbrev pub value_after : Option Num → List (Fact × Num) → Fact → Option Num
value_after before [] f = before
value_after before (v ∷ vs) f = value_after (if same_fact f v.0 then Some v.1 else before) vs f
