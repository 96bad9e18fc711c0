-- Lists that name a change.
use Rattle.std.specs.Prelude.{◌≡◌, Bool, false, ◌||◌, List}
use Rattle.std.specs.List.{list_any}
use Rattle.ps_world.specs.declared.names.Name.{Name}
use Rattle.ps_world.specs.declared.known.Knowledge.{Knowledge}
use Rattle.ps_action.specs.Arcs.{meets}
use Rattle.ps_action.specs.declared.touched.Touched.{Touched}
use Rattle.ps_action.specs.declared.touched.Touched.TheVariants.{Fact, Value, Instance, Facts, Values, Instances}
use Rattle.ps_eval.specs.Laws.{Agree}

-- whether a list has something that meets this
abbrev pub has : List Touched → Touched → Bool
has changed t = list_any (meets t) changed

-- whether a list has one of these names as an instance
abbrev pub has_name : List Touched → List Name → Bool
has_name changed ns = list_any (λ n. has changed (Instance n)) ns

-- Whether a list names this: it has something that meets it, or it has an argument of it as an instance; where an argument is open, any
-- instance may be that one.
abbrev pub is_named : List Touched → Touched → Bool
is_named changed (Fact f) = has changed (Fact f) || has_name changed f.args
is_named changed (Value f) = has changed (Value f) || has_name changed f.args
is_named changed (Instance n) = has changed (Instance n)
is_named changed (Facts p) = has changed (Facts p) || has changed Instances
is_named changed (Values p) = has changed (Values p) || has changed Instances
is_named changed Instances = has changed Instances

-- a list names a change: what it doesn't name is the same before and after
abbrev pub NamesChange : List Touched → Knowledge → Knowledge → Type 0
NamesChange changed before now = (t : Touched) → is_named changed t ≡ false → Agree before now t
