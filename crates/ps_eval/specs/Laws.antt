-- Laws of what conditions and effects read.
use Rattle.std.specs.Prelude.{◌≡◌, true, List, All, flat_map}
use Rattle.ps_world.specs.Trees.{CondTree}
use Rattle.ps_world.specs.Knowledge.{is_known, kind_of, value_in}
use Rattle.ps_world.specs.declared.facts.Fact.{Fact as GroundFact}
use Rattle.ps_world.specs.declared.actions.Spread.{Spread}
use Rattle.ps_world.specs.declared.domains.Domain.{Domain}
use Rattle.ps_world.specs.declared.known.Knowledge.{Knowledge}
use Rattle.ps_action.specs.Effects.{flat}
use Rattle.ps_action.specs.Truth.{all_true}
use Rattle.ps_action.specs.declared.touched.Touched.{Touched}
use Rattle.ps_action.specs.declared.touched.Touched.TheVariants.{Fact, Value, Instance, Facts, Values, Instances}
use Rattle.ps_action.specs.Places.{closed, places_meet}
use Rattle.ps_action.specs.Touching.{read_by_list, read_by_spread}

-- this is the same in both; of a place, each fact or value that stands there
abbrev pub Agree : Knowledge → Knowledge → Touched → Type 0
Agree one other (Fact f) = is_known one f ≡ is_known other f
Agree one other (Value f) = value_in one f ≡ value_in other f
Agree one other (Instance n) = kind_of one n ≡ kind_of other n
Agree one other (Facts p) = (f : GroundFact) → places_meet p (closed f) ≡ true → is_known one f ≡ is_known other f
Agree one other (Values p) = (f : GroundFact) → places_meet p (closed f) ≡ true → value_in one f ≡ value_in other f
Agree one other Instances = one.instances ≡ other.instances

-- conditions hold in both or in neither, where all that they read is the same in both
abbrev pub TruthReadsWhatIsNamed : Type 0
TruthReadsWhatIsNamed = (d : Domain) (one other : Knowledge) (cs : List CondTree) → All (Agree one other) (read_by_list cs) → all_true d one cs ≡ all_true d other cs

-- a list of effects stands for the same effects in both, where all that it reads is the same in both
abbrev pub FlatReadsWhatIsNamed : Type 0
FlatReadsWhatIsNamed = (d : Domain) (one other : Knowledge) (es : List Spread) → All (Agree one other) (flat_map read_by_spread es) → flat d one es ≡ flat d other es
