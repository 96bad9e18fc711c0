-- Ground actions as rules over the places of facts.
use Rattle.std.specs.Prelude.{◌≡◌, ◌↔◌, ◌⊎◌, ℕ, Bool, true, not, if◌then◌else◌, Option, Some, List, [], ◌∷◌, ◌++◌, Contains, filter, flat_map, map, position, slice_get}
use Rattle.std.specs.List.{AllZip}
use Rattle.std.specs.Map.{lookup}
use Rattle.ps_world.specs.Knowledge.{same_fact}
use Rattle.ps_world.specs.declared.conditions.Cond.{Cond}
use Rattle.ps_world.specs.declared.domains.Domain.{Domain}
use Rattle.ps_world.specs.declared.facts.Fact.{Fact}
use Rattle.ps_world.specs.declared.known.Knowledge.{Knowledge}
use Rattle.ps_action.specs.declared.acts.GroundAction.{GroundAction}
use Rattle.ps_closing.specs.declared.rule.Rule.{Rule}
use Rattle.ps_marks.specs.Atoms.{atoms_of, can_make, makes}
use Rattle.ps_closing.specs.Closing.{has, is_out}
use Rattle.ps_marks.specs.Closures.{is_in, is_other}
use Rattle.ps_marks.specs.Landmarks.{goal_atoms}

-- ---- places

-- the place of a fact
abbrev pub place : List Fact → Fact → Option ℕ
place atoms x = position (same_fact x) atoms

-- no fact stands twice
abbrev pub IsOnce : List Fact → Type 0
IsOnce atoms = (i : ℕ) (x : Fact) → slice_get atoms i ≡ Some x → place atoms x ≡ Some i

-- each fact is kept under its place, and none stands twice
pub record IsIndexed (atoms : List Fact) (places : List (Fact × ℕ)) : Type 0 where
  pub found : (x : Fact) → lookup (same_fact x) places ≡ place atoms x
  pub once : IsOnce atoms

-- facts with one more at the end, unless it is among them
abbrev pub with_fact : List Fact → Fact → List Fact
with_fact fs f = if is_in fs f then fs else fs ++ f ∷ []

-- all facts of the one list are in the other
abbrev pub AllIn : List Fact → List Fact → Type 0
AllIn atoms fs = (x : Fact) → is_in fs x ≡ true → is_in atoms x ≡ true

-- these facts stand at these places
abbrev pub ArePlaces : List Fact → List ℕ → List Fact → Type 0
ArePlaces atoms places fs = map (slice_get atoms) places ≡ map Some fs

-- each of these facts is in a set just where its place is set
abbrev pub Mirror : List Fact → List Bool → List Fact → Type 0
Mirror atoms flags set = (i : ℕ) (x : Fact) → slice_get atoms i ≡ Some x → has flags i ≡ is_in set x

-- the place that is left out is that of the fact that is left out
abbrev pub Agrees : List Fact → Option ℕ → Option Fact → Type 0
Agrees atoms at out = (i : ℕ) (x : Fact) → slice_get atoms i ≡ Some x → is_out at i ≡ not (is_other out x)

-- these places have the others, and those of facts of this list
abbrev pub TakesPlaces : List Fact → List Fact → List ℕ → List ℕ → Type 0
TakesPlaces atoms fs old new = (i : ℕ) → Contains new i ↔ (Contains old i ⊎ ((x : Fact) × (slice_get atoms i ≡ Some x) × (is_in fs x ≡ true)))

-- ---- rules

-- the atoms that have to be known while a ground action runs, and when it ends
abbrev pub later_atoms : GroundAction → List Fact
later_atoms g = atoms_of g.conditions.over_all ++ atoms_of g.conditions.at_end

-- the atoms of a ground action
abbrev pub asked : GroundAction → List Fact
asked g = atoms_of g.conditions.at_start ++ later_atoms g

-- those that it can make itself at its start, in time
abbrev pub own : Domain → Knowledge → GroundAction → List Fact
own d k g = filter (is_in (makes d k g.effects.at_start)) (later_atoms g)

-- the others
abbrev pub needed : Domain → Knowledge → GroundAction → List Fact
needed d k g = atoms_of g.conditions.at_start ++ filter (λ x. not (is_in (makes d k g.effects.at_start) x)) (later_atoms g)

-- a rule has the places of what a ground action needs, of what it needs and makes itself, and of what it can make
pub record IsRuleOf (d : Domain) (k : Knowledge) (atoms : List Fact) (g : GroundAction) (r : Rule) : Type 0 where
  pub needs : ArePlaces atoms r.needs.items (needed d k g)
  pub own : ArePlaces atoms r.own.items (own d k g)
  pub gives : (i : ℕ) → Contains r.gives.items i ↔ ((x : Fact) × (slice_get atoms i ≡ Some x) × (is_in (can_make d k g) x ≡ true))

-- so does each of several
abbrev pub AreRules : Domain → Knowledge → List Fact → List GroundAction → List Rule → Type 0
AreRules d k atoms gs rs = AllZip (IsRuleOf d k atoms) gs rs

-- all atoms of these ground actions, and those of the goal, if there is one
abbrev pub all_asked : List GroundAction → Option Cond → List Fact
all_asked gs goal = flat_map asked gs ++ goal_atoms goal
