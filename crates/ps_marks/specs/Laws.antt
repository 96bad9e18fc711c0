-- That closures are the least, and that good plans make landmarks true.
use Rattle.std.specs.Prelude.{◌≡◌, true, false, is_none, is_ok, Option, List, Contains, AllPairs, filter_map}
use Rattle.ps_world.specs.Names.{same_name}
use Rattle.ps_world.specs.Knowledge.{fault_of_fact, is_known}
use Rattle.ps_world.specs.declared.actions.Spread.{Spread}
use Rattle.ps_world.specs.declared.domains.Domain.{Domain}
use Rattle.ps_world.specs.declared.facts.Fact.{Fact}
use Rattle.ps_world.specs.declared.known.Knowledge.{Knowledge}
use Rattle.ps_action.specs.Effects.{added_by, flat}
use Rattle.ps_action.specs.Grounding.{all_ground}
use Rattle.ps_action.specs.Plans.{judged}
use Rattle.ps_action.specs.declared.acts.Act.{Act}
use Rattle.ps_action.specs.declared.acts.GroundAction.{GroundAction}
use Rattle.ps_marks.specs.Atoms.{can_make}
use Rattle.ps_marks.specs.Closures.{closure, is_in, is_other, is_usable}
use Rattle.ps_marks.specs.Fitting.{AddsSuit, HasConstants}
use Rattle.ps_marks.specs.Landmarks.{is_made, landmarks}

-- A set has the facts that are known and, for each ground action that is usable in it without a fact, all others that it can make.
pub record IsClosed (d : Domain) (k : Knowledge) (out : Option Fact) (set : List Fact) : Type 0 where
  pub known : (x : Fact) → is_known k x ≡ true → is_in set x ≡ true
  pub closed : (g : GroundAction) → Contains (all_ground d k.instances) g → is_usable d k out set g ≡ true → (x : Fact) → is_in (can_make d k g) x ≡ true → is_other out x ≡ true → is_in set x ≡ true

-- a closure is closed, and every closed set has it
abbrev pub ClosuresAreLeast : Type 0
ClosuresAreLeast =
    (d : Domain) (k : Knowledge) (out : Option Fact)
    → IsClosed d k out (closure d k out) × ((set : List Fact) → IsClosed d k out set → (x : Fact) → is_in (closure d k out) x ≡ true → is_in set x ≡ true)

-- in each state each fact that a list of effects adds is of declared arguments
abbrev pub AddsDeclared : Domain → Knowledge → List Spread → Type 0
AddsDeclared d k es = (now : Knowledge) → now.instances ≡ k.instances → (f : Fact) → is_in (filter_map added_by (flat d now es)) f ≡ true → is_none (fault_of_fact d k f) ≡ true

-- so it is with each ground action
pub record AllDeclared (d : Domain) (k : Knowledge) : Type 0 where
  pub at_start : (g : GroundAction) → Contains (all_ground d k.instances) g → AddsDeclared d k g.effects.at_start
  pub at_end : (g : GroundAction) → Contains (all_ground d k.instances) g → AddsDeclared d k g.effects.at_end

-- so it is where the adds of the domain's actions suit their predicates, no action and no instance stands twice, and the domain's constants
-- are instances
abbrev pub AddsAreDeclared : Type 0
AddsAreDeclared =
    (d : Domain) (k : Knowledge) → AllPairs (λ a b. same_name a.name b.name ≡ false) d.actions
    → AllPairs (λ i j. same_name i.0 j.0 ≡ false) k.instances → AddsSuit d → HasConstants d k → AllDeclared d k

-- every good plan makes each landmark true after the start effect or the end effect of some step, as long as no action and no instance
-- stands twice and what ground actions add is of declared arguments
abbrev pub LandmarksAreMade : Type 0
LandmarksAreMade =
    (d : Domain) (k : Knowledge) → AllPairs (λ a b. same_name a.name b.name ≡ false) d.actions
    → AllPairs (λ i j. same_name i.0 j.0 ≡ false) k.instances → AllDeclared d k → (f : Fact) → is_in (landmarks d k) f ≡ true
    → (acts : List Act) → is_ok (judged d k acts) ≡ true → is_made d k f acts ≡ true
