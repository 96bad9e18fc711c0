-- Landmarks: facts without which the goal is out of reach.
use Rattle.std.specs.Prelude.{ℕ, Bool, false, not, ◌||◌, if◌then◌else◌, Option, Some, None, Result, Ok, Err, List, [], ◌∷◌, filter, take}
use Rattle.std.specs.List.{list_any}
use Rattle.std.specs.Option.{option_map_or}
use Rattle.std.specs.Result.{result_ok}
use Rattle.ps_world.specs.CondViews.{cond_tree}
use Rattle.ps_world.specs.Knowledge.{is_known}
use Rattle.ps_world.specs.declared.conditions.Cond.{Cond}
use Rattle.ps_world.specs.declared.domains.Domain.{Domain}
use Rattle.ps_world.specs.declared.facts.Fact.{Fact}
use Rattle.ps_world.specs.declared.known.Knowledge.{Knowledge}
use Rattle.ps_action.specs.Effects.{effect}
use Rattle.ps_action.specs.Grounding.{ground_act}
use Rattle.ps_action.specs.Plans.{step, step_of}
use Rattle.ps_action.specs.declared.acts.Act.{Act}
use Rattle.ps_action.specs.declared.acts.GroundAction.{GroundAction}
use Rattle.ps_marks.specs.Atoms.{atoms}
use Rattle.ps_marks.specs.Closures.{closure, is_in}

-- ---- landmarks

-- the atoms of a goal, if there is one
abbrev pub goal_atoms : Option Cond → List Fact
goal_atoms None = []
goal_atoms (Some goal) = atoms (cond_tree goal)

-- the most candidates
abbrev pub most_candidates : ℕ
most_candidates = 200

-- the facts that could be known and aren't, in their order
abbrev pub could_be : Domain → Knowledge → List Fact
could_be d k = filter (λ f. not (is_known k f)) (closure d k None)

-- the first of them
abbrev pub candidates : Domain → Knowledge → List Fact
candidates d k = take most_candidates (could_be d k)

-- whether some atom of the goal is out of reach where a fact is left out
abbrev pub is_needed : Domain → Knowledge → Fact → Bool
is_needed d k f = let left = closure d k (Some f) in list_any (λ a. not (is_in left a)) (goal_atoms k.goal)

-- the candidates without which some atom of the goal is out of reach
unfoldable pub landmarks : Domain → Knowledge → List Fact
landmarks d k = filter (is_needed d k) (candidates d k)

-- the atoms of the goal that are out of reach where nothing is left out: no acts could ever make them true, even if nothing were deleted
abbrev pub out_of_reach : Domain → Knowledge → List Fact
out_of_reach d k = filter (λ a. not (is_in (closure d k None) a)) (goal_atoms k.goal)

-- ---- the atoms of the goal as marks

-- these facts, each once, without some that were seen
abbrev pub each_once : List Fact → List Fact → List Fact
each_once seen [] = []
each_once seen (f ∷ fs) = if is_in seen f then each_once seen fs else f ∷ each_once (f ∷ seen) fs

-- the atoms of the goal that aren't known, each once, in the order of the text
abbrev pub goal_marks : Knowledge → List Fact
goal_marks k = filter (λ f. not (is_known k f)) (each_once [] (goal_atoms k.goal))

-- ---- what a plan makes true

-- whether a fact is known after what went well
abbrev pub is_known_after : {E : Type 0} → Fact → Result Knowledge E → Bool
is_known_after f (Ok k) = is_known k f
is_known_after f (Err e) = false

-- whether it is known after the start effect or the end effect of a ground action
abbrev pub is_made_in : Domain → Knowledge → Fact → GroundAction → Bool
is_made_in d k f g = is_known_after f (effect d k g.effects.at_start) || is_known_after f (step_of d k 0 g)

-- whether it is known after the start effect or the end effect of some of these steps, as far as no step fails
abbrev pub is_made : Domain → Knowledge → Fact → List Act → Bool
is_made d k f [] = false
is_made d k f (act ∷ acts) =
    option_map_or (is_made_in d k f) (result_ok (ground_act d k.instances act)) false
    || option_map_or (λ next. is_made d next f acts) (result_ok (step d k 0 act)) false
