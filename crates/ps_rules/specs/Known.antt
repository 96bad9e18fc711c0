-- What is known after the entries of a journal, and the ground actions of its plans.
use Rattle.std.specs.Prelude.{ℕ, Bool, Option, option_map, Result, Ok, Err, List, [], filter_map, slice_get, is_ok}
use Rattle.std.specs.Option.{option_map_or, unwrap_or}
use Rattle.ps_world.specs.Trees.{CondTree}
use Rattle.ps_world.specs.Knowledge.{action_of, edited, opening}
use Rattle.ps_world.specs.declared.domains.Domain.{Domain}
use Rattle.ps_world.specs.declared.known.Knowledge.{Knowledge}
use Rattle.ps_world.specs.declared.actions.Spread.{Spread}
use Rattle.ps_action.specs.Effects.{effect}
use Rattle.ps_action.specs.Grounding.{grounded}
use Rattle.ps_action.specs.Truth.{all_true}
use Rattle.ps_action.specs.declared.acts.Act.{Act}
use Rattle.ps_action.specs.declared.acts.GroundAction.{GroundAction}
use Rattle.ps_action.specs.declared.refusals.EffectRefusal.{EffectRefusal}
use Rattle.ps_machine.specs.declared.inputs.Input.{Input}
use Rattle.ps_machine.specs.declared.journal.Event.{Event}
use Rattle.ps_machine.specs.declared.journal.Event.TheVariants as event
use Rattle.ps_machine.specs.declared.journal.Entry.{Entry}
use Rattle.ps_rules.specs.Reading.{read}
use Rattle.ps_rules.specs.Runs.{says_plan}

-- ---- ground actions

-- the ground action of an act whose action is declared; what is known has no part in it
abbrev pub ground_of : Domain → Act → Option GroundAction
ground_of d act = option_map (λ a. grounded a act) (action_of d act.action)

-- the ground actions of a plan, each of whose acts has one
abbrev pub grounds : Domain → List Act → List GroundAction
grounds d acts = filter_map (ground_of d) acts

-- a list in the ground action at this place of a plan
abbrev pub part : {A : Type 0} → (GroundAction → List A) → Domain → List Act → ℕ → List A
part of d acts act = option_map_or of (slice_get (grounds d acts) act) []

-- ---- conditions and effects: the only words by which the rules speak of truth and of effects

-- whether conditions hold
abbrev pub hold : Domain → Knowledge → List CondTree → Bool
hold d k cs = all_true d k cs

-- the knowledge after effects, or their first fault
abbrev pub changed : Domain → Knowledge → List Spread → Result Knowledge EffectRefusal
changed d k es = effect d k es

-- whether effects are defined
abbrev pub are_defined : Domain → Knowledge → List Spread → Bool
are_defined d k es = is_ok (changed d k es)

-- ---- what is known

-- the new knowledge, or the old one where there is a refusal
abbrev pub kept : {R : Type 0} → Knowledge → Result Knowledge R → Knowledge
kept k (Ok new) = new
kept k (Err r) = k

-- What is known after an event, where these acts are the plan: an edit, a start's effects and an end's effects change it, and nothing
-- else does.
abbrev pub known_after : Domain → List Act → Knowledge → Event → Knowledge
known_after d acts k (event.Edit by edit) = kept k (edited d k edit)
known_after d acts k (event.Start act) = kept k (changed d k (part (λ g. g.effects.at_start) d acts act))
known_after d acts k (event.End act) = kept k (changed d k (part (λ g. g.effects.at_end) d acts act))
known_after d acts k e = k

-- the plan after an event, and what is known after it
abbrev pub both_after : Domain → List Act × Knowledge → Event → List Act × Knowledge
both_after d now e = (unwrap_or (says_plan e) now.0, known_after d now.0 now.1 e)

-- what is known after these entries: at first the constants of the domain
abbrev pub know : Input → List Entry → Knowledge
know i es = (read (both_after i.domain) ([], opening i.domain) es).1
