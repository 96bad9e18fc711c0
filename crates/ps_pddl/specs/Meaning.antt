-- What a domain's text means: the domain that its nested lists declare, or the first fault of their meaning.
use Rattle.std.specs.Prelude.{pos, if◌then◌else◌, Option, Some, None, Ok, List, [], ◌∷◌, ◌++◌, length}
use Rattle.std.specs.List.{list_any}
use Rattle.ps_world.specs.Names.{same_name}
use Rattle.ps_world.specs.declared.names.Name.{Name}
use Rattle.ps_world.specs.declared.domains.Param.{Param}
use Rattle.ps_world.specs.declared.domains.Decl.{Decl}
use Rattle.ps_world.specs.declared.domains.Domain.{Domain}
use Rattle.ps_world.specs.declared.actions.ActionDef.{ActionDef}
use Rattle.ps_world.specs.declared.expressions.Expr.{Expr}
use Rattle.ps_world.specs.declared.expressions.Expr.TheVariants.{Num}
use Rattle.ps_grammar.specs.Marks.{is}
use Rattle.ps_grammar.specs.declared.marks.Mark.TheVariants as mark
use Rattle.ps_lists.specs.Nested.{Nested, Nesteds, word, group, none, more}
use Rattle.ps_lists.specs.Places.{items, items_at, at, head, rest, after, section}
use Rattle.ps_pddl.specs.Lists.{fault_of_new, listed}
use Rattle.ps_pddl.specs.Types.{with_types}
use Rattle.ps_pddl.specs.Words.{value}
use Rattle.ps_pddl.specs.Conditions as condition
use Rattle.ps_pddl.specs.Effects as effect
use Rattle.ps_conditions.specs.Steps.{◌>>=◌}
use Rattle.ps_pddl.specs.Steps.{Read, unless}
use Rattle.ps_pddl.specs.declared.refusals.Cap.{Cap}
use Rattle.ps_pddl.specs.declared.refusals.Cap.TheVariants as cap
use Rattle.ps_pddl.specs.declared.meaning.lists.Listing.TheVariants.{Constants, Params}
use Rattle.ps_world.specs.declared.actions.Conditions.{Conditions}
use Rattle.ps_world.specs.declared.actions.Effects.{Effects}

-- ---- predicates and functions

-- DECL: (NAME VLIST), after others of its list, of which there are at most 256
abbrev pub declared : Domain → Cap → Nesteds → List Decl → Read (List Decl)
declared d which ts before =
    let name = (head ts).name in
    unless (fault_of_new which 256 (length before) (list_any (λ decl. same_name name decl.name) before) (head ts))
    (listed d Params (rest ts) [] >>= λ ps. Ok (before ++ record { name = name; params = ps } ∷ []))

-- DECL*, after others; what stands between them says only that functions are numbers
abbrev pub all_declared : Domain → Cap → Nesteds → List Decl → Read (List Decl)
all_declared d which none before = Ok before
all_declared d which (more (word l) ts) before = all_declared d which ts before
all_declared d which (more (group inside) ts) before =
    declared d which inside before >>= λ before. all_declared d which ts before

-- ---- actions

-- the duration after its keyword, if one is written: (= ?duration X)
abbrev pub duration_in : Nesteds → Option Nested
duration_in ts = at (items_at (after mark.DurationKey ts)) 2

-- the condition after its keyword, if one is written
abbrev pub condition_in : Nesteds → Option Nested
condition_in ts = at (after mark.ConditionKey ts) 0

-- the effect after its keyword, if one is written
abbrev pub effect_in : Nesteds → Option Nested
effect_in ts = at (after mark.EffectKey ts) 0

-- the duration, which is 0 where none is written
abbrev pub duration : Domain → List Param → Option Nested → Read Expr
duration d ps None = Ok (Num (pos 0))
duration d ps (Some x) = value d ps x

-- the parts of a condition, of which there are none where no condition is written
abbrev pub parts : Domain → List Param → Option Nested → Read Conditions
parts d ps None = Ok (record { at_start = []; over_all = []; at_end = [] })
parts d ps (Some form) = condition.timed d ps form (record { at_start = []; over_all = []; at_end = [] })

-- the same of an effect
abbrev pub changes : Domain → List Param → Option Nested → Read Effects
changes d ps None = Ok (record { at_start = []; at_end = [] })
changes d ps (Some form) = effect.timed d ps form (record { at_start = []; at_end = [] })

-- an action's body, where these are its name and its parameters
abbrev pub action_body : Domain → Name → List Param → Nesteds → Read ActionDef
action_body d name ps ts =
    duration d ps (duration_in ts) >>= λ time.
    parts d ps (condition_in ts) >>= λ condition.
    changes d ps (effect_in ts) >>= λ effect.
    Ok (record {
      name = name;
      params = ps;
      duration = time;
      conditions = condition;
      effects = effect;
    })

-- ACTION: (:durative-action NAME :parameters (VLIST) :duration (= ?duration X) [:condition TC] [:effect TE])
abbrev pub action : Domain → Nesteds → List ActionDef → Read (List ActionDef)
action d ts before =
    let name = (head ts).name in
    unless (fault_of_new cap.Actions 256 (length before) (list_any (λ action. same_name name action.name) before) (head ts))
    (listed d Params (items_at (after mark.Parameters ts)) [] >>= λ ps. action_body d name ps ts >>= λ a. Ok (before ++ a ∷ []))

-- the actions among these sections, after others
abbrev pub actions : Domain → Nesteds → List ActionDef → Read (List ActionDef)
actions d none before = Ok before
actions d (more t ts) before =
    if is mark.DurativeAction (head (items t)).mark
    then (action d (rest (items t)) before >>= λ before. actions d ts before)
    else actions d ts before

-- ---- the domain

-- a domain that declares nothing
abbrev pub bare : Name → Domain
bare name = record { name = name; types = []; constants = []; predicates = []; functions = []; actions = [] }

-- the domain with the constants of a list
abbrev pub with_constants : Domain → Nesteds → Read Domain
with_constants d ts = listed d Constants ts [] >>= λ constants. Ok (record d { constants = constants })

-- the same with predicates
abbrev pub with_predicates : Domain → Nesteds → Read Domain
with_predicates d ts = all_declared d cap.Predicates ts [] >>= λ predicates. Ok (record d { predicates = predicates })

-- the same with functions
abbrev pub with_functions : Domain → Nesteds → Read Domain
with_functions d ts = all_declared d cap.Functions ts [] >>= λ functions. Ok (record d { functions = functions })

-- the same with the actions of sections
abbrev pub with_actions : Domain → Nesteds → Read Domain
with_actions d ts = actions d ts [] >>= λ actions. Ok (record d { actions = actions })

-- the domain with what sections declare: types, constants, predicates, functions and actions are judged in this order
abbrev pub with_sections : Domain → Nesteds → Read Domain
with_sections d ts =
    with_types d (section mark.Types ts) >>= λ d.
    with_constants d (section mark.Constants ts) >>= λ d.
    with_predicates d (section mark.Predicates ts) >>= λ d.
    with_functions d (section mark.Functions ts) >>= λ d.
    with_actions d ts

-- DOMAIN: (define (domain NAME) SECTION*)
unfoldable pub domain_of : Nesteds → Read Domain
domain_of text =
    let inside = items_at text in
    with_sections (bare (head (rest (items_at (rest inside)))).name) (rest (rest inside))
