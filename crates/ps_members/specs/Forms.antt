-- The forms of a member script's lines: the words that each begins with, where each may stand, and what each wants.
use Rattle.std.specs.Prelude.{ℕ, Bool, true, false, not, ◌&&◌, ◌||◌, ◌-◌, if◌then◌else◌, List, [], ◌∷◌, codes, length, slice_get, Option, None, Some}
use Rattle.std.specs.Option.{option_and_then, option_map_or, option_or}
use Rattle.ps_machine.specs.declared.members.Unit.{Unit as Task}
use Rattle.ps_machine.specs.declared.members.Unit.TheVariants.{Finish}
use Rattle.ps_grammar.specs.declared.symbols.Symbol.{Symbol}
use Rattle.ps_grammar.specs.declared.symbols.Symbol.TheVariants.{AnyName, InGoal}
use Rattle.ps_grammar.specs.declared.symbols.GoalPart.TheVariants as goal
use Rattle.ps_script.specs.Forms as script
use Rattle.ps_script.specs.declared.forms.Form.{Form as ScriptForm}
use Rattle.ps_script.specs.declared.forms.Form.TheVariants as edit
use Rattle.ps_members.specs.declared.forms.Form.{Form}
use Rattle.ps_members.specs.declared.forms.Form.TheVariants.{Performer, Observer, Action, Args, Job, When, End, Work, Feedback, FinishOk, FinishFail, Edit}
use Rattle.ps_members.specs.declared.places.Place.{Place}
use Rattle.ps_members.specs.declared.places.Place.TheVariants as place

-- the forms of a member's own
abbrev pub own_forms : List (List (List ℕ) × Form)
own_forms =
    (codes "performer" ∷ [], Performer) ∷ (codes "observer" ∷ [], Observer) ∷ (codes "action" ∷ [], Action) ∷ (codes "args" ∷ [], Args)
    ∷ (codes "job" ∷ [], Job) ∷ (codes "when" ∷ [], When) ∷ (codes "end" ∷ [], End) ∷ (codes "work" ∷ [], Work) ∷ (codes "feedback" ∷ [], Feedback)
    ∷ (codes "finish" ∷ codes "ok" ∷ [], FinishOk) ∷ (codes "finish" ∷ codes "fail" ∷ [], FinishFail) ∷ []

-- the first form of a table whose words these begin with
abbrev pub begun : List (List (List ℕ) × Form) → List (List ℕ) → Option Form
begun [] ws = None
begun ((fixed, f) ∷ more) ws = if script.begins ws 0 fixed then Some f else begun more ws

-- the forms of the terminal's lines that are edits
abbrev pub is_edit : ScriptForm → Bool
is_edit edit.SetInstance = true
is_edit edit.SetPredicate = true
is_edit edit.SetFunction = true
is_edit edit.SetGoal = true
is_edit edit.RemoveInstance = true
is_edit edit.RemovePredicate = true
is_edit edit.RemoveFunction = true
is_edit edit.RemoveGoal = true
is_edit _ = false

-- whether a form that is a line of the terminal is an edit
abbrev pub may_edit : Form → Bool
may_edit (Edit f) = is_edit f
may_edit _ = true

-- the form of an edit whose words these begin with
abbrev pub edit_form : List (List ℕ) → Option Form
edit_form ws = option_and_then (λ f. if is_edit f then Some (Edit f) else None) (script.form_of ws)

-- the form whose words a line's words begin with
abbrev pub form_of : List (List ℕ) → Option Form
form_of ws = option_or (begun own_forms ws) (edit_form ws)

-- whether a unit is `finish`
abbrev pub finishes : Task → Bool
finishes (Finish ok) = true
finishes _ = false

-- whether the last of a job's units is `finish`
abbrev pub is_finished : List Task → Bool
is_finished units = option_map_or finishes (slice_get units (length units - 1)) false

-- performer, observer
abbrev pub is_title : Form → Bool
is_title Performer = true
is_title Observer = true
is_title _ = false

-- job, end
abbrev pub is_close : Form → Bool
is_close Job = true
is_close End = true
is_close _ = false

-- an edit
abbrev pub is_change : Form → Bool
is_change (Edit f) = true
is_change _ = false

-- work, feedback, finish ok, finish fail, an edit
abbrev pub is_unit : Form → Bool
is_unit Work = true
is_unit Feedback = true
is_unit FinishOk = true
is_unit FinishFail = true
is_unit f = is_change f

-- when, an edit, end
abbrev pub is_item : Form → Bool
is_item When = true
is_item End = true
is_item f = is_change f

-- action
abbrev pub is_action : Form → Bool
is_action Action = true
is_action _ = false

-- args
abbrev pub is_args : Form → Bool
is_args Args = true
is_args _ = false

-- job
abbrev pub is_job : Form → Bool
is_job Job = true
is_job _ = false

-- where a line of a form may stand; after `finish` there is no further unit in the job
abbrev pub is_allowed : Place → Form → Bool
is_allowed place.Beginning f = is_title f
is_allowed (place.Named name) f = is_action f
is_allowed (place.Acting name action arity) f = is_args f
is_allowed (place.Ready p) f = is_job f
is_allowed (place.Working p units) f = is_close f || (is_unit f && not (is_finished units))
is_allowed (place.Observing o) f = is_item f
is_allowed (place.Waiting o when) f = is_change f
is_allowed (place.Ended m) f = false

-- the form, allowed here, whose words a line's words begin with
abbrev pub form_at : Place → List (List ℕ) → Option Form
form_at at ws = option_and_then (λ f. if is_allowed at f then Some f else None) (form_of ws)

-- what a form is, from its first word on: its fixed words are names, and then comes what it wants
abbrev pub start_of : Form → List Symbol
start_of Performer = AnyName ∷ AnyName ∷ []
start_of Observer = AnyName ∷ AnyName ∷ []
start_of Action = AnyName ∷ AnyName ∷ []
start_of FinishOk = AnyName ∷ AnyName ∷ []
start_of FinishFail = AnyName ∷ AnyName ∷ []
start_of When = AnyName ∷ InGoal goal.Condition ∷ []
start_of (Edit f) = script.start_of f
start_of _ = AnyName ∷ []
