-- What the table of events asks of edits and of the acts of a run.
use Rattle.std.specs.Prelude.{◌+◌, ◌==◌, ◌&&◌, Bool, Option, is_ok, option_and_then, List, [], ◌∷◌}
use Rattle.ps_world.specs.Knowledge.{edited}
use Rattle.ps_world.specs.declared.domains.Domain.{Domain}
use Rattle.ps_world.specs.declared.edits.Edit.{Edit}
use Rattle.ps_world.specs.declared.known.Knowledge.{Knowledge}
use Rattle.ps_action.specs.Grounding.{ground_act}
use Rattle.ps_action.specs.Plans.{judged}
use Rattle.ps_action.specs.declared.acts.Act.{Act}
use Rattle.ps_action.specs.declared.acts.PlanStep.{PlanStep}
use Rattle.ps_machine.specs.declared.inputs.Input.{Input}
use Rattle.ps_machine.specs.declared.journal.By.{By}
use Rattle.ps_machine.specs.declared.journal.By.TheVariants.{Terminal, Performer, Observer}
use Rattle.ps_machine.specs.declared.journal.Entry.{Entry}
use Rattle.ps_machine.specs.declared.journal.Refusal.{Refusal}
use Rattle.ps_rules.specs.Legal.{is_edit, line_edit}
use Rattle.ps_rules.specs.Lines.{acts_of, answered, edit_refusal, next_line}
use Rattle.ps_rules.specs.Same.{same_acts}
use Rattle.ps_rules.specs.Members.{next_edit, next_seen}

-- whether this edit is the one that this terminal, performer or observer makes next
abbrev pub is_asked : Input → List Entry → By → Edit → Bool
is_asked i es (Terminal n) edit = (n == answered es + 1) && is_edit edit (line_edit (next_line i es))
is_asked i es (Performer r p) edit = is_edit edit (next_edit i r p es)
is_asked i es (Observer o) edit = is_edit edit (next_seen i o es)

-- why an edit is refused, if there is one and it is
abbrev pub refusal_of_edit : Domain → Knowledge → Option Edit → Option Refusal
refusal_of_edit d k edit = option_and_then (λ e. edit_refusal (edited d k e)) edit

-- whether these acts are those of a file's plan, and a good plan
abbrev pub follows : Domain → Knowledge → List Act → List PlanStep → Bool
follows d k acts steps = same_acts acts (acts_of steps) && is_ok (judged d k acts)

-- whether these acts are this one alone, which can be grounded
abbrev pub is_one : Domain → Knowledge → List Act → Act → Bool
is_one d k acts act = same_acts acts (act ∷ []) && is_ok (ground_act d k.instances act)
