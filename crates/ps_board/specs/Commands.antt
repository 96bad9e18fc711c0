-- What answers the lines of the terminal.
use Rattle.std.specs.Prelude.{◌≡◌, Bool, true, false, Option, Some, None, option_and_then}
use Rattle.ps_action.specs.declared.answers.Answer.{Answer}
use Rattle.ps_action.specs.declared.answers.Answer.TheVariants as answer
use Rattle.ps_machine.specs.declared.inputs.Line.{Line}
use Rattle.ps_machine.specs.declared.inputs.Query.TheVariants as query
use Rattle.ps_machine.specs.declared.journal.Event.{Event}
use Rattle.ps_machine.specs.declared.journal.Event.TheVariants as event
use Rattle.ps_rules.specs.Choices.{edit_event, line_event, Says}
use Rattle.ps_rules.specs.Known.{know}
use Rattle.ps_rules.specs.Legal.{row_allows}
use Rattle.ps_rules.specs.Lines.{answers_line, next_line}
use Rattle.ps_state.specs.Awaiting.{MayBegin}
use Rattle.ps_board.specs.declared.commands.Next.{Next}
use Rattle.ps_board.specs.declared.commands.Next.TheVariants as next
use Rattle.ps_board.specs.declared.whole.Parts.{Parts}

-- the line that is answered next, if one is left
abbrev pub line_of : Parts → Option Line
line_of c = next_line c.input c.entries.items

-- whether an event is the query for a plan, which is answered by one
abbrev pub asks_plan : Event → Bool
asks_plan (event.Ask query.Plan) = true
asks_plan e = false

-- This event answers the next line, where the solver says this, and may come next where no run is open.
pub record AnswersNext (says : Says) (c : Parts) (e : Event) : Type 0 where
  pub event : option_and_then (line_event says c.input c.entries.items) (line_of c) ≡ Some e
  pub own : answers_line e ≡ true
  pub fit : row_allows c.input c.entries.items e ≡ true

-- So does this one, which isn't the query for a plan, and the acts of the run that it opens, if it opens one, can be grounded.
pub record MayAnswer (says : Says) (c : Parts) (e : Event) : Type 0 where
  pub answers : AnswersNext says c e
  pub plan : MayBegin e c.state
  pub other : asks_plan e ≡ false

-- so does this one, whatever the solver says
abbrev pub AnswersAnyway : Parts → Event → Type 0
AnswersAnyway c e = (says : Says) → MayAnswer says c e

-- so does this one, if the solver answers this of what is known now
abbrev pub AnswersBy : Parts → Answer → Event → Type 0
AnswersBy c a e = (says : Says) → a ≡ says c.state.expert c.state.problem c.input.budget → MayAnswer says c e

-- no line is left, or this edit is what the next line says, or this event answers it, or it is the query for a plan and the solver answers
-- this one
abbrev pub IsNext : Says → Parts → Next → Type 0
IsNext says c next.End = line_of c ≡ None
IsNext says c (next.Edit by edit) = AnswersNext says c (edit_event c.input c.entries.items by edit)
IsNext says c (next.Event e) = MayAnswer says c e
IsNext says c (next.Plan acts) =
    AnswersNext says c (event.Ask query.Plan) × (says c.input.domain (know c.input c.entries.items) c.input.budget ≡ answer.Plan acts)

-- the same, whatever the solver says
abbrev pub IsNextAnyway : Parts → Next → Type 0
IsNextAnyway c n = (says : Says) → IsNext says c n

-- the same, if the solver answers this of what is known now
abbrev pub IsNextBy : Parts → Answer → Next → Type 0
IsNextBy c a n = (says : Says) → a ≡ says c.state.expert c.state.problem c.input.budget → IsNext says c n
