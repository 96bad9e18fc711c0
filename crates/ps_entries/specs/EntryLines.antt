-- Which lines are entry lines.
use Rattle.std.specs.Prelude.{◌≡◌, ℕ, List, ◌++◌, codes, length, IsTrue, Option, Some, None}
use Rattle.std.specs.Fmt.{decimal}
use Rattle.ps_world.specs.Names.{Table}
use Rattle.ps_world.specs.Texts.{edit_text}
use Rattle.ps_machine.specs.Texts.{by_text, entry_line, event_text, on_request, query_text}
use Rattle.ps_machine.specs.declared.inputs.Command.TheVariants as command
use Rattle.ps_machine.specs.declared.inputs.Line.TheVariants.{Good}
use Rattle.ps_machine.specs.declared.journal.Event.{Event}
use Rattle.ps_machine.specs.declared.journal.Event.TheVariants as event
use Rattle.ps_machine.specs.declared.journal.Entry.{Entry}
use Rattle.ps_text.specs.Words.{words}
use Rattle.ps_script.specs.Lines.{IsRead}
use Rattle.ps_script.specs.declared.reading.Read.TheVariants.{Line}
use Rattle.ps_entries.specs.Words.{with_words}
use Rattle.ps_entries.specs.Forms.{is_entry}

-- what stands in an event's text before what a terminal line says in it, or before a note
abbrev pub event_head : Table → Event → List ℕ
event_head names (event.Edit who change) = codes "edit " ++ (by_text names who ++ codes " ")
event_head names (event.Ask q) = codes "ask "
event_head names (event.Feedback r p percent note) = on_request names (codes "feedback ") r p ++ (codes " " ++ (decimal percent ++ codes " "))
event_head names e = event_text names e

-- the same in an entry's line
abbrev pub head_text : Table → Entry → List ℕ
head_text names e = decimal e.hand ++ (codes " " ++ event_head names e.what)

-- An edit and a query are such as a terminal line says, which puts its names into the table; nothing else puts names there.
abbrev pub IsTold : Table → Event → Table → Type 0
IsTold names (event.Edit who change) after = IsRead names (edit_text after change) (Line (Good (command.Edit change))) after
IsTold names (event.Ask q) after = IsRead names (query_text after q) (Line (Good (command.Ask q))) after
IsTold names e after = after ≡ names

-- A line is this entry's, with a table of names before it and the table after it: it is the entry's text, the entry is in form, and
-- its words of class name are put into the table, but for those of a note.
pub record IsEntryLine (names : Table) (line : List ℕ) (e : Entry) (after : Table) : Type 0 where
  pub text : entry_line after e ≡ line
  pub in_form : IsTrue (is_entry (length after) e)
  pub told : IsTold (with_words names (words (head_text after e))) e.what after

-- no entry has this line
abbrev pub IsNoEntryLine : Table → List ℕ → Type 0
IsNoEntryLine names line = (e : Entry) (after : Table) → ¬ (IsEntryLine names line e after)

-- a line is this entry's, or no entry has it
abbrev pub IsLineOf : Table → List ℕ → Option Entry → Table → Type 0
IsLineOf names line (Some e) after = IsEntryLine names line e after
IsLineOf names line None after = IsNoEntryLine names line
