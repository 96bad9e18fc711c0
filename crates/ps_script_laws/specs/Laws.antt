-- What is printed of edits, queries and acts is read back as a line of the terminal.
use Rattle.std.specs.Prelude.{ℕ, List, ◌++◌, codes, length}
use Rattle.ps_world.specs.Names.{Table}
use Rattle.ps_world.specs.Texts.{edit_text}
use Rattle.ps_world.specs.declared.edits.Edit.{Edit}
use Rattle.ps_action.specs.declared.acts.Act.{Act}
use Rattle.ps_machine.specs.Texts.{act_text, query_text}
use Rattle.ps_machine.specs.declared.inputs.Command.{Command}
use Rattle.ps_machine.specs.declared.inputs.Command.TheVariants as command
use Rattle.ps_machine.specs.declared.inputs.Line.TheVariants.{Good}
use Rattle.ps_machine.specs.declared.inputs.Query.{Query}
use Rattle.ps_text.specs.Names.{AreNames, Keeps}
use Rattle.ps_text.specs.Words.{words}
use Rattle.ps_script.specs.Lines.{IsRead}
use Rattle.ps_script.specs.declared.reading.Read.TheVariants.{Line}
use Rattle.ps_script_laws.specs.Sayable.{IsActOf, IsEditOf, IsQueryOf}
use Rattle.ps_script_laws.specs.WordNames.{with_words}

-- a text is read as the line with this command, with a table before it, and the table after it has the names of the text's words
abbrev pub IsReadAs : Table → List ℕ → Command → Type 0
IsReadAs table text c = IsRead table text (Line (Good c)) (with_words table (words text))

-- A table with the names of words keeps its names.
abbrev pub WordNamesAreKept : Type 0
WordNamesAreKept = (table : Table) (ws : List (List ℕ)) → AreNames table → AreNames (with_words table ws) × Keeps table (with_words table ws)

-- What is printed of an edit is read as that edit, with a table that keeps the names it was printed with.
abbrev pub EditsAreReadBack : Type 0
EditsAreReadBack = (names table : Table) (edit : Edit) → AreNames names → AreNames table → Keeps names table → IsEditOf names edit → IsReadAs table (edit_text names edit) (command.Edit edit)

-- The same of a query.
abbrev pub QueriesAreReadBack : Type 0
QueriesAreReadBack = (names table : Table) (q : Query) → AreNames names → AreNames table → Keeps names table → IsQueryOf names q → IsReadAs table (query_text names q) (command.Ask q)

-- The same of an act after `run action`.
abbrev pub ActsAreReadBack : Type 0
ActsAreReadBack = (names table : Table) (act : Act) → AreNames names → AreNames table → Keeps names table → IsActOf (length names) act → IsReadAs table (codes "run action" ++ act_text names act) (command.RunAction act)
