-- What follows for the runs of an editor.
use Rattle.std.specs.Prelude.{◌≡◌, Option, None, Some, List, [], ◌∷◌, fold, map}
use Rattle.ps_world.specs.Knowledge.{opening}
use Rattle.ps_world.specs.Names.{Table}
use Rattle.ps_world.specs.declared.domains.Domain.{Domain}
use Rattle.ps_machine.specs.declared.inputs.Command.TheVariants as command
use Rattle.ps_machine.specs.declared.inputs.Line.{Line}
use Rattle.ps_machine.specs.declared.inputs.Line.TheVariants.{Good}
use Rattle.ps_edit_words.specs.declared.words.EditWord.{EditWord}
use Rattle.ps_edit_words.specs.declared.words.EditWord.TheVariants as word
use Rattle.ps_undo.specs.Editing.{begun}
use Rattle.ps_undo.specs.Runs.{Call, after_call}
use Rattle.ps_undo.specs.Runs.Call.{make, redo, undo}
use Rattle.ps_undo.specs.declared.editing.Editing.{Editing}
use Rattle.ps_editing.specs.Lines.{EditLine, with_more}
use Rattle.ps_editing.specs.Runs.{IsRun, Stage}

-- the edit that a line asks for, if it asks for one
abbrev pub edit_call : Line → Option Call
edit_call (Good (command.Edit x)) = Some (make x)
edit_call line = None

-- the edit, undo or redo that a line asks for, if it asks for one
abbrev pub word_call : Line → Option EditWord → Option Call
word_call line (Some word.Undo) = Some undo
word_call line (Some word.Redo) = Some redo
word_call line (Some word.Save) = None
word_call line (Some (word.More at)) = edit_call (with_more at line)
word_call line None = edit_call line

-- what is held after a call, or without one
abbrev pub after_if : Domain → Editing → Option Call → Editing
after_if d old (Some c) = after_call d old c
after_if d old None = old

-- what is held after a line
abbrev pub after_line : Domain → Editing → EditLine → Editing
after_line d old line = after_if d old (word_call line.0 line.1)

-- what is held after each of these lines
abbrev pub held_after : Domain → Editing → List EditLine → List Editing
held_after d old [] = []
held_after d old (line ∷ lines) = after_line d old line ∷ held_after d (after_line d old line) lines

-- What an editor of a domain holds at the stages of a run is a function of its lines: that after each of the edits, undos and redos that they ask
-- for, from the domain's constants on.
abbrev pub RunsAreOfLines : Type 0
RunsAreOfLines =
    (names : Table) (d : Domain) (lines : List EditLine) (stages : List Stage) (last : Editing) → IsRun names d lines stages last
    → (map (λ s. s.held) stages ≡ held_after d (begun (opening d)) lines) × (last ≡ fold (after_line d) (begun (opening d)) lines)
