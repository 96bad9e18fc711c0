-- What an editor holds after each of its lines is a function of these.
use Rattle.std.proofs.Common.{◌≡◌, Option, Some, None, List, [], ◌∷◌, ◌++◌, fold, refl, sym, ap, ◌∙◌}
use Rattle.std.proofs.lemmas.List.{map-append}
use Rattle.ps_world.specs.Knowledge.{opening}
use Rattle.ps_world.specs.Names.{Table}
use Rattle.ps_world.specs.declared.domains.Domain.{Domain}
use Rattle.ps_world.specs.declared.edits.Edit.{Edit}
use Rattle.ps_machine.specs.declared.inputs.Command.TheVariants as command
use Rattle.ps_machine.specs.declared.inputs.Line.{Line}
use Rattle.ps_machine.specs.declared.inputs.Line.TheVariants.{Good, Bad}
use Rattle.ps_machine.specs.declared.journal.Refusal.TheVariants as refusal
use Rattle.ps_edit_words.specs.declared.words.EditWord.{EditWord}
use Rattle.ps_edit_words.specs.declared.words.EditWord.TheVariants as word
use Rattle.ps_undo.specs.Editing.{begun}
use Rattle.ps_undo.specs.Runs.{after_call}
use Rattle.ps_undo.specs.Runs.Call.{make, redo, undo}
use Rattle.ps_undo.specs.declared.editing.Editing.{Editing}
use Rattle.ps_undo.specs.declared.editing.UndoRefusal.TheVariants as none
use Rattle.ps_undo.proofs.CallsOfRuns.{calls_are_of_runs}
use Rattle.ps_editing.specs.Laws.{RunsAreOfLines, after_if, after_line, edit_call, held_after, word_call}
use Rattle.ps_editing.specs.Lines.{AnswersEdit, AnswersLine, AnswersRedo, AnswersSave, AnswersUndo, AnswersWord, EditLine, with_more}
use Rattle.ps_editing.specs.Runs.{Stage}
use Rattle.ps_editing.specs.Runs.IsRun.{nothing, one_more}
use Rattle.ps_editing.specs.declared.answers.Answer.{Answer}
use Rattle.ps_editing.specs.declared.answers.Answer.TheVariants.{Made, Undone, Redone, Saved, Refused}
use Rattle.ps_editing.specs.declared.answers.Why.TheVariants.{Known, NothingToUndo, NothingToRedo}

-- ---- one line

module _ (names : Table) (d : Domain) (old new : Editing) where
  after_undo : (a : Answer) → AnswersUndo old a new → new ≡ after_call d old undo
  after_undo (Undone x) is = calls_are_of_runs.undo_taken d x old new none.NothingToUndo is
  after_undo (Refused NothingToUndo) is = calls_are_of_runs.undo_refused d old new none.NothingToUndo none.NothingToUndo (is.0, refl, is.1)
  after_undo a is = absurd is

  after_redo : (a : Answer) → AnswersRedo old a new → new ≡ after_call d old redo
  after_redo (Redone x) is = calls_are_of_runs.redo_taken d x old new none.NothingToRedo is
  after_redo (Refused NothingToRedo) is = calls_are_of_runs.redo_refused d old new none.NothingToRedo none.NothingToRedo (is.0, refl, is.1)
  after_redo a is = absurd is

  after_save : (a : Answer) → AnswersSave names d old a new → new ≡ old
  after_save (Saved edits) is = is.1
  after_save a is = absurd is

  after_edit : (x : Edit) (a : Answer) → AnswersEdit d x old a new → new ≡ after_call d old (make x)
  after_edit x (Made y) is = calls_are_of_runs.edit_made d x old new is.1 is.2
  after_edit x (Refused (Known (refusal.Edit why))) is = calls_are_of_runs.edit_refused d x old new why is
  after_edit x a is = absurd is

  after_known : (line : Line) (a : Answer) → AnswersLine d line old a new → new ≡ after_if d old (edit_call line)
  after_known (Good (command.Edit x)) a is = after_edit x a is
  after_known (Good (command.Ask q)) a is = is.1
  after_known (Good command.Run) a is = is.1
  after_known (Good (command.RunAction act)) a is = is.1
  after_known (Good (command.RunPlan steps)) a is = is.1
  after_known (Good command.Quit) a is = is.1
  after_known (Bad cause) a is = is.1

  after_word : (line : Line) (w : Option EditWord) (a : Answer) → AnswersWord names d line w old a new → new ≡ after_if d old (word_call line w)
  after_word line (Some word.Undo) a is = after_undo a is
  after_word line (Some word.Redo) a is = after_redo a is
  after_word line (Some word.Save) a is = after_save a is
  after_word line (Some (word.More at)) a is = after_known (with_more at line) a is
  after_word line None a is = after_known line a is

-- ---- all lines

module _ (d : Domain) where
  -- one line more
  last_more : (e : Editing) (lines : List EditLine) (line : EditLine) → fold (after_line d) e (lines ++ line ∷ []) ≡ after_line d (fold (after_line d) e lines) line
  last_more e [] line = refl
  last_more e (l ∷ lines) line = last_more (after_line d e l) lines line

  held_more : (e : Editing) (lines : List EditLine) (line : EditLine) → held_after d e (lines ++ line ∷ []) ≡ held_after d e lines ++ after_line d (fold (after_line d) e lines) line ∷ []
  held_more e [] line = refl
  held_more e (l ∷ lines) line = ap (λ (es : List Editing). after_line d e l ∷ es) (held_more (after_line d e l) lines line)

pub runs_are_of_lines : RunsAreOfLines
runs_are_of_lines names d _ _ _ nothing = (refl, refl)
runs_are_of_lines names d _ _ _ (one_more before stages held line a new run answers) =
    let start = begun (opening d) in
    let earlier = runs_are_of_lines names d before stages held run in
    let now : new ≡ after_line d (fold (after_line d) start before) line =
    after_word names d held new line.0 line.1 a answers ∙ ap (λ (e : Editing). after_line d e line) earlier.1 in (
      map-append (λ (s : Stage). s.held) stages _ ∙ (λ i. earlier.0 i ++ now i ∷ []) ∙ sym (held_more d start before line),
      now ∙ sym (last_more d start before line),
    )
