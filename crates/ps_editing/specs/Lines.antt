-- What an editor answers to each line, and what it holds then.
use Rattle.std.specs.Prelude.{◌≡◌, ℕ, Bool, true, false, if◌then◌else◌, is_none, Option, None, Some, Ok, Err, List, [], ◌∷◌}
use Rattle.ps_world.specs.Knowledge.{action_of, predicate_of}
use Rattle.ps_world.specs.Names.{Table}
use Rattle.ps_world.specs.declared.domains.Domain.{Domain}
use Rattle.ps_world.specs.declared.edits.Edit.{Edit}
use Rattle.ps_world.specs.declared.failures.Failure.TheVariants as failure
use Rattle.ps_machine.specs.declared.inputs.Command.TheVariants as command
use Rattle.ps_machine.specs.declared.inputs.LineCause.TheVariants as cause
use Rattle.ps_machine.specs.declared.inputs.Line.{Line}
use Rattle.ps_machine.specs.declared.inputs.Line.TheVariants.{Good, Bad}
use Rattle.ps_machine.specs.declared.inputs.Query.{Query}
use Rattle.ps_machine.specs.declared.inputs.Query.TheVariants as query
use Rattle.ps_machine.specs.declared.journal.Refusal.TheVariants as refusal
use Rattle.ps_edit_words.specs.declared.words.EditWord.{EditWord}
use Rattle.ps_edit_words.specs.declared.words.EditWord.TheVariants as word
use Rattle.ps_undo.specs.Editing.{EditMakes, redone, undone}
use Rattle.ps_undo.specs.Saved.{AreSaved}
use Rattle.ps_undo.specs.declared.editing.Editing.{Editing}
use Rattle.ps_editing.specs.declared.answers.Answer.{Answer}
use Rattle.ps_editing.specs.declared.answers.Answer.TheVariants.{Made, Undone, Redone, Asked, Saved, Ended, Refused}
use Rattle.ps_editing.specs.declared.answers.Why.TheVariants.{Known, NotHere, NothingToUndo, NothingToRedo}

-- ---- lines

-- a line of an editor: what it says to a session, and what it says to an editor alone, if it begins with a word that no session knows
abbrev pub EditLine : Type 0
EditLine = Line × Option EditWord

-- lines, each with what it says to an editor alone
abbrev pub worded : List Line → List (Option EditWord) → List EditLine
worded [] words = []
worded (line ∷ lines) [] = (line, None) ∷ worded lines []
worded (line ∷ lines) (w ∷ words) = (line, w) ∷ worded lines words

-- ---- answers

-- whether a line is refused
abbrev pub is_refused : Answer → Bool
is_refused (Refused why) = true
is_refused a = false

-- an edit is made as what is known says, or refused for the cause that it says
abbrev pub AnswersEdit : Domain → Edit → Editing → Answer → Editing → Type 0
AnswersEdit d x old (Made y) new = (y ≡ x) × (changed : Bool) × EditMakes d x old (Ok changed) new
AnswersEdit d x old (Refused (Known (refusal.Edit why))) new = EditMakes d x old (Err (failure.Refused why)) new
AnswersEdit d x old a new = ⊥

-- the newest edit that can be undone is
abbrev pub AnswersUndo : Editing → Answer → Editing → Type 0
AnswersUndo old (Undone x) new = undone old ≡ Some (x, new)
AnswersUndo old (Refused NothingToUndo) new = (undone old ≡ None) × (new ≡ old)
AnswersUndo old a new = ⊥

-- the edit that was undone last is made again
abbrev pub AnswersRedo : Editing → Answer → Editing → Type 0
AnswersRedo old (Redone x) new = redone old ≡ Some (x, new)
AnswersRedo old (Refused NothingToRedo) new = (redone old ≡ None) × (new ≡ old)
AnswersRedo old a new = ⊥

-- the edits that make what is known are told, and nothing changes
abbrev pub AnswersSave : Table → Domain → Editing → Answer → Editing → Type 0
AnswersSave names d old (Saved edits) new = AreSaved names d old.now edits × (new ≡ old)
AnswersSave names d old a new = ⊥

-- what is answered to a query: an editor has no plan and no tree, and what isn't declared is refused
abbrev pub asked : Domain → Query → Answer
asked d (query.ModelPredicate n) = if is_none (predicate_of d n) then Refused (Known refusal.NoPredicate) else Asked (query.ModelPredicate n)
asked d (query.ModelAction n) = if is_none (action_of d n) then Refused (Known refusal.NoAction) else Asked (query.ModelAction n)
asked d query.Plan = Refused NotHere
asked d query.Tree = Refused NotHere
asked d q = Asked q

-- what is answered to a line that is no edit: an editor has no runs
abbrev pub said_of : Domain → Line → Answer
said_of d (Bad cause) = Refused (Known (refusal.Line cause))
said_of d (Good (command.Ask q)) = asked d q
said_of d (Good command.Quit) = Ended
said_of d (Good other) = Refused NotHere

-- what an editor answers to a line that a session knows, and what it holds then: nothing but an edit changes that
abbrev pub AnswersLine : Domain → Line → Editing → Answer → Editing → Type 0
AnswersLine d (Good (command.Edit x)) old a new = AnswersEdit d x old a new
AnswersLine d line old a new = (a ≡ said_of d line) × (new ≡ old)

-- a line that begins with a word of an editor and has more at this byte: the more doesn't fit, unless there is a fault of words before
abbrev pub with_more : ℕ → Line → Line
with_more at (Bad cause.Command) = Bad (cause.Shape at)
with_more at line = line

-- the same of a line by what it says to an editor alone, if it begins with a word that no session knows
abbrev pub AnswersWord : Table → Domain → Line → Option EditWord → Editing → Answer → Editing → Type 0
AnswersWord names d line (Some word.Undo) old a new = AnswersUndo old a new
AnswersWord names d line (Some word.Redo) old a new = AnswersRedo old a new
AnswersWord names d line (Some word.Save) old a new = AnswersSave names d old a new
AnswersWord names d line (Some (word.More at)) old a new = AnswersLine d (with_more at line) old a new
AnswersWord names d line None old a new = AnswersLine d line old a new

-- what an editor of a domain answers to a line, with this table of names, and what it holds before and after it
abbrev pub Answers : Table → Domain → EditLine → Editing → Answer → Editing → Type 0
Answers names d line old a new = AnswersWord names d line.0 line.1 old a new
