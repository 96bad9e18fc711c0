-- Doing one line of an editor.
use Rattle.std.specs.Prelude.{◌≡◌, ℕ, ◌⊎◌, Bool, Result}
use Rattle.std.specs.Io.KnownBytes.{Appends}
use Rattle.ps_world.specs.Names.{Table}
use Rattle.ps_world.specs.declared.domains.Domain.{Domain}
use Rattle.ps_world.specs.declared.known.Knowledge.{Knowledge}
use Rattle.ps_text.specs.Outside.{AppendsPrefix, SinkView}
use Rattle.ps_text.specs.Work.{DoesWork}
use Rattle.ps_text.specs.declared.sinks.SinkRefusal.{SinkRefusal}
use Rattle.ps_undo.specs.declared.editing.Editing.{Editing}
use Rattle.ps_editing.specs.Lines.{Answers, EditLine, is_refused}
use Rattle.ps_editing.specs.Texts.{line_text}
use Rattle.ps_editing.specs.declared.answers.Answer.{Answer}

-- A line was answered, its text is written, and it is answered whether it was refused.
pub record IsLineDone (d : Domain) (names : Table) (n : ℕ) (line : EditLine) (held new_held : Editing) (old new : SinkView) (refused : Bool) : Type 0 where
  pub answer : Answer
  pub answers : Answers names d line held answer new_held
  pub refuses : refused ≡ is_refused answer
  pub written : Appends old.bytes new.bytes (line_text names d n answer new_held.now)

-- A line was answered, and a prefix of its text is written.
pub record IsLineCut (d : Domain) (names : Table) (n : ℕ) (line : EditLine) (held new_held : Editing) (old new : SinkView) : Type 0 where
  pub answer : Answer
  pub answers : Answers names d line held answer new_held
  pub written : AppendsPrefix old.bytes new.bytes (line_text names d n answer new_held.now)

-- Writing the text of an answer: all of it, and whether the line is refused is answered; or a prefix, where a write was refused or memory ran out.
abbrev pub WritesAnswer : Domain → Table → ℕ → Answer → Knowledge → SinkView → SinkView → Result Bool SinkRefusal → Type 0
WritesAnswer d names n a k old new =
    DoesWork (λ refused. (refused ≡ is_refused a) × Appends old.bytes new.bytes (line_text names d n a k))
    (AppendsPrefix old.bytes new.bytes (line_text names d n a k)) old new

-- Doing a line, and writing the text of that: all of it, or a prefix, where a write was refused, or nothing, where memory ran out before.
abbrev pub WritesLine : Domain → Table → ℕ → EditLine → Editing → Editing → SinkView → SinkView → Result Bool SinkRefusal → Type 0
WritesLine d names n line held new_held old new =
    DoesWork (IsLineDone d names n line held new_held old new) (IsLineCut d names n line held new_held old new ⊎ (new.bytes ≡ old.bytes)) old new
