-- What an editor does with its lines, one after another, and the text of that.
use Rattle.std.specs.Prelude.{◌≡◌, ℕ, suc, if◌then◌else◌, List, [], ◌∷◌, ◌++◌, Option, Result, length, take}
use Rattle.std.specs.List.{flat_map, list_any}
use Rattle.std.specs.Io.KnownBytes.{Appends}
use Rattle.ps_world.specs.Knowledge.{opening}
use Rattle.ps_world.specs.Names.{Table}
use Rattle.ps_world.specs.declared.domains.Domain.{Domain}
use Rattle.ps_text.specs.Outside.{AppendsPrefix, SinkView}
use Rattle.ps_text.specs.Work.{DoesWork}
use Rattle.ps_text.specs.declared.sinks.SinkRefusal.{SinkRefusal}
use Rattle.ps_undo.specs.Editing.{begun}
use Rattle.ps_undo.specs.declared.editing.Editing.{Editing}
use Rattle.ps_editing.specs.Lines.{Answers, EditLine, is_refused}
use Rattle.ps_editing.specs.Texts.{line_text, title}
use Rattle.ps_editing.specs.declared.answers.Answer.{Answer}

-- A stage of an editor: the number of a line, counted from 1, what is answered to it, and what is held then.
pub record Stage : Type 0 where
  pub number : ℕ
  pub answer : Answer
  pub held : Editing

-- These lines, one after another, lead an editor of a domain through these stages to what it holds last: it begins with the constants alone,
-- and to each line it answers as what it holds says, with this table of names.
pub data IsRun (names : Table) (d : Domain) : List EditLine → List Stage → Editing → Type 0 where
  nothing : IsRun names d [] [] (begun (opening d))
  one_more : (before : List EditLine) (stages : List Stage) (held : Editing) (line : EditLine) (a : Answer) (new : Editing) → IsRun names d before stages held
      → Answers names d line held a new → IsRun names d (before ++ line ∷ []) (stages ++ record { number = suc (length before); answer = a; held = new } ∷ []) new

-- the text of a stage
abbrev pub stage_text : Table → Domain → Stage → List ℕ
stage_text names d s = line_text names d s.number s.answer s.held.now

-- the text of a run
abbrev pub run_text : Table → Domain → List Stage → List ℕ
run_text names d stages = title ++ flat_map (stage_text names d) stages

-- the status of a run: 1 where a line was refused, else 0
abbrev pub run_status : List Stage → ℕ
run_status stages = if list_any (λ s. is_refused s.answer) stages then 1 else 0

-- All lines were done: the text of their run is written, and this is its status.
pub record IsEdited (d : Domain) (names : Table) (lines : List EditLine) (old new : Option (List ℕ)) (status : ℕ) : Type 0 where
  pub stages : List Stage
  pub last : Editing
  pub run : IsRun names d lines stages last
  pub is_status : status ≡ run_status stages
  pub written : Appends old new (run_text names d stages)

-- It was broken off: a prefix of the text of the run of the first lines is written.
pub record IsEditedInPart (d : Domain) (names : Table) (lines : List EditLine) (old new : Option (List ℕ)) : Type 0 where
  pub count : ℕ
  pub stages : List Stage
  pub last : Editing
  pub run : IsRun names d (take count lines) stages last
  pub written : AppendsPrefix old new (run_text names d stages)

-- Doing the lines of an editor, and writing the text of that: all of it, or a prefix, where a write was refused or memory ran out.
abbrev pub WritesRun : Domain → Table → List EditLine → SinkView → SinkView → Result ℕ SinkRefusal → Type 0
WritesRun d names lines old new = DoesWork (IsEdited d names lines old.bytes new.bytes) (IsEditedInPart d names lines old.bytes new.bytes) old new
