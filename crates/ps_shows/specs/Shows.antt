-- What a call that shows a journal claims.
use Rattle.std.specs.Prelude.{◌≡◌, ℕ, Result, Ok, Err, Some, None, List, ◌++◌, codes}
use Rattle.std.specs.Global.{Vec}
use Rattle.ps_world.specs.Lines.{line_end}
use Rattle.ps_world.specs.declared.failures.Failure.{Failure}
use Rattle.ps_world.specs.declared.failures.Failure.TheVariants.{OutOfMemory, Refused}
use Rattle.ps_text.specs.Outside.{FilesView, SinkView}
use Rattle.ps_text.specs.declared.sinks.SinkRefusal.TheVariants as sink
use Rattle.ps_shows.specs.Asked.{asked_of}
use Rattle.ps_shows.specs.Pictures.{IsPictureIn, fault_line, fault_status}
use Rattle.ps_shows.specs.Telling.{GivesUp, Informs, Tells}
use Rattle.ps_shows.specs.declared.asked.Form.{Form}
use Rattle.ps_shows.specs.declared.faults.Fault.{Fault}

-- what files and sinks show before and after a call
pub record Outside : Type 0 where
  pub files : FilesView
  pub out : SinkView
  pub err : SinkView

-- the words aren't in the grammar
abbrev pub usage_line : List ℕ
usage_line = codes "plansys: usage" ++ line_end

-- The picture of the journal in a file is told; or nothing is written to `out`, and `err` hears why there is none.
abbrev pub TellsOf : List ℕ → Outside → Outside → Result (Vec ℕ) (Failure Fault) → ℕ → Type 0
TellsOf name old new (Ok picture) status = Tells picture.items old.out new.out old.err new.err status
TellsOf name old new (Err (Refused fault)) status =
    (new.out ≡ old.out) × Informs (fault_line fault name) (fault_status fault) old.err new.err status
TellsOf name old new (Err OutOfMemory) status = (new.out ≡ old.out) × GivesUp sink.OutOfMemory old.err new.err status

-- A picture in this form of the journal in this file is told, or why there is none.
pub record ShowsPicture (form : Form) (name : List ℕ) (old new : Outside) (status : ℕ) : Type 0 where
  pub picture : Result (Vec ℕ) (Failure Fault)
  pub made : IsPictureIn form name old.files new.files picture
  pub told : TellsOf name old new picture status

-- What a call does: the words ask for nothing, no file is read and `err` hears it; or they ask for a picture, which is
-- told.
pub data Shows (ws : List (List ℕ)) (old new : Outside) (status : ℕ) : Type 0 where
  nothing : asked_of ws ≡ None → new.files ≡ old.files → new.out ≡ old.out
      → Informs usage_line 2 old.err new.err status → Shows ws old new status
  picture : (form : Form) (name : List ℕ) → asked_of ws ≡ Some (form, name) → ShowsPicture form name old new status
      → Shows ws old new status
