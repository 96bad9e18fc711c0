use Rattle.std.proofs.Common.{ℕ, List, Result, Ok, Err, subst}
use Rattle.std.specs.Global.{Vec}
use Rattle.ps_world.specs.declared.failures.Failure.{Failure}
use Rattle.ps_world.specs.declared.failures.Failure.TheVariants.{OutOfMemory, Refused}
use Rattle.ps_text.specs.Outside.{FilesView}
use Rattle.ps_shows.specs.Pictures.{IsDrawn, IsPictureIn, ReadsText}
use Rattle.ps_shows.specs.declared.asked.Form.{Form}
use Rattle.ps_shows.specs.declared.faults.Fault.{Fault}
use Rattle.ps_shows.specs.declared.faults.Fault.TheVariants as fault
use Rattle.ps_shows.proofs.pictures.picture_in.Goals as goal

-- what is drawn of the text that was read is the picture of the file
of_text : (form : Form) (name : List ℕ) (old new : FilesView) (text : Vec ℕ) (drawn : Result (Vec ℕ) (Failure Fault))
    → ReadsText name old new (Ok text) → IsDrawn form text.items drawn → IsPictureIn form name old new drawn
of_text form name old new text (Ok picture) read made = (text, read, made)
of_text form name old new text (Err (Refused (fault.Line n))) read made = (text, read, made)
of_text form name old new text (Err (Refused fault.TooLong)) read made = absurd made
of_text form name old new text (Err (Refused fault.Unread)) read made = absurd made
of_text form name old new text (Err OutOfMemory) read made = tt

pub returns-in-Ok : goal.returns-in-Ok
returns-in-Ok g c =
    of_text c.args.form c.args.file.now (g.F.Files.shown c.args.files.now) (g.F.Files.shown c.read_text.new.files) c.in-Ok.text c.drawn_anew.result
    c.in-Ok.ensures
    (subst (λ (t : List ℕ). IsDrawn c.args.form t c.drawn_anew.result) c.deref.ensures.value c.drawn_anew.ensures)
