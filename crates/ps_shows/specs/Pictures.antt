-- The picture of the journal in a file, or why there is none.
use Rattle.std.specs.Prelude.{◌≡◌, ℕ, ◌<◌, ◌≤◌, Result, Ok, Err, List, [], ◌∷◌, ◌++◌, codes, length}
use Rattle.std.specs.Fmt.{decimal}
use Rattle.std.specs.Global.{Vec}
use Rattle.ps_world.specs.Lines.{line_end}
use Rattle.ps_world.specs.Names.{Table}
use Rattle.ps_world.specs.declared.failures.Failure.{Failure}
use Rattle.ps_world.specs.declared.failures.Failure.TheVariants.{OutOfMemory, Refused}
use Rattle.ps_text.specs.Outside.{FilesView, Reads}
use Rattle.ps_text.specs.declared.reads.FileRefusal.TheVariants as file
use Rattle.ps_entries.specs.Journals.{IsFault, IsText}
use Rattle.ps_entries.specs.declared.journals.JournalRefusal.{JournalRefusal}
use Rattle.ps_entries.specs.declared.journals.JournalRefusal.TheVariants.{Header, Line}
use Rattle.ps_entries.specs.declared.journals.JournalText.{JournalText}
use Rattle.ps_picture.specs.Courses.{picture_of}
use Rattle.ps_picture.specs.declared.courses.Course.{Course}
use Rattle.ps_drawing.specs.Texts.{picture_text}
use Rattle.ps_drawing.specs.Vectors.{picture_svg}
use Rattle.ps_shows.specs.declared.asked.Form.{Form}
use Rattle.ps_shows.specs.declared.asked.Form.TheVariants.{Svg, Text}
use Rattle.ps_shows.specs.declared.faults.Fault.{Fault}
use Rattle.ps_shows.specs.declared.faults.Fault.TheVariants as fault

-- the most bytes of a file
abbrev pub longest_file : ℕ
longest_file = 1048576

-- one read of a file gives its text, if that isn't too long
abbrev pub ReadsText : List ℕ → FilesView → FilesView → Result (Vec ℕ) (Failure Fault) → Type 0
ReadsText name old new (Ok text) = Reads name old new (Ok text) × (length text.items ≤ longest_file)
ReadsText name old new (Err (Refused fault.TooLong)) =
    (text : Vec ℕ) × Reads name old new (Ok text) × (longest_file < length text.items)
ReadsText name old new (Err (Refused fault.Unread)) = Reads name old new (Err file.Failed)
ReadsText name old new (Err (Refused (fault.Line n))) = ⊥
ReadsText name old new (Err OutOfMemory) = Unit {0}

-- a picture in a form
abbrev pub form_text : Form → Table → List Course → List ℕ
form_text Text names cs = picture_text names cs
form_text Svg names cs = picture_svg names cs

-- the table of names before a journal is read
abbrev pub first_names : Table
first_names = codes "object" ∷ []

-- the first line at fault of a text that is no journal
abbrev pub line_of : JournalRefusal → ℕ
line_of Header = 1
line_of (Line n) = n

-- a text is a journal, and this is the picture of its entries; or this is its first line at fault
abbrev pub IsDrawn : Form → List ℕ → Result (Vec ℕ) (Failure Fault) → Type 0
IsDrawn form text (Ok picture) =
    (t : JournalText) × (names : Table) × IsText first_names text t names
    × (picture.items ≡ form_text form names (picture_of t.entries))
IsDrawn form text (Err (Refused (fault.Line n))) =
    (why : JournalRefusal) × IsFault first_names text why × (n ≡ line_of why)
IsDrawn form text (Err (Refused other)) = ⊥
IsDrawn form text (Err OutOfMemory) = Unit {0}

-- a file is read, and this is drawn of its text
abbrev pub IsDrawnOf : Form → List ℕ → FilesView → FilesView → Result (Vec ℕ) (Failure Fault) → Type 0
IsDrawnOf form name old new drawn = (text : Vec ℕ) × ReadsText name old new (Ok text) × IsDrawn form text.items drawn

-- the picture of the journal in a file, or why there is none
abbrev pub IsPictureIn : Form → List ℕ → FilesView → FilesView → Result (Vec ℕ) (Failure Fault) → Type 0
IsPictureIn form name old new (Ok picture) = IsDrawnOf form name old new (Ok picture)
IsPictureIn form name old new (Err (Refused (fault.Line n))) =
    IsDrawnOf form name old new (Err (Refused (fault.Line n)))
IsPictureIn form name old new (Err (Refused fault.TooLong)) = ReadsText name old new (Err (Refused fault.TooLong))
IsPictureIn form name old new (Err (Refused fault.Unread)) = ReadsText name old new (Err (Refused fault.Unread))
IsPictureIn form name old new (Err OutOfMemory) = Unit {0}

-- the status of a fault
abbrev pub fault_status : Fault → ℕ
fault_status fault.TooLong = 3
fault_status (fault.Line n) = 3
fault_status fault.Unread = 4

-- what is said of a fault before and after the name of the file
abbrev pub head_of : Fault → List ℕ
head_of fault.TooLong = codes "plansys: "
head_of (fault.Line n) = codes "plansys: "
head_of fault.Unread = codes "plansys: cannot read "

abbrev pub cause_text : Fault → List ℕ
cause_text fault.TooLong = codes ": TooLong" ++ line_end
cause_text (fault.Line n) = codes ": line " ++ (decimal n ++ line_end)
cause_text fault.Unread = line_end

-- the line that says what is at fault with a file
abbrev pub fault_line : Fault → List ℕ → List ℕ
fault_line f name = head_of f ++ (name ++ cause_text f)
