-- What a line of feedback says: feedback N TEXT, where TEXT stands as it is.
use Rattle.std.specs.Prelude.{ℕ, ◌+◌, ◌-◌, ◌*◌, ◌&&◌, ◌==◌, nat_le, if◌then◌else◌, List, [], ◌∷◌, codes, Option, None, Some, Result, Ok, Err}
use Rattle.std.specs.Char.{is_ascii_digit}
use Rattle.ps_world.specs.Lines.{same_text}
use Rattle.ps_machine.specs.Tables.{is_note}
use Rattle.ps_machine.specs.declared.inputs.LineCause.{LineCause}
use Rattle.ps_machine.specs.declared.inputs.LineCause.TheVariants.{Shape}
use Rattle.ps_machine.specs.declared.members.Unit.{Unit as Task}
use Rattle.ps_machine.specs.declared.members.Unit.TheVariants as unit
use Rattle.ps_script.specs.Files.{after_run, first_run, trimmed, without_end}
use Rattle.ps_members.specs.Parts.{place_before}

-- N, from 0 to 100 without a needless zero: one digit, two of which the first isn't 0, or 100
abbrev pub percent_of : List ℕ → Option ℕ
percent_of (a ∷ []) = if is_ascii_digit a then Some (a - 48) else None
percent_of (a ∷ b ∷ []) = if (is_ascii_digit a && is_ascii_digit b) && nat_le 49 a then Some (10 * (a - 48) + (b - 48)) else None
percent_of word = if same_text word (codes "100") then Some 100 else None

-- a text, or nothing where it is a comment
abbrev pub uncommented : List ℕ → List ℕ
uncommented [] = []
uncommented (b ∷ bs) = if b == 59 then [] else b ∷ bs

-- what stands from N on
abbrev pub number_on : List ℕ → List ℕ
number_on bytes = uncommented (trimmed (after_run bytes))

-- what stands from TEXT on
abbrev pub note_on : List ℕ → List ℕ
note_on bytes = trimmed (after_run (after_run bytes))

-- a unit of feedback, where there is a number and a note, or else where the line doesn't fit
abbrev pub noted : List ℕ → Option ℕ → Result Task LineCause
noted bytes None = Err (Shape (place_before bytes (number_on bytes)))
noted bytes (Some n) =
    let note = without_end (note_on bytes) in
    if is_note note then Ok (unit.Feedback n note) else Err (Shape (place_before bytes (note_on bytes)))

-- What a line of feedback says.
abbrev pub feedback_of : List ℕ → Result Task LineCause
feedback_of bytes = noted bytes (percent_of (first_run (number_on bytes)))
