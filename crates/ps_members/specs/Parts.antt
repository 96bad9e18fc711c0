-- The part of a line that is read as words.
use Rattle.std.specs.Prelude.{ℕ, ◌-◌, Bool, false, not, ◌&&◌, ◌==◌, if◌then◌else◌, List, [], ◌∷◌, codes, length, take}
use Rattle.ps_text.specs.Words.{goes_on, is_run_byte, reads_as}
use Rattle.ps_script.specs.Files.{after_run, first_run}

-- the text with a blank in place of each `_` that is a word of its own; a byte of a longer word may stand right before the text
abbrev pub without_open : Bool → List ℕ → List ℕ
without_open joined [] = []
without_open joined (b ∷ bs) =
    (if (b == 95 && not joined) && not (goes_on bs) then 32 else b) ∷ without_open (is_run_byte b) bs

-- feedback N TEXT
abbrev pub is_feedback : List ℕ → Bool
is_feedback bytes = reads_as (first_run bytes) (codes "feedback")

-- args PLACE*
abbrev pub is_args : List ℕ → Bool
is_args bytes = reads_as (first_run bytes) (codes "args")

-- the line up to the end of N, which follows its first word
abbrev pub up_to_number : List ℕ → List ℕ
up_to_number bytes = take (length bytes - length (after_run (after_run bytes))) bytes

-- The part of a line that is read as words: of feedback up to N, and of places all but those that are open.
abbrev pub worded : List ℕ → List ℕ
worded bytes =
    if is_feedback bytes then up_to_number bytes
    else (if is_args bytes then without_open false bytes
    else bytes)

-- the place at which such an end of the line begins
abbrev pub place_before : List ℕ → List ℕ → ℕ
place_before bytes end = length bytes - length end
