-- Lines that name a file: the first words, and the rest of the line, raw.
use Rattle.std.specs.Prelude.{ℕ, ◌-◌, Bool, not, ◌&&◌, ◌==◌, if◌then◌else◌, List, codes, drop, take, length, Option, None, Some}
use Rattle.std.specs.List.{position_or_len, suffix_len}
use Rattle.std.specs.Str.{is_utf8}
use Rattle.ps_text.specs.Words.{is_blank, is_run_byte, reads_as}

-- what follows the blanks at the beginning
abbrev pub trimmed : List ℕ → List ℕ
trimmed bytes = drop (position_or_len (λ b. not (is_blank b)) bytes) bytes

-- what stands before the blanks at the end
abbrev pub without_end : List ℕ → List ℕ
without_end bytes = take (length bytes - suffix_len is_blank bytes) bytes

-- how many bytes of a longer word stand at the beginning
abbrev pub run_length : List ℕ → ℕ
run_length bytes = position_or_len (λ b. not (is_run_byte b)) bytes

-- the longest run, after blanks, of bytes that are no blank, no parenthesis and no `;`
abbrev pub first_run : List ℕ → List ℕ
first_run bytes = take (run_length (trimmed bytes)) (trimmed bytes)

-- what follows that run
abbrev pub after_run : List ℕ → List ℕ
after_run bytes = drop (run_length (trimmed bytes)) (trimmed bytes)

-- source FILE
abbrev pub is_source : List ℕ → Bool
is_source bytes = reads_as (first_run bytes) (codes "source")

-- run plan FILE
abbrev pub is_run_plan : List ℕ → Bool
is_run_plan bytes = reads_as (first_run bytes) (codes "run") && reads_as (first_run (after_run bytes)) (codes "plan")

-- FILE, which is the rest of the line without blanks at its ends: not empty, and UTF-8
abbrev pub file_in : List ℕ → Option (List ℕ)
file_in rest =
    let name = without_end (trimmed rest) in
    if not (length name == 0) && is_utf8 name then Some name else None
