-- A script with the command lines of its files in place of the lines that name them.
use Rattle.std.specs.Prelude.{ℕ, zero, suc, ◌+◌, Bool, false, ◌&&◌, ◌==◌, nat_lt, if◌then◌else◌, Option, Some, None, List, [], ◌∷◌, ◌++◌, codes, length}
use Rattle.ps_text.specs.ScriptLines.{script_lines}
use Rattle.ps_text.specs.Words.{reads_as, word_at, words}
use Rattle.ps_script.specs.Files.{after_run, file_in, is_run_plan, is_source}
use Rattle.ps_script.specs.Lines.{is_nothing}
use Rattle.ps_inputs.specs.Reading.{Reading, Texts, and_then, most_lines, read_file}
use Rattle.ps_inputs.specs.Reading.FileFault.{too_many}
use Rattle.ps_inputs.specs.Reading.Reading.{gives, faulty}

-- a command line: its bytes; its bytes with the text of the plan that it runs; or one that names a file too deep
pub data Flattened : Type 0 where
  plain : List ℕ → Flattened
  with_plan : List ℕ → List ℕ → Flattened
  too_deep : Flattened

-- command lines, and whether the last of them is `quit`, which ends the script
pub record Flat : Type 0 where
  pub lines : List Flattened
  pub ended : Bool

-- no command line
abbrev pub no_line : Flat
no_line = record { lines = []; ended = false }

-- the word `quit` alone
abbrev pub is_quit : List ℕ → Bool
is_quit bytes = length (words bytes) == 1 && reads_as (word_at (words bytes) 0) (codes "quit")

-- this, where there is room for a command line after n others, which are counted over all files
abbrev pub with_room : ℕ → Reading Flat → Reading Flat
with_room n part = if nat_lt n most_lines then part else faulty [] (too_many (n + 1))

-- one command line
abbrev pub one_line : ℕ → Flattened → Bool → Reading Flat
one_line n line ended = with_room n (gives [] (record { lines = line ∷ []; ended = ended }))

-- a command line that names no file
abbrev pub plain_line : ℕ → List ℕ → Reading Flat
plain_line n bytes = one_line n (plain bytes) (is_quit bytes)

-- `source` with a file gives that file's lines; without one it is a command line
abbrev pub source_line : (ℕ → List ℕ → Reading Flat) → ℕ → List ℕ → Option (List ℕ) → Reading Flat
source_line on_source n bytes None = plain_line n bytes
source_line on_source n bytes (Some file) = on_source n file

-- A line that runs the plan in a file: the file is read where there is room for the line. Without a file it is a command line.
abbrev pub plan_line : Texts → ℕ → List ℕ → Option (List ℕ) → Reading Flat
plan_line texts n bytes None = plain_line n bytes
plan_line texts n bytes (Some file) =
    with_room n (and_then (read_file texts file) (λ plan. gives [] (record { lines = with_plan bytes plan ∷ []; ended = false })))

-- one line of a file: nothing, a file's lines, a line that runs the plan in a file, or another command line
abbrev pub step : Texts → (ℕ → List ℕ → Reading Flat) → ℕ → List ℕ → Reading Flat
step texts on_source n bytes =
    if is_nothing bytes then gives [] no_line
    else (if is_source bytes then source_line on_source n bytes (file_in (after_run bytes))
    else (if is_run_plan bytes then plan_line texts n bytes (file_in (after_run (after_run bytes)))
    else plain_line n bytes))

-- these command lines, and then those of the rest, unless these end the script
abbrev pub followed : Flat → Reading Flat → Reading Flat
followed now rest =
    if now.ended then gives [] now
    else and_then rest (λ more. gives [] (record { lines = now.lines ++ more.lines; ended = more.ended }))

-- the lines of a file, one after another
abbrev pub walk : Texts → (ℕ → List ℕ → Reading Flat) → ℕ → List (List ℕ) → Reading Flat
walk texts on_source n [] = gives [] no_line
walk texts on_source n (bytes ∷ rest) =
    and_then (step texts on_source n bytes) (λ now. followed now (walk texts on_source (n + length now.lines) rest))

-- The lines of a file that is named where so many levels of files may still be opened: its own lines, or one that stands too deep.
unfoldable pub on_source : ℕ → Texts → ℕ → List ℕ → Reading Flat
on_source zero texts n file = one_line n too_deep false
on_source (suc levels) texts n file =
    and_then (read_file texts file) (λ t. walk texts (on_source levels texts) n (script_lines t))

-- the script in a file, with the files that it names: its own file, and four levels of files from there
abbrev pub script_in : Texts → List ℕ → Reading Flat
script_in texts file = on_source 5 texts 0 file
