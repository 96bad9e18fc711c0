-- What reading files comes to, as far as they tell their texts.
use Rattle.std.specs.Prelude.{◌≡◌, ℕ, ◌≤◌, ◌⊎◌, nat_lt, if◌then◌else◌, Some, List, [], ◌∷◌, ◌++◌, length, slice_get}
use Rattle.ps_text.specs.Outside.{Told}
use Rattle.ps_text.specs.Outside.Told.{untold, absent, text}

-- what the files tell, by their names
abbrev pub Texts : Type 0
Texts = List ℕ → Told

-- the most bytes of a file
abbrev pub longest_file : ℕ
longest_file = 1048576

-- the most command lines of a script with its files
abbrev pub most_lines : ℕ
most_lines = 10000

-- what is at fault with files: there is none of a name, one has so many bytes, or a script with its files has so many command lines
pub data FileFault : Type 0 where
  no_file : List ℕ → FileFault
  too_long : List ℕ → ℕ → FileFault
  too_many : ℕ → FileFault

-- What reading comes to, with the names of the files in the order in which they are read: it gives something; the files are at
-- fault; or that isn't known, since the text of the last one isn't told.
pub data Reading (A : Type 0) : Type 0 where
  gives : List (List ℕ) → A → Reading A
  faulty : List (List ℕ) → FileFault → Reading A
  unknown : List (List ℕ) → Reading A

-- the files that are read, in order, as far as they are told
abbrev pub files_read : {A : Type 0} → Reading A → List (List ℕ)
files_read (gives files value) = files
files_read (faulty files fault) = files
files_read (unknown files) = files

-- the same with these files read before
abbrev pub after_files : {A : Type 0} → List (List ℕ) → Reading A → Reading A
after_files first (gives files value) = gives (first ++ files) value
after_files first (faulty files fault) = faulty (first ++ files) fault
after_files first (unknown files) = unknown (first ++ files)

-- reading one thing, and then what it leads to
abbrev pub and_then : {A B : Type 0} → Reading A → (A → Reading B) → Reading B
and_then (gives files value) more = after_files files (more value)
and_then (faulty files fault) more = faulty files fault
and_then (unknown files) more = unknown files

-- what a file gives of which this is told: its text, unless that is too long
abbrev pub file_gives : List ℕ → Told → Reading (List ℕ)
file_gives file untold = unknown (file ∷ [])
file_gives file absent = faulty (file ∷ []) (no_file file)
file_gives file (text t) =
    if nat_lt longest_file (length t) then faulty (file ∷ []) (too_long file (length t)) else gives (file ∷ []) t

-- reading a file
abbrev pub read_file : Texts → List ℕ → Reading (List ℕ)
read_file texts file = file_gives file (texts file)

-- ---- what is claimed of something that was read

-- reading gives what this holds of, where that is told
abbrev pub MayGive : {A : Type 0} → Reading A → (A → Type 0) → Type 0
MayGive (gives files value) claim = claim value
MayGive (faulty files fault) claim = ⊥
MayGive (unknown files) claim = Unit {0}

-- reading gives this from so many files, where that is told
abbrev pub MayBe : {A : Type 0} → Reading A → ℕ → A → Type 0
MayBe (gives files value) count it = (length files ≡ count) × (value ≡ it)
MayBe (faulty files fault) count it = ⊥
MayBe (unknown files) count it = length files ≤ count

-- this is at fault, where that is told
abbrev pub MayFail : {A : Type 0} → Reading A → FileFault → Type 0
MayFail (gives files value) fault = ⊥
MayFail (faulty files it) fault = it ≡ fault
MayFail (unknown files) fault = Unit {0}

-- the file is the one that is read after n others, where that is told
abbrev pub MayReadNext : {A : Type 0} → Reading A → ℕ → List ℕ → Type 0
MayReadNext (unknown files) n file = (slice_get files n ≡ Some file) ⊎ (length files ≤ n)
MayReadNext part n file = slice_get (files_read part) n ≡ Some file
