-- What ends a call before its work: the fault, its status and its line.
use Rattle.std.specs.Prelude.{◌≡◌, ℕ, suc, ◌+◌, ◌<◌, Result, Err, IfOk, IfErr, Some, None, List, map, string_bytes}
use Rattle.std.specs.declared.string.String.{String}
use Rattle.std.specs.declared.alloc.Global.{Global}
use Rattle.ps_world.specs.declared.failures.Failure.{Failure}
use Rattle.ps_world.specs.declared.failures.Failure.TheVariants.{Refused, OutOfMemory}
use Rattle.ps_text.specs.Outside.{FilesView, after, next}
use Rattle.ps_words.specs.Words.{Request, asked_of}
use Rattle.ps_inputs.specs.Reading.{Reading, Texts, MayBe, MayFail, MayGive, MayReadNext, longest_file, most_lines}
use Rattle.ps_inputs.specs.Reading.FileFault.{too_long, too_many}
use Rattle.ps_inputs.specs.Input.{HasBadMembers, IsAsked, IsNoDomain, IsWork, cannot_read_line, crowd_line, domain_in, domain_line, domain_text_of, lines_line, member_line, reading_of, texts_of, too_long_line, twice_line, usage_line}
use Rattle.ps_inputs.specs.declared.works.Work.{Work}
use Rattle.ps_inputs.specs.declared.faults.Fault.{Fault}
use Rattle.ps_inputs.specs.declared.faults.Fault.TheVariants.{Usage, NoDomain, NoMember, Crowd, Twice, TooLong, Lines, Unread}

-- the bytes of each word
abbrev pub word_texts : List (String Global) → List (List ℕ)
word_texts ws = map string_bytes ws

-- the status of a fault
abbrev pub fault_status : Fault → ℕ
fault_status Usage = 2
fault_status (NoDomain cause) = 3
fault_status (NoMember file cause) = 3
fault_status Crowd = 3
fault_status (Twice name) = 3
fault_status (TooLong file) = 3
fault_status Lines = 3
fault_status (Unread file) = 4

-- the line of a fault
abbrev pub fault_line : Fault → List ℕ
fault_line Usage = usage_line
fault_line (NoDomain cause) = domain_line cause.items
fault_line (NoMember file cause) = member_line file.items cause.items
fault_line Crowd = crowd_line
fault_line (Twice name) = twice_line name.items
fault_line (TooLong file) = too_long_line file.items
fault_line Lines = lines_line
fault_line (Unread file) = cannot_read_line file.items

-- ---- reading part of the input

-- The last of the reads between these two moments is that of this file, and it is the one that comes there as far as the files tell.
pub record IsLastRead {A : Type 0} (part : Reading A) (old new : FilesView) (file : List ℕ) : Type 0 where
  pub before : ℕ
  pub counted : new.reads ≡ after (suc before) old.reads
  pub named : MayReadNext part before file

-- A file is longer than it may be, which is what reading comes to as far as the files tell.
pub record IsTooLong {A : Type 0} (part : Reading A) (file : List ℕ) : Type 0 where
  pub length : ℕ
  pub long : longest_file < length
  pub told : MayFail part (too_long file length)

-- Why reading part of the input was ended: by a fault of the files, or since memory ran out.
abbrev pub IsEnded : {A : Type 0} → Reading A → FilesView → FilesView → Failure Fault → Type 0
IsEnded part old new (Refused Usage) = ⊥
IsEnded part old new (Refused (NoDomain cause)) = ⊥
IsEnded part old new (Refused (NoMember file cause)) = ⊥
IsEnded part old new (Refused Crowd) = ⊥
IsEnded part old new (Refused (Twice name)) = ⊥
IsEnded part old new (Refused (TooLong file)) = IsTooLong part file.items
IsEnded part old new (Refused Lines) = MayFail part (too_many (most_lines + 1))
IsEnded part old new (Refused (Unread file)) = IsLastRead part old new file.items
IsEnded part old new OutOfMemory = Unit {0}

-- the count of failed reads after an answer
abbrev pub failed_after : {B : Type 0} → Result B (Failure Fault) → ℕ → ℕ
failed_after (Err (Refused (Unread file))) n = next n
failed_after r n = n

-- Reading part of the input: the answer is this of what the definition gives, as far as the files tell, or says why reading was ended.
-- Each read is counted, and so is one that fails; what the files tell stays.
pub record ReadsPart {A B : Type 0} (part : Reading A) (old new : FilesView) (IsOf : A → B → Type 0) (r : Result B (Failure Fault)) : Type 0 where
  pub given : IfOk r (λ b. (count : ℕ) × (a : A) × MayBe part count a × (new.reads ≡ after count old.reads) × IsOf a b)
  pub ended : IfErr r (IsEnded part old new)
  pub failed : new.failed ≡ failed_after r old.failed
  pub same : new.told ≡ old.told

-- ---- loading the work

-- The text of the domain is none, for this cause, where it is told; and no file is at fault, as far as they tell, but reading all of
-- them gives such a text.
pub record IsNoDomainIn (texts : Texts) (request : Request) (cause : List ℕ) : Type 0 where
  pub domain : MayGive (domain_in texts request) (λ text. IsNoDomain text cause)
  pub all : MayGive (reading_of texts request) (λ m. IsNoDomain (domain_text_of m) cause)

-- No file is at fault, as far as they tell, but reading all of them gives texts of members that are.
abbrev pub IsMembersDue : List (List ℕ) → FilesView → Fault → Type 0
IsMembersDue ws old fault =
    (r : Request) × (asked_of ws ≡ Some r) × MayGive (reading_of old.told r) (λ m. HasBadMembers (texts_of m) fault)

-- The first fault, in the order of the work: the words, the files as they are read, the domain's text, the members' texts, their count,
-- their names.
abbrev pub IsDue : List (List ℕ) → FilesView → FilesView → Fault → Type 0
IsDue ws old new Usage = asked_of ws ≡ None
IsDue ws old new (NoDomain cause) = (r : Request) × (asked_of ws ≡ Some r) × IsNoDomainIn old.told r cause.items
IsDue ws old new (NoMember file cause) = IsMembersDue ws old (NoMember file cause)
IsDue ws old new Crowd = IsMembersDue ws old Crowd
IsDue ws old new (Twice name) = IsMembersDue ws old (Twice name)
IsDue ws old new fault = (r : Request) × (asked_of ws ≡ Some r) × IsEnded (reading_of old.told r) old new (Refused fault)

-- why there is no work: a fault is due, or memory ran out
abbrev pub IsRefused : List (List ℕ) → FilesView → FilesView → Failure Fault → Type 0
IsRefused ws old new (Refused fault) = IsDue ws old new fault
IsRefused ws old new OutOfMemory = Unit {0}

-- the work is what the words ask for, with the texts of their files as far as these are told
pub record IsLoaded (ws : List (List ℕ)) (old : FilesView) (w : Work) : Type 0 where
  pub request : Request
  pub asked : asked_of ws ≡ Some request
  pub kind : IsAsked request w
  pub texts : MayGive (reading_of old.told request) (λ m. IsWork m w)

-- Loading: the work that these words and files give, or the first fault, unless memory ran out. A failed read is always told.
pub record Loads (ws : List (List ℕ)) (old new : FilesView) (r : Result Work (Failure Fault)) : Type 0 where
  pub loaded : IfOk r (IsLoaded ws old)
  pub refused : IfErr r (IsRefused ws old new)
  pub failed : new.failed ≡ failed_after r old.failed
