-- What files and sinks show, and what a call does to that. A count stands still at 2^64 - 1.
use Rattle.std.specs.Prelude.{◌≡◌, ℕ, zero, suc, ◌+◌, ◌-◌, ◌^◌, ◌<◌, ◌≤◌, nat_lt, if◌then◌else◌, List, Option, Result, Ok, Err, IfOk, OnOk, OnErr, length, take}
use Rattle.std.specs.Global.{Vec}
use Rattle.std.specs.Io.KnownBytes.{Appends, WriteAppends}
use Rattle.ps_text.specs.declared.reads.FileRefusal.{FileRefusal}
use Rattle.ps_text.specs.declared.reads.FileRefusal.TheVariants as file
use Rattle.ps_text.specs.declared.sinks.SinkRefusal.{SinkRefusal}
use Rattle.ps_text.specs.declared.sinks.SinkRefusal.TheVariants as sink

-- a count after one more
abbrev pub next : ℕ → ℕ
next n = if nat_lt n (2 ^ 64 - 1) then n + 1 else n

-- a count after k more
abbrev pub after : ℕ → ℕ → ℕ
after zero n = n
after (suc k) n = next (after k n)

-- ---- files

-- what is told of a file: nothing, that there is none of the name, or its text
pub data Told : Type 0 where
  untold : Told
  absent : Told
  text : List ℕ → Told

-- of files: what they tell of each name, how many reads were made, and how many of these failed
pub record FilesView : Type 0 where
  pub told : List ℕ → Told
  pub reads : ℕ
  pub failed : ℕ

-- a file of which this is told may be read as these bytes
abbrev pub MayHold : Told → List ℕ → Type 0
MayHold untold bytes = Unit {0}
MayHold absent bytes = ⊥
MayHold (text t) bytes = bytes ≡ t

-- the count of failed reads after an answer
abbrev pub failed_reads : {A : Type 0} → Result A FileRefusal → ℕ → ℕ
failed_reads (Ok value) n = n
failed_reads (Err file.Failed) n = next n
failed_reads (Err file.OutOfMemory) n = n

-- One read: the bytes are what is told of the name, the read is counted, and so is its failure; nothing else changes.
pub record Reads (name : List ℕ) (old new : FilesView) (r : Result (Vec ℕ) FileRefusal) : Type 0 where
  pub holds : IfOk r (λ v. MayHold (old.told name) v.items)
  pub same : (n : List ℕ) → new.told n ≡ old.told n
  pub counted : new.reads ≡ next old.reads
  pub failed : new.failed ≡ failed_reads r old.failed

-- ---- sinks

-- of a sink: the bytes that it took, where it tells them, how many writes failed, and how many were refused for either cause
pub record SinkView : Type 0 where
  pub bytes : Option (List ℕ)
  pub failed : ℕ
  pub refused : ℕ

-- what the answer of a call that ends with the first refused write says of the two counts
abbrev pub Counts : {A : Type 0} → SinkView → SinkView → Result A SinkRefusal → Type 0
Counts old new (Ok value) = (new.failed ≡ old.failed) × (new.refused ≡ old.refused)
Counts old new (Err sink.Failed) = (new.failed ≡ next old.failed) × (new.refused ≡ next old.refused)
Counts old new (Err sink.OutOfMemory) = (new.failed ≡ old.failed) × (new.refused ≡ next old.refused)

-- One write: a prefix of the bytes is taken, and at least one byte where there is one; a refusal takes none.
pub record Writes (bytes : List ℕ) (old new : SinkView) (r : Result ℕ SinkRefusal) : Type 0 where
  pub some : IfOk r (λ n. (n ≤ length bytes) × (0 < length bytes → 0 < n))
  pub taken : WriteAppends old.bytes new.bytes r bytes
  pub counted : Counts old new r

-- known bytes grow by some prefix of these
abbrev pub AppendsPrefix : Option (List ℕ) → Option (List ℕ) → List ℕ → Type 0
AppendsPrefix old new bytes = (n : ℕ) × Appends old new (take n bytes)

-- All of the bytes are taken, or, where a write was refused, a prefix of them.
pub record Puts (bytes : List ℕ) (old new : SinkView) (r : Result (Unit {0}) SinkRefusal) : Type 0 where
  pub whole : OnOk r (Appends old.bytes new.bytes bytes)
  pub prefix : OnErr r (AppendsPrefix old.bytes new.bytes bytes)
  pub counted : Counts old new r

-- the same of work that writes, and whose memory may run out between its writes too
abbrev pub CountsWork : {A : Type 0} → SinkView → SinkView → Result A SinkRefusal → Type 0
CountsWork old new (Err sink.OutOfMemory) = new.failed ≡ old.failed
CountsWork old new r = Counts old new r
