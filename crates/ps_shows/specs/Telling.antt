-- Telling a text, or why there is none.
use Rattle.std.specs.Prelude.{◌≡◌, ℕ, List, ◌++◌, codes, Result, Ok, Err, IfOk}
use Rattle.std.specs.Global.{Vec}
use Rattle.ps_world.specs.Lines.{line_end}
use Rattle.ps_text.specs.Outside.{Puts, SinkView}
use Rattle.ps_text.specs.declared.sinks.SinkRefusal.{SinkRefusal}
use Rattle.ps_text.specs.declared.sinks.SinkRefusal.TheVariants.{Failed, OutOfMemory}

-- a sink takes a line, or, where a write to it is refused, a prefix of it
abbrev pub Says : List ℕ → SinkView → SinkView → Type 0
Says line old new = (r : Result (Unit {0}) SinkRefusal) × Puts line old new r

-- telling that a write failed or that memory ran out, with the status of that
abbrev pub GivesUp : SinkRefusal → SinkView → SinkView → ℕ → Type 0
GivesUp Failed old new status = (status ≡ 5) × Says (codes "plansys: cannot write" ++ line_end) old new
GivesUp OutOfMemory old new status = (status ≡ 6) × Says (codes "plansys: out of memory" ++ line_end) old new

-- Telling a text to a sink: it is told, and the call ends with this status; or a write was refused, since writing failed
-- or memory ran out; or there was no memory for the text.
pub data Informs (text : List ℕ) (done : ℕ) (old new : SinkView) : ℕ → Type 0 where
  told : Puts text old new (Ok tt) → Informs text done old new done
  unwritten : Puts text old new (Err Failed) → Informs text done old new 5
  starved : Puts text old new (Err OutOfMemory) → Informs text done old new 6
  wordless : (status : ℕ) → GivesUp OutOfMemory old new status → Informs text done old new status

-- telling a text for which there may be no memory
abbrev pub InformsOf : {E : Type 0} → Result (Vec ℕ) E → ℕ → SinkView → SinkView → ℕ → Type 0
InformsOf r done old new status = (text : List ℕ) → IfOk r (λ v. v.items ≡ text) → Informs text done old new status

-- a text was told with status 0, and `err` hears nothing; or `err` hears why it wasn't, with the status of that
abbrev pub EndsTelling : Result (Unit {0}) SinkRefusal → SinkView → SinkView → ℕ → Type 0
EndsTelling (Ok done) old new status = (status ≡ 0) × (new ≡ old)
EndsTelling (Err why) old new status = GivesUp why old new status

-- Telling a text: `out` takes all of it, or, where a write is refused, a prefix of it, and the call ends so.
pub record Tells (text : List ℕ) (out out' err err' : SinkView) (status : ℕ) : Type 0 where
  pub answer : Result (Unit {0}) SinkRefusal
  pub puts : Puts text out out' answer
  pub ends : EndsTelling answer err err' status
