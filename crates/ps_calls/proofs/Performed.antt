-- Work that was done or broken off.
use Rattle.std.proofs.Common.{◌≡◌, ℕ, Option, Result, Ok, Err, List, inl, inr, refl, subst}
use Rattle.std.proofs.KnownBytes.{Appends-nil}
use Rattle.ps_world.specs.Names.{Table}
use Rattle.ps_world.specs.DomainTexts.{domain_text}
use Rattle.ps_world.specs.declared.domains.Domain.{Domain}
use Rattle.ps_machine.specs.declared.inputs.Input.{Input}
use Rattle.ps_machine.specs.declared.journal.Entry.{Entry}
use Rattle.ps_rules.specs.History.{status_of}
use Rattle.ps_text.specs.Outside.{Counts, CountsWork, Puts, SinkView}
use Rattle.ps_text.specs.declared.sinks.SinkRefusal.{SinkRefusal}
use Rattle.ps_text.specs.declared.sinks.SinkRefusal.TheVariants.{Failed, OutOfMemory}
use Rattle.ps_validate.specs.declared.verdicts.Invalid.{Invalid}
use Rattle.ps_editing.specs.Runs.{WritesRun}
use Rattle.ps_inputs.specs.declared.works.Editing.{Editing}
use Rattle.ps_inputs.specs.declared.works.Generation.{Generation}
use Rattle.ps_inputs.specs.declared.works.Planning.{Planning}
use Rattle.ps_inputs.specs.declared.works.Replay.{Replay}
use Rattle.ps_inputs.specs.declared.works.Session.{Session}
use Rattle.ps_inputs.specs.declared.works.Validation.{Validation}
use Rattle.ps_inputs.specs.declared.works.Work.TheVariants as work
use Rattle.ps_gen.specs.Summary.{summary_text}
use Rattle.ps_session.specs.Session.{IsJournal, Runs}
use Rattle.ps_session.specs.declared.ways.Turns.TheVariants.{InOrder}
use Rattle.ps_audit.specs.Findings.{finding_line, finding_status}
use Rattle.ps_audit.specs.declared.findings.Finding.{Finding}
use Rattle.ps_calls.specs.Headline.{CountsSession, IsFound, IsReply, Performs, WritesWithStatus, answer_line, edit_lines, plan_of, turns_of, verdict_of}
use Rattle.ps_calls.specs.Verdicts.{verdict_line, verdict_status}

-- ---- one text

-- memory ran out before anything was written
pub unwritten : (text : List ℕ) (status : ℕ) (start : SinkView) → WritesWithStatus text status start start (Err OutOfMemory)
unwritten text status start = record { done = tt; cut = (0, Appends-nil start.bytes); counted = refl }

counts_work : (old new : SinkView) (e : SinkRefusal) → Counts {A = Unit {0}} old new (Err e) → CountsWork {A = ℕ} old new (Err e)
counts_work old new Failed h = h
counts_work old new OutOfMemory h = h.0

-- a write of the text was refused
pub half_written : (text : List ℕ) (status : ℕ) (old new : SinkView) (e : SinkRefusal) → Puts text old new (Err e) → WritesWithStatus text status old new (Err e)
half_written text status old new e p = record { done = tt; cut = p.prefix; counted = counts_work old new e p.counted }

-- the text was written
pub written : (text : List ℕ) (status : ℕ) (old new : SinkView) → Puts text old new (Ok tt) → WritesWithStatus text status old new (Ok status)
written text status old new p = record { done = (refl, p.whole); cut = tt; counted = p.counted }

-- ---- each kind of work

-- the line of a plan
pub judged : (v : Validation) (wrong : Option Invalid) (after : Table) (old new : SinkView) (r : Result ℕ SinkRefusal) → (wrong, after) ≡ verdict_of v → WritesWithStatus (verdict_line after wrong) (verdict_status wrong) old new r → Performs (work.Validation v) old new r
judged v wrong after old new r same w = of_line r (subst (λ p. WritesWithStatus (answer_line p) (verdict_status p.0) old new r) same w) where
  of_line : (r : Result ℕ SinkRefusal) → WritesWithStatus (answer_line (verdict_of v)) (verdict_status (verdict_of v).0) old new r → Performs (work.Validation v) old new r
  of_line (Ok status) w = record { done = w.done; cut = tt; counted = w.counted }
  of_line (Err e) w = record { done = tt; cut = w.cut; counted = w.counted }

-- memory ran out before the plan was judged
pub unjudged : (v : Validation) (start : SinkView) → Performs (work.Validation v) start start (Err OutOfMemory)
unjudged v start = record { done = tt; cut = (0, Appends-nil start.bytes); counted = refl }

-- what planners tell
pub planned : (p : Planning) (text : List ℕ) (status : ℕ) (old new : SinkView) (r : Result ℕ SinkRefusal) → (text, status) ≡ plan_of p → WritesWithStatus text status old new r → Performs (work.Planning p) old new r
planned p text status old new r same w = of_text r (subst (λ (t : List ℕ × ℕ). WritesWithStatus t.0 t.1 old new r) same w) where
  of_text : (r : Result ℕ SinkRefusal) → WritesWithStatus (plan_of p).0 (plan_of p).1 old new r → Performs (work.Planning p) old new r
  of_text (Ok status) w = record { done = w.done; cut = tt; counted = w.counted }
  of_text (Err e) w = record { done = tt; cut = w.cut; counted = w.counted }

-- memory ran out before they told it
pub unplanned : (p : Planning) (start : SinkView) → Performs (work.Planning p) start start (Err OutOfMemory)
unplanned p start = record { done = tt; cut = (0, Appends-nil start.bytes); counted = refl }

-- what is to be written for a journal
pub found : (r : Replay) (f : Finding) (out : List ℕ) (old new : SinkView) (res : Result ℕ SinkRefusal) → IsFound r f → IsReply r f out
    → WritesWithStatus out (finding_status f) old new res → Performs (work.Replay r) old new res
found r f out old new (Ok status) is reply w = record { done = (f, out, is, reply, w.done.0, w.done.1); cut = tt; counted = w.counted }
found r f out old new (Err e) is reply w = record { done = tt; cut = inr (f, out, is, reply, w.cut); counted = w.counted }

-- memory ran out before the journal was judged
pub unfound : (r : Replay) (start : SinkView) → Performs (work.Replay r) start start (Err OutOfMemory)
unfound r start = record { done = tt; cut = inl (0, Appends-nil start.bytes); counted = refl }

-- the lines of an editor were done
pub prepared : (e : Editing) (old new : SinkView) (r : Result ℕ SinkRefusal) → WritesRun e.domain e.names (edit_lines e) old new r → Performs (work.Editing e) old new r
prepared e old new r run = record { done = run.done; cut = run.cut; counted = run.counted }

-- a session's input was run
pub ran : (s : Session) (old new : SinkView) (r : Result ℕ SinkRefusal) → Runs (turns_of s) s.input s.names old new r → Performs (work.Session s) old new r
ran s old new r run = record { done = run.done; cut = run.cut; counted = run.counted }

-- the counts of a journal that was made
pub counted-journal : (i : Input) (carts : ℕ) (journal : List Entry) (old new : SinkView) (r : Result ℕ SinkRefusal) → IsJournal InOrder i journal
    → WritesWithStatus (summary_text carts journal) (status_of journal) old new r → CountsSession i carts old new r
counted-journal i carts journal old new (Ok status) is w = record { done = (journal, is, w.done.0, w.done.1); cut = tt; counted = w.counted }
counted-journal i carts journal old new (Err e) is w = record { done = tt; cut = inr (journal, is, w.cut); counted = w.counted }

-- memory ran out before a journal was made
pub unmade : (i : Input) (carts : ℕ) (start : SinkView) → CountsSession i carts start start (Err OutOfMemory)
unmade i carts start = record { done = tt; cut = inl (0, Appends-nil start.bytes); counted = refl }

-- a generation was done
pub generated : (g : Generation) (i : Input) (old new : SinkView) (r : Result ℕ SinkRefusal) → i ≡ g.input → CountsSession i g.carts old new r → Performs (work.Generation g) old new r
generated g i old new r same counts = of_input (subst (λ j. CountsSession j g.carts old new r) same counts) where
  of_input : CountsSession g.input g.carts old new r → Performs (work.Generation g) old new r
  of_input counts = record { done = counts.done; cut = counts.cut; counted = counts.counted }
