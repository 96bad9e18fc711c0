use Rattle.std.proofs.Common.{ℕ, Ok, Err, List, map, refl, subst, arith}
use Rattle.std.specs.Borrow.{Bor}
use Rattle.std.proofs.lemmas.Result.{err_from_is_err_and}
use Rattle.ps_words.specs.Words.{replay_said}
use Rattle.ps_inputs.specs.Parts.{ReadsInput}
use Rattle.ps_inputs.specs.Reading.{read_file}
use Rattle.ps_inputs.proofs.Loaded.{journal_goes, journal_text, replay_good, replay_starved, replay_unjudged, replay_unread, replay_unrecorded}
use Rattle.ps_inputs.proofs.ReadParts.{ended_alike}
use Rattle.ps_inputs.proofs.SoundInput.{input_sound}
use Rattle.ps_inputs.proofs.loading.load_replay.Goals as goal

pub returns-in_err-read : goal.returns-in_err-read
returns-in_err-read g c =
    let p = err_from_is_err_and c.from_residual.result c.from_residual.ensures.1 in
    let s = replay_said c.args.settings.now in
    let h = subst (λ (ms : List (Bor (List ℕ))). ReadsInput s.domain s.script (map (λ m. m.now) ms) (g.F.Files.shown c.args.files.now) (g.F.Files.shown c.read_input.new.files) (Err c.in_err-read.field-0.0)) c.as_slice-members.ensures.value c.in_err-read.ensures in
    rw (p.1, p.2) (replay_unread s (g.F.Files.shown c.args.files.now) (g.F.Files.shown c.read_input.new.files) c.in_err-read.field-0.0 h)

pub returns-in_err-journal : goal.returns-in_err-journal
returns-in_err-journal g c =
    let p = err_from_is_err_and c.from_residual-in_err-journal.result c.from_residual-in_err-journal.ensures.1 in
    let s = replay_said c.args.settings.now in
    let h = subst (λ (ms : List (Bor (List ℕ))). ReadsInput s.domain s.script (map (λ m. m.now) ms) (g.F.Files.shown c.args.files.now) (g.F.Files.shown c.read_input.new.files) (Ok c.in_ok-read.read)) c.as_slice-members.ensures.value c.in_ok-read.ensures in
    rw (p.1, p.2)
    (replay_unrecorded s (g.F.Files.shown c.args.files.now) (g.F.Files.shown c.read_input.new.files) (g.F.Files.shown c.read_journal.new.files) c.in_ok-read.read h c.in_err-journal.field-0.0
    (ended_alike (read_file (g.F.Files.shown c.read_input.new.files).told s.journal) (g.F.Files.shown c.read_input.new.files) (g.F.Files.shown c.read_journal.new.files) c.in_err-journal.field-0.0 c.in_err-journal.ensures.reads))

pub returns-in_err-names : goal.returns-in_err-names
returns-in_err-names g c =
    let p = err_from_is_err_and c.from_residual-in_err-names.result c.from_residual-in_err-names.ensures.1 in
    let s = replay_said c.args.settings.now in
    let j = c.in_ok-journal in
    let h = subst (λ (ms : List (Bor (List ℕ))). ReadsInput s.domain s.script (map (λ m. m.now) ms) (g.F.Files.shown c.args.files.now) (g.F.Files.shown c.read_input.new.files) (Ok c.in_ok-read.read)) c.as_slice-members.ensures.value c.in_ok-read.ensures in
    rw (p.1, p.2)
    (replay_unjudged s (g.F.Files.shown c.args.files.now) (g.F.Files.shown c.read_input.new.files) (g.F.Files.shown c.read_journal.new.files) c.in_ok-read.read h j.journal (journal_text (s.budget, s.replans) s.journal (g.F.Files.shown c.read_input.new.files) (g.F.Files.shown c.read_journal.new.files) (j.journal, j.own) j.ensures.reads)
    j.own c.in_err-names.field-0.0 c.in_err-names.ensures)

pub invariant_of-replay : goal.invariant_of-replay
invariant_of-replay g c =
    let s = replay_said c.args.settings.now in
    let t = c.in_ok-journal.own in
    let r = c.in_ok-journal.ensures.ranged in
    let judged = c.in_ok-names.ensures (read_file (g.F.Files.shown c.args.files.now).told s.domain) c.in_ok-read.ensures.given.1 c.in_ok-read.ensures.given.4 in
    record {
      sound = input_sound t.0 t.1 c.in_ok-read.ensures.given.1 c.in_ok-names.field-0.input c.in_ok-names.field-0.names judged.0 judged.1 r.0 r.1 r.2;
      short = omega (arith, c.in_ok-journal.ensures.short);
    }

pub returns-in_err-new : goal.returns-in_err-new
returns-in_err-new g c =
    let p = err_from_is_err_and c.from_residual-in_err-new.result c.from_residual-in_err-new.ensures.1 in
    let s = replay_said c.args.settings.now in
    let j = c.in_ok-journal in
    let h = subst (λ (ms : List (Bor (List ℕ))). ReadsInput s.domain s.script (map (λ m. m.now) ms) (g.F.Files.shown c.args.files.now) (g.F.Files.shown c.read_input.new.files) (Ok c.in_ok-read.read)) c.as_slice-members.ensures.value c.in_ok-read.ensures in
    rw (p.1, p.2)
    (replay_starved s (g.F.Files.shown c.args.files.now) (g.F.Files.shown c.read_input.new.files) (g.F.Files.shown c.read_journal.new.files) c.in_ok-read.read h j.journal (journal_text (s.budget, s.replans) s.journal (g.F.Files.shown c.read_input.new.files) (g.F.Files.shown c.read_journal.new.files) (j.journal, j.own) j.ensures.reads))

pub returns : goal.returns
returns g c =
    let s = replay_said c.args.settings.now in
    let j = c.in_ok-journal in
    let h = subst (λ (ms : List (Bor (List ℕ))). ReadsInput s.domain s.script (map (λ m. m.now) ms) (g.F.Files.shown c.args.files.now) (g.F.Files.shown c.read_input.new.files) (Ok c.in_ok-read.read)) c.as_slice-members.ensures.value c.in_ok-read.ensures in
    rw c.in_ok-new.ensures
    (replay_good s (g.F.Files.shown c.args.files.now) (g.F.Files.shown c.read_input.new.files) (g.F.Files.shown c.read_journal.new.files) c.in_ok-read.read h j.journal (journal_text (s.budget, s.replans) s.journal (g.F.Files.shown c.read_input.new.files) (g.F.Files.shown c.read_journal.new.files) (j.journal, j.own) j.ensures.reads)
    j.own (journal_goes (s.budget, s.replans) s.journal (g.F.Files.shown c.read_input.new.files) (g.F.Files.shown c.read_journal.new.files) (j.journal, j.own) j.ensures.reads) c.in_ok-names.field-0 _ refl refl refl refl c.in_ok-names.ensures)
