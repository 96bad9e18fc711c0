use Rattle.std.proofs.Common.{ℕ, Ok, Err, List, map, refl, subst}
use Rattle.std.specs.Borrow.{Bor}
use Rattle.std.proofs.lemmas.Result.{err_from_is_err_and}
use Rattle.ps_words.specs.Words.{settings_said}
use Rattle.ps_inputs.specs.Parts.{ReadsInput}
use Rattle.ps_inputs.specs.Reading.{read_file}
use Rattle.ps_inputs.proofs.Loaded.{session_good, session_starved, session_unjudged, session_unread}
use Rattle.ps_inputs.proofs.SoundInput.{input_sound}
use Rattle.ps_inputs.proofs.loading.load_session.Goals as goal

pub returns-in_err-read : goal.returns-in_err-read
returns-in_err-read g c =
    let p = err_from_is_err_and c.from_residual.result c.from_residual.ensures.1 in
    let s = settings_said c.args.settings.now in
    let h = subst (λ (ms : List (Bor (List ℕ))). ReadsInput s.domain s.script (map (λ m. m.now) ms) (g.F.Files.shown c.args.files.now) (g.F.Files.shown c.read_input.new.files) (Err c.in_err-read.field-0.0)) c.as_slice-members.ensures.value c.in_err-read.ensures in
    rw (p.1, p.2) (session_unread s (g.F.Files.shown c.args.files.now) (g.F.Files.shown c.read_input.new.files) c.in_err-read.field-0.0 h)

pub returns-in_err-names : goal.returns-in_err-names
returns-in_err-names g c =
    let p = err_from_is_err_and c.from_residual-in_err-names.result c.from_residual-in_err-names.ensures.1 in
    let s = settings_said c.args.settings.now in
    let h = subst (λ (ms : List (Bor (List ℕ))). ReadsInput s.domain s.script (map (λ m. m.now) ms) (g.F.Files.shown c.args.files.now) (g.F.Files.shown c.read_input.new.files) (Ok c.in_ok-read.read)) c.as_slice-members.ensures.value c.in_ok-read.ensures in
    rw (p.1, p.2) (session_unjudged s (g.F.Files.shown c.args.files.now) (g.F.Files.shown c.read_input.new.files) c.in_ok-read.read h c.in_err-names.field-0.0 c.in_err-names.ensures)

pub invariant_of-session : goal.invariant_of-session
invariant_of-session g c =
    let s = settings_said c.args.settings.now in
    let judged = c.in_ok-names.ensures (read_file (g.F.Files.shown c.args.files.now).told s.domain) c.in_ok-read.ensures.given.1 c.in_ok-read.ensures.given.4 in
    record {
      sound = input_sound s.budget s.replans c.in_ok-read.ensures.given.1 c.in_ok-names.field-0.input c.in_ok-names.field-0.names judged.0 judged.1 c.requires.2 c.requires.3 c.requires.4;
      some = c.requires.0;
      few = c.requires.1;
    }

pub returns-in_err-new : goal.returns-in_err-new
returns-in_err-new g c =
    let p = err_from_is_err_and c.from_residual-in_err-new.result c.from_residual-in_err-new.ensures.1 in
    let s = settings_said c.args.settings.now in
    let h = subst (λ (ms : List (Bor (List ℕ))). ReadsInput s.domain s.script (map (λ m. m.now) ms) (g.F.Files.shown c.args.files.now) (g.F.Files.shown c.read_input.new.files) (Ok c.in_ok-read.read)) c.as_slice-members.ensures.value c.in_ok-read.ensures in
    rw (p.1, p.2) (session_starved s (g.F.Files.shown c.args.files.now) (g.F.Files.shown c.read_input.new.files) c.in_ok-read.read h)

pub returns : goal.returns
returns g c =
    let s = settings_said c.args.settings.now in
    let h = subst (λ (ms : List (Bor (List ℕ))). ReadsInput s.domain s.script (map (λ m. m.now) ms) (g.F.Files.shown c.args.files.now) (g.F.Files.shown c.read_input.new.files) (Ok c.in_ok-read.read)) c.as_slice-members.ensures.value c.in_ok-read.ensures in
    rw c.in_ok-new.ensures (session_good s (g.F.Files.shown c.args.files.now) (g.F.Files.shown c.read_input.new.files) c.in_ok-read.read h c.in_ok-names.field-0 _ refl refl refl refl refl c.in_ok-names.ensures)
