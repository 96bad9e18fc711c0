use Rattle.std.proofs.Common.{refl, arith}
use Rattle.std.proofs.lemmas.Result.{err_from_is_err_and}
use Rattle.ps_inputs.specs.Reading.{read_file}
use Rattle.ps_inputs.proofs.Loaded.{planning_good, planning_starved, planning_unjudged, planning_unread}
use Rattle.ps_inputs.proofs.SoundInput.{input_sound}
use Rattle.ps_inputs.proofs.loading.load_planning.Goals as goal

pub returns-in_err-read : goal.returns-in_err-read
returns-in_err-read g c =
    let p = err_from_is_err_and c.from_residual.result c.from_residual.ensures.1 in
    rw (p.1, p.2) (planning_unread c.args.domain.now c.args.script.now c.args.budget (g.F.Files.shown c.args.files.now) (g.F.Files.shown c.read_input.new.files) c.in_err-read.field-0.0 c.in_err-read.ensures)

pub returns-in_err-names : goal.returns-in_err-names
returns-in_err-names g c =
    let p = err_from_is_err_and c.from_residual-in_err-names.result c.from_residual-in_err-names.ensures.1 in
    rw (p.1, p.2)
    (planning_unjudged c.args.domain.now c.args.script.now c.args.budget (g.F.Files.shown c.args.files.now) (g.F.Files.shown c.read_input.new.files) c.in_ok-read.read c.in_ok-read.ensures c.in_err-names.field-0.0 c.in_err-names.ensures)

pub invariant_of-new : goal.invariant_of-new
invariant_of-new g c =
    let judged = c.in_ok-names.ensures (read_file (g.F.Files.shown c.args.files.now).told c.args.domain.now) c.in_ok-read.ensures.given.1 c.in_ok-read.ensures.given.4 in
    record { sound = input_sound c.args.budget 0 c.in_ok-read.ensures.given.1 c.in_ok-names.field-0.input c.in_ok-names.field-0.names judged.0 judged.1 c.requires.0 c.requires.1 (omega arith) }

pub returns-in_err-new : goal.returns-in_err-new
returns-in_err-new g c =
    let p = err_from_is_err_and c.from_residual-in_err-new.result c.from_residual-in_err-new.ensures.1 in
    rw (p.1, p.2) (planning_starved c.args.domain.now c.args.script.now c.args.budget (g.F.Files.shown c.args.files.now) (g.F.Files.shown c.read_input.new.files) c.in_ok-read.read c.in_ok-read.ensures)

pub returns : goal.returns
returns g c =
    rw c.in_ok-new.ensures
    (planning_good c.args.domain.now c.args.script.now c.args.budget (g.F.Files.shown c.args.files.now) (g.F.Files.shown c.read_input.new.files) c.in_ok-read.read c.in_ok-read.ensures c.in_ok-names.field-0 _ refl refl c.in_ok-names.ensures)
