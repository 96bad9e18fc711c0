use Rattle.std.proofs.Common.{refl}
use Rattle.std.proofs.lemmas.Result.{err_from_is_err_and}
use Rattle.ps_inputs.proofs.Loaded.{validation_good, validation_starved, validation_unjudged, validation_unplanned, validation_unread}
use Rattle.ps_inputs.proofs.loading.load_validation.Goals as goal

pub returns-in_err-read : goal.returns-in_err-read
returns-in_err-read g c =
    let p = err_from_is_err_and c.from_residual.result c.from_residual.ensures.1 in
    rw (p.1, p.2)
    (validation_unread c.args.domain.now c.args.script.now c.args.plan.now (g.F.Files.shown c.args.files.now) (g.F.Files.shown c.read_input.new.files) c.in_err-read.field-0.0 c.in_err-read.ensures)

pub returns-in_err-plan : goal.returns-in_err-plan
returns-in_err-plan g c =
    let p = err_from_is_err_and c.from_residual-in_err-plan.result c.from_residual-in_err-plan.ensures.1 in
    rw (p.1, p.2)
    (validation_unplanned c.args.domain.now c.args.script.now c.args.plan.now (g.F.Files.shown c.args.files.now) (g.F.Files.shown c.read_input.new.files) (g.F.Files.shown c.read_text.new.files) c.in_ok-read.read c.in_ok-read.ensures
    c.in_err-plan.field-0.0 c.in_err-plan.ensures.reads)

pub returns-in_err-names : goal.returns-in_err-names
returns-in_err-names g c =
    let p = err_from_is_err_and c.from_residual-in_err-names.result c.from_residual-in_err-names.ensures.1 in
    rw (p.1, p.2)
    (validation_unjudged c.args.domain.now c.args.script.now c.args.plan.now (g.F.Files.shown c.args.files.now) (g.F.Files.shown c.read_input.new.files) (g.F.Files.shown c.read_text.new.files) c.in_ok-read.read c.in_ok-read.ensures
    c.in_ok-plan.plan c.in_ok-plan.ensures.reads c.in_err-names.field-0.0 c.in_err-names.ensures)

pub returns-in_err-new : goal.returns-in_err-new
returns-in_err-new g c =
    let p = err_from_is_err_and c.from_residual-in_err-new.result c.from_residual-in_err-new.ensures.1 in
    rw (p.1, p.2)
    (validation_starved c.args.domain.now c.args.script.now c.args.plan.now (g.F.Files.shown c.args.files.now) (g.F.Files.shown c.read_input.new.files) (g.F.Files.shown c.read_text.new.files) c.in_ok-read.read c.in_ok-read.ensures
    c.in_ok-plan.plan c.in_ok-plan.ensures.reads)

pub returns : goal.returns
returns g c =
    rw c.in_ok-new.ensures
    (validation_good c.args.domain.now c.args.script.now c.args.plan.now (g.F.Files.shown c.args.files.now) (g.F.Files.shown c.read_input.new.files) (g.F.Files.shown c.read_text.new.files) c.in_ok-read.read c.in_ok-read.ensures
    c.in_ok-plan.plan c.in_ok-plan.ensures.reads c.in_ok-names.field-0 _ refl refl refl c.in_ok-names.ensures)
