use Rattle.std.proofs.Common.{◌≡◌, Ok, Err}
use Rattle.std.proofs.lemmas.Result.{err_from_is_err_and}
use Rattle.ps_inputs.proofs.Loaded.{check_bad, check_good, check_starved, check_unread}
use Rattle.ps_inputs.proofs.loading.load_check.Goals as goal

pub returns-in_err-names : goal.returns-in_err-names
returns-in_err-names g c =
    let p = err_from_is_err_and c.from_residual.result c.from_residual.ensures.1 in
    rw (p.1, p.2) (check_unread c.args.file.now (g.F.Files.shown c.args.files.now) (g.F.Files.shown c.read_domain_file.new.files) c.in_err-names.field-0.0 c.in_err-names.ensures)

pub returns-in_err-new-in-Ok : goal.returns-in_err-new-in-Ok
returns-in_err-new-in-Ok g c =
    let p = err_from_is_err_and c.from_residual-in_err-new-in-Ok.result c.from_residual-in_err-new-in-Ok.ensures.1 in
    rw (p.1, p.2) (check_starved c.args.file.now (g.F.Files.shown c.args.files.now) (g.F.Files.shown c.read_domain_file.new.files) c.in_ok-names.field-0 c.in_ok-names.ensures)

pub returns-in_ok-new-in-Ok : goal.returns-in_ok-new-in-Ok
returns-in_ok-new-in-Ok g c =
    let e : c.in_ok-names.field-0.domain ≡ Ok c.in-Ok.domain = cc in
    rw c.in_ok-new-in-Ok.ensures (check_good c.args.file.now (g.F.Files.shown c.args.files.now) (g.F.Files.shown c.read_domain_file.new.files) c.in_ok-names.field-0 c.in-Ok.domain e c.in_ok-names.ensures)

pub returns-in-Err : goal.returns-in-Err
returns-in-Err g c =
    let e : c.in_ok-names.field-0.domain ≡ Err c.in-Err.fault = cc in
    check_bad c.args.file.now (g.F.Files.shown c.args.files.now) (g.F.Files.shown c.read_domain_file.new.files) c.in_ok-names.field-0 c.in-Err.fault e c.in_ok-names.ensures
