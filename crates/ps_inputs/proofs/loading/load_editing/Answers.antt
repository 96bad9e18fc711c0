use Rattle.std.proofs.Common.{refl}
use Rattle.std.proofs.lemmas.Result.{err_from_is_err_and}
use Rattle.ps_inputs.proofs.Loaded.{editing_bad, editing_good, editing_starved, editing_undomained, editing_unscripted, has_constants, judged_domain}
use Rattle.ps_inputs.proofs.loading.load_editing.Goals as goal

pub returns-in_err-names : goal.returns-in_err-names
returns-in_err-names g c =
    let p = err_from_is_err_and c.from_residual.result c.from_residual.ensures.1 in
    rw (p.1, p.2)
    (editing_undomained c.args.domain.now c.args.script.now (g.F.Files.shown c.args.files.now) (g.F.Files.shown c.read_domain_file.new.files) c.in_err-names.field-0.0 c.in_err-names.ensures)

pub returns-in_err-names-2 : goal.returns-in_err-names-2
returns-in_err-names-2 g c =
    let p = err_from_is_err_and c.from_residual-in_err-names-2.result c.from_residual-in_err-names-2.ensures.1 in
    rw (p.1, p.2)
    (editing_unscripted c.args.domain.now c.args.script.now (g.F.Files.shown c.args.files.now) (g.F.Files.shown c.read_domain_file.new.files) c.in_ok-names.field-0 c.in_ok-names.ensures
    (g.F.Files.shown c.read_script.new.files) c.in_err-names-2.field-0.0 c.in_err-names-2.ensures)

pub invariant_of-editing : goal.invariant_of-editing
invariant_of-editing g c = record {
  constants = has_constants c.in_ok-names.ensures.given.1 c.in-Ok.domain c.in_ok-names.field-0.names (judged_domain c.in_ok-names.ensures.given.1 c.in_ok-names.field-0 c.in-Ok.domain c.in-Ok.is c.in_ok-names.ensures.given.4);
}

pub returns-in_err-new-in-Ok : goal.returns-in_err-new-in-Ok
returns-in_err-new-in-Ok g c =
    let p = err_from_is_err_and c.from_residual-in_err-new-in-Ok.result c.from_residual-in_err-new-in-Ok.ensures.1 in
    rw (p.1, p.2)
    (editing_starved c.args.domain.now c.args.script.now (g.F.Files.shown c.args.files.now) (g.F.Files.shown c.read_domain_file.new.files) c.in_ok-names.field-0 c.in_ok-names.ensures
    (g.F.Files.shown c.read_script.new.files) c.in_ok-names-2.field-0 c.in_ok-names-2.ensures)

pub returns-in_ok-new-in-Ok : goal.returns-in_ok-new-in-Ok
returns-in_ok-new-in-Ok g c =
    rw c.in_ok-new-in-Ok.ensures
    (editing_good c.args.domain.now c.args.script.now (g.F.Files.shown c.args.files.now) (g.F.Files.shown c.read_domain_file.new.files) c.in_ok-names.field-0 c.in_ok-names.ensures
    (g.F.Files.shown c.read_script.new.files) c.in_ok-names-2.field-0 c.in_ok-names-2.ensures c.in-Ok.domain c.in-Ok.is _ refl refl refl refl)

pub returns-in-Err : goal.returns-in-Err
returns-in-Err g c =
    editing_bad c.args.domain.now c.args.script.now (g.F.Files.shown c.args.files.now) (g.F.Files.shown c.read_domain_file.new.files) c.in_ok-names.field-0 c.in_ok-names.ensures
    (g.F.Files.shown c.read_script.new.files) c.in_ok-names-2.field-0 c.in_ok-names-2.ensures c.in-Err.fault c.in-Err.is
