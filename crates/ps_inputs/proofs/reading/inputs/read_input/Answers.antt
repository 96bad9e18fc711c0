use Rattle.std.proofs.Common.{refl}
use Rattle.std.proofs.lemmas.Result.{err_from_is_err_and}
use Rattle.ps_inputs.proofs.Loaded.{input_read, input_undomained, input_unmembered, input_unscripted}
use Rattle.ps_inputs.proofs.MemberTexts.{files_of}
use Rattle.ps_inputs.proofs.reading.inputs.read_input.Goals as goal

pub returns-in_err-names : goal.returns-in_err-names
returns-in_err-names g c =
    let p = err_from_is_err_and c.from_residual.result c.from_residual.ensures.1 in
    rw (p.1, p.2)
    (input_undomained c.args.domain.now c.args.script.now (files_of c.args.members.now) (g.F.Files.shown c.args.files.now) (g.F.Files.shown c.read_domain_file.new.files) c.in_err-names.field-0.0 c.in_err-names.ensures)

pub returns-in_err-names-2 : goal.returns-in_err-names-2
returns-in_err-names-2 g c =
    let p = err_from_is_err_and c.from_residual-in_err-names-2.result c.from_residual-in_err-names-2.ensures.1 in
    rw (p.1, p.2)
    (input_unscripted c.args.domain.now c.args.script.now (files_of c.args.members.now) (g.F.Files.shown c.args.files.now) (g.F.Files.shown c.read_domain_file.new.files) c.in_ok-names.field-0 c.in_ok-names.ensures
    (g.F.Files.shown c.read_script.new.files) c.in_err-names-2.field-0.0 c.in_err-names-2.ensures)

pub returns-in_err-members : goal.returns-in_err-members
returns-in_err-members g c =
    let p = err_from_is_err_and c.from_residual-in_err-members.result c.from_residual-in_err-members.ensures.1 in
    rw (p.1, p.2)
    (input_unmembered c.args.domain.now c.args.script.now (files_of c.args.members.now) (g.F.Files.shown c.args.files.now) (g.F.Files.shown c.read_domain_file.new.files) c.in_ok-names.field-0 c.in_ok-names.ensures
    (g.F.Files.shown c.read_script.new.files) (g.F.Files.shown c.read_members.new.files) c.in_ok-names-2.field-0 c.in_ok-names-2.ensures c.in_err-members.field-0.0 c.in_err-members.ensures)

pub returns : goal.returns
returns g c =
    input_read c.args.domain.now c.args.script.now (files_of c.args.members.now) (g.F.Files.shown c.args.files.now) (g.F.Files.shown c.read_domain_file.new.files) c.in_ok-names.field-0 c.in_ok-names.ensures
    (g.F.Files.shown c.read_script.new.files) (g.F.Files.shown c.read_members.new.files) c.in_ok-names-2.field-0 c.in_ok-names-2.ensures _ c.in_ok-members.members refl refl refl refl c.in_ok-members.ensures
