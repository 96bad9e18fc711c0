use Rattle.std.proofs.Common.{Err, Some, ap, ◌∙◌}
use Rattle.std.proofs.lemmas.Result.{err_from_is_err_and}
use Rattle.ps_entries.proofs.FaultLines.{headed-two, result-after}
use Rattle.ps_entries.proofs.journals.read_settled.Goals as goal

pub returns-in_err-entries-clause-refused : goal.returns-in_err-entries-clause-refused
returns-in_err-entries-clause-refused c =
    let p = err_from_is_err_and c.from_residual.result c.from_residual.ensures.1 in
    let bytes = c.args.bytes.now in
    let begins = c.requires.begins in
    let headed = headed-two bytes c.args.lines.now c.args.settings c.requires.lines.all begins in
    result-after c.args.names.now bytes (Some c.args.settings) _ begins.0 headed c.read_lines.result c.from_residual.result c.in_err-entries.field-0.0
    c.in_err-entries.was (p.1 ∙ ap Err p.2) c.read_lines.ensures.refused
