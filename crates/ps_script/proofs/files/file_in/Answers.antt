use Rattle.std.proofs.Common.{◌∙◌, ap, sym}
use Rattle.ps_script.specs.Files.{without_end}
use Rattle.ps_script.proofs.FileNames.{file_there, file_wrong}
use Rattle.ps_script.proofs.files.file_in.Goals as goal

pub returns-in_ok-from_str-in-Ok : goal.returns-in_ok-from_str-in-Ok
returns-in_ok-from_str-in-Ok c =
    file_there c.args.rest.now c.without_end-name.result.now _ (c.without_end-name.ensures ∙ ap without_end c.trimmed.ensures) (sym c.is_empty.ensures ∙ c.if-is_empty.false) (c.in_ok-from_str-in-Ok.ensures.ok ∙ c.in-Ok.ensures.cases.0) c.in-Ok.ensures.cases.1

pub returns-in-Err : goal.returns-in-Err
returns-in-Err c =
    file_wrong c.args.rest.now c.without_end-name.result.now (c.without_end-name.ensures ∙ ap without_end c.trimmed.ensures) (sym c.is_empty.ensures ∙ c.if-is_empty.false) c.in-Err.ensures.cases.0
