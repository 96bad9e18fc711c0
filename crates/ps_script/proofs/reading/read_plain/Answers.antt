use Rattle.ps_script.proofs.LineReads.{formless_read, refused_read}
use Rattle.ps_script.proofs.reading.read_plain.Goals as goal

pub returns-in-None-clause-read : goal.returns-in-None-clause-read
returns-in-None-clause-read c =
    formless_read c.args.names.now c.args.bytes.now _ _ _ c.requires c.in-Ok.ensures.ok c.form_of_tokens.ensures c.in-None.is c.bad.ensures

pub returns-in-Err-Refused-clause-read : goal.returns-in-Err-Refused-clause-read
returns-in-Err-Refused-clause-read c =
    refused_read c.args.names.now c.args.bytes.now c.tokens.result _ _ _ _ _ c.requires c.tokens.ensures.refused c.in-Err-Refused.is c.in-Err-Refused.field-0-is c.in-Err-Refused.refusal-is c.cause_of.ensures c.bad-in-Err-Refused.ensures
