use Rattle.std.proofs.Common.{◌∙◌, refl, sym}
use Rattle.ps_text.specs.Words.{words}
use Rattle.ps_members.proofs.FormEdits.{form_edits}
use Rattle.ps_members.proofs.SaidLines.{formed_said, formless_said, refused_said}
use Rattle.ps_members.proofs.lines.read_part.Goals as goal

pub read_form-requires-clause-edit : goal.read_form-requires-clause-edit
read_form-requires-clause-edit c = form_edits c.args.at.now (words c.args.part.now) c.in-Some.form (sym c.in_ok-allowed.ensures ∙ c.in-Some.is)

pub returns-in-Some-clause-read : goal.returns-in-Some-clause-read
returns-in-Some-clause-read c =
    formed_said c.args.at.now c.args.names.now _ c.args.bytes.now c.args.part.now c.in-Ok.tokens.items _ (words c.args.part.now) _ _ c.read_form.result c.requires.part c.in-Ok.ensures.ok refl c.in_ok-allowed.ensures c.in-Some.is refl c.read_form.ensures.read

pub returns-in-None-clause-read : goal.returns-in-None-clause-read
returns-in-None-clause-read c =
    formless_said c.args.at.now c.args.names.now c.args.bytes.now c.args.part.now _ (words c.args.part.now) _ c.requires.part c.in-Ok.ensures.ok refl c.in_ok-allowed.ensures c.in-None.is

pub returns-in-Err-Refused-clause-read : goal.returns-in-Err-Refused-clause-read
returns-in-Err-Refused-clause-read c =
    refused_said c.args.at.now c.args.names.now c.args.bytes.now c.args.part.now c.tokens.result _ _ _ _ c.requires.part c.tokens.ensures.refused c.in-Err-Refused.is c.in-Err-Refused.field-0-is c.in-Err-Refused.refusal-is c.cause_of.ensures
