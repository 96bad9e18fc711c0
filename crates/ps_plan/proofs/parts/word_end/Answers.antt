use Rattle.std.proofs.Common.{not}
use Rattle.std.proofs.lemmas.List.{take_rest}
use Rattle.ps_plan.specs.PlanText.{is_word_byte}
use Rattle.ps_text.proofs.Pieces.{first-from}
use Rattle.ps_plan.proofs.parts.word_end.Goals as goal

pub returns-clause-end : goal.returns-clause-end
returns-clause-end c =
    first-from (λ b. not (is_word_byte b)) c.args.line.now _ c.args.from c.unwrap_or.result c.first_other_byte.result (take_rest c.args.line.now c.args.from) c.first_other_byte.ensures c.unwrap_or.ensures
