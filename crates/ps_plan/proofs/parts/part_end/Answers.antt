use Rattle.std.proofs.Common.{sym, ◌∙◌}
use Rattle.ps_plan.proofs.PartSteps.{parts-at_mark, parts-at_word}
use Rattle.ps_plan.proofs.parts.part_end.Goals as goal

pub returns-then-is_mark-clause-part : goal.returns-then-is_mark-clause-part
returns-then-is_mark-clause-part c =
    parts-at_mark c.args.line.now c.args.from c.requires.within c.requires.black (sym c.is_mark.ensures ∙ c.if-is_mark.true)

pub returns-else-is_mark-clause-part : goal.returns-else-is_mark-clause-part
returns-else-is_mark-clause-part c =
    parts-at_word c.args.line.now c.args.from c.requires.within c.word_end.result c.requires.black (sym c.is_mark.ensures ∙ c.if-is_mark.false) c.word_end.ensures.end
