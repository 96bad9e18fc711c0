use Rattle.std.proofs.Common.{sym, ◌∙◌}
use Rattle.ps_text.proofs.Cuts.{IsFirstWord-paren, IsFirstWord-run}
use Rattle.ps_text.proofs.word_spans.word_end.Goals as goal

pub returns-then-is_paren-clause-word : goal.returns-then-is_paren-clause-word
returns-then-is_paren-clause-word c =
    IsFirstWord-paren c.args.bytes.now c.args.from c.requires.within c.requires.black c.requires.no_comment (sym c.is_paren.ensures ∙ c.if-is_paren.true)

pub returns-else-is_paren-clause-word : goal.returns-else-is_paren-clause-word
returns-else-is_paren-clause-word c =
    IsFirstWord-run c.args.bytes.now c.args.from c.requires.within c.requires.black c.requires.no_comment c.run_end.result (sym c.is_paren.ensures ∙ c.if-is_paren.false) c.run_end.ensures.end
