use Rattle.std.proofs.Common.{sym, ◌∙◌}
use Rattle.ps_text.proofs.Classes.{class_of-name}
use Rattle.ps_text.proofs.lexing.class_of.Goals as goal

pub returns-then-is_name : goal.returns-then-is_name
returns-then-is_name c = sym (class_of-name c.args.word.now (sym c.is_name-in_default.ensures ∙ c.if-is_name.true))
