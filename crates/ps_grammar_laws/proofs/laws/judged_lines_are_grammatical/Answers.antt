use Rattle.ps_grammar_laws.proofs.LineForms.{judged_lines_are_grammatical}
use Rattle.ps_grammar_laws.proofs.laws.judged_lines_are_grammatical.Goals as goal

pub returns : goal.returns
returns c = judged_lines_are_grammatical
