use Rattle.ps_grammar_laws.proofs.LineForms.{grammatical_lines_are_judged}
use Rattle.ps_grammar_laws.proofs.laws.grammatical_lines_are_judged.Goals as goal

pub returns : goal.returns
returns c = grammatical_lines_are_judged
