use Rattle.ps_grammar_laws.proofs.MemberLines.{grammatical_member_lines_are_judged}
use Rattle.ps_grammar_laws.proofs.laws.grammatical_member_lines_are_judged.Goals as goal

pub returns : goal.returns
returns c = grammatical_member_lines_are_judged
