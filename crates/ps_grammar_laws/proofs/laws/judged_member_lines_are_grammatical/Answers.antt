use Rattle.ps_grammar_laws.proofs.MemberLines.{judged_member_lines_are_grammatical}
use Rattle.ps_grammar_laws.proofs.laws.judged_member_lines_are_grammatical.Goals as goal

pub returns : goal.returns
returns c = judged_member_lines_are_grammatical
