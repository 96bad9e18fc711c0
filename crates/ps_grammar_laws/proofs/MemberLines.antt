-- The lists of a line of a member's text whose words fit a form are a line of that form, and the words of a line of a form fit it.
use Rattle.std.proofs.Common.{◌≡◌, true}
use Rattle.ps_members.specs.Forms.{start_of}
use Rattle.ps_members.specs.Lines.{is_plain}
use Rattle.ps_members.specs.declared.forms.Form.{Form}
use Rattle.ps_members.specs.declared.forms.Form.TheVariants.{Performer, Observer, Action, Args, Job, When, End, Work, Feedback, FinishOk, FinishFail, Edit}
use Rattle.ps_grammar_laws.specs.MemberLines.{GrammaticalMemberLinesAreJudged, IsMemberLine, JudgedMemberLinesAreGrammatical}
use Rattle.ps_grammar_laws.proofs.LineForms.{AreTaken, Take, goal_taken, goal_told, line_taken, line_told, names_only_taken, names_only_told}
use Rattle.ps_lists.proofs.TakenLines.{judged_of_line, line_of_judged}

-- what is taken where a form's symbols are wanted is a line of the form
member_line_told : (f : Form) → is_plain f ≡ true → AreTaken (start_of f) (IsMemberLine f)
member_line_told Performer plain = names_only_told 2
member_line_told Observer plain = names_only_told 2
member_line_told Action plain = names_only_told 2
member_line_told Args plain = absurd (cc)
member_line_told Job plain = names_only_told 1
member_line_told When plain = goal_told 1
member_line_told End plain = names_only_told 1
member_line_told Work plain = names_only_told 1
member_line_told Feedback plain = absurd (cc)
member_line_told FinishOk plain = names_only_told 2
member_line_told FinishFail plain = names_only_told 2
member_line_told (Edit f) plain = line_told f

-- a line of a form is taken where the form's symbols are wanted
member_line_taken : (f : Form) → Take (IsMemberLine f) (start_of f)
member_line_taken Performer = names_only_taken 2
member_line_taken Observer = names_only_taken 2
member_line_taken Action = names_only_taken 2
member_line_taken Args = λ ts is. absurd is
member_line_taken Job = names_only_taken 1
member_line_taken When = goal_taken 1
member_line_taken End = names_only_taken 1
member_line_taken Work = names_only_taken 1
member_line_taken Feedback = λ ts is. absurd is
member_line_taken FinishOk = names_only_taken 2
member_line_taken FinishFail = names_only_taken 2
member_line_taken (Edit f) = line_taken f

pub judged_member_lines_are_grammatical : JudgedMemberLinesAreGrammatical
judged_member_lines_are_grammatical f ts ls plain s derived shallow =
    member_line_told f plain ts (line_of_judged (start_of f) ts ls s derived shallow)

pub grammatical_member_lines_are_judged : GrammaticalMemberLinesAreJudged
grammatical_member_lines_are_judged f ts ls s is = judged_of_line (start_of f) ts ls s (member_line_taken f ts is)
