use Rattle.ps_inputs.proofs.MemberTexts.{Follows}
use Rattle.ps_inputs.proofs.reading.members.read_members.Given as goal

-- what the files from here come to, all files come to
abbrev pub invariant-loop-member : goal.invariant-loop-member
invariant-loop-member g l = Follows l.members l.member-index (g.F.Files.shown l.fn.files) (g.F.Files.shown l.files) l.texts.items
