use Rattle.ps_inputs.specs.Members.{AreMembers}
use Rattle.ps_inputs.proofs.JudgedMembers.{texts_before}
use Rattle.ps_inputs.proofs.judging.judge_each.Given as goal

-- the texts before this one are these members
abbrev pub invariant-loop-one : goal.invariant-loop-one
invariant-loop-one l = AreMembers l.expert l.fn.names (texts_before l.texts l.one-index) l.members.items l.names
