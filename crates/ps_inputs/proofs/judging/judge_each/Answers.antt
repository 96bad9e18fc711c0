use Rattle.std.proofs.Common.{List, [], sym, subst, arith}
use Rattle.ps_machine.specs.declared.members.Member.{Member}
use Rattle.ps_inputs.specs.Members.{AreMembers}
use Rattle.ps_inputs.specs.Members.AreMembers.{nobody}
use Rattle.ps_inputs.proofs.JudgedMembers.{member_fault, member_more}
use Rattle.ps_inputs.proofs.judging.judge_each.Goals as goal

pub loop-one-init : goal.loop-one-init
loop-one-init c = subst (λ (ms : List Member). AreMembers c.args.expert.now c.args.names.now [] ms c.args.names.now) (sym c.new-members.ensures.items) nobody

pub returns-in-Err : goal.returns-in-Err
returns-in-Err c =
    member_fault c.args.expert.now c.args.names.now c.loop-one.names c.judge_member.new.names c.args.texts.now c.loop-one.one-index _ c.one-item.result (omega arith) c.one-item.is c.loop-one.members.items c.loop-one.invariant
    c.judge_member.result c.in-Err.why c.judge_member.ensures c.in-Err.is

pub loop-one-preserved : goal.loop-one-preserved
loop-one-preserved c =
    member_more c.args.expert.now c.args.names.now c.loop-one.names c.judge_member.new.names c.args.texts.now c.loop-one.one-index _ c.one-item.result (omega arith) c.one-item.is c.loop-one.members.items c.loop-one.invariant
    c.judge_member.result c.in-Ok.member c.push.new.self.items c.judge_member.ensures c.in-Ok.is c.in_ok-push-in-Ok.ensures.items
