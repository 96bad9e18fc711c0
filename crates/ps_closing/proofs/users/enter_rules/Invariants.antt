use Rattle.ps_closing.proofs.Entered.{AreFirst}
use Rattle.ps_closing.proofs.users.enter_rules.Given as goal

-- the rules so far are among the users of what they need
abbrev pub invariant-loop-rule : goal.invariant-loop-rule
invariant-loop-rule l = AreFirst l.rules l.rule l.users
