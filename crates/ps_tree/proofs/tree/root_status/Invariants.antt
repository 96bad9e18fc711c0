use Rattle.std.proofs.Common.{◌≡◌}
use Rattle.ps_tree.specs.Parts.{root_over}
use Rattle.ps_tree.proofs.tree.root_status.Given as goal

abbrev pub invariant-loop-act : goal.invariant-loop-act
invariant-loop-act l = l.status ≡ root_over l.states l.all l.act
