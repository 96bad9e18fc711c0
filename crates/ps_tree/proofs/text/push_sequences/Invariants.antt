use Rattle.std.proofs.Common.{◌≡◌, ◌++◌}
use Rattle.ps_tree.specs.Parts.{first_lines}
use Rattle.ps_tree.proofs.text.push_sequences.Given as goal

abbrev pub invariant-loop-act : goal.invariant-loop-act
invariant-loop-act l = l.text.items ≡ l.initial.text.items ++ first_lines l.states l.all l.act
