use Rattle.std.proofs.Common.{◌≡◌, length, take}
use Rattle.ps_tree.proofs.tree.take_states.Given as goal

-- the states so far are the view's
abbrev pub invariant-loop-act : goal.invariant-loop-act
invariant-loop-act g l = record {
  many : length l.all ≡ l.acts;
  same : take l.act l.all ≡ take l.act ((goal.ActView-dyn g l.view.now).states l.view.now.1);
}
