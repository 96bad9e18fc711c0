use Rattle.std.proofs.Common.{◌≡◌, ◌++◌, drop}
use Rattle.ps_picture.specs.Rows.{act_rows}
use Rattle.ps_picture.proofs.members.act_rows.Given as goal

-- the rows so far, and those of the acts left, are all
abbrev pub invariant-loop-i : goal.invariant-loop-i
invariant-loop-i l =
    l.rows.items ++ act_rows l.last l.entries l.i (drop l.i l.acts) ≡ act_rows l.last l.entries 0 l.acts
