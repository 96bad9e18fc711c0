use Rattle.std.proofs.Common.{◌≡◌, ◌++◌, drop}
use Rattle.ps_picture.specs.Rows.{member_rows}
use Rattle.ps_picture.proofs.members.rows_of.Given as goal

-- the rows so far, and those of the names left, are all
abbrev pub invariant-loop-name : goal.invariant-loop-name
invariant-loop-name l =
    l.rows.items ++ member_rows l.last l.entries (drop l.name-index l.names) ≡ member_rows l.last l.entries l.names
