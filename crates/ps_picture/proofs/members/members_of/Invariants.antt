use Rattle.std.proofs.Common.{◌≡◌, drop}
use Rattle.std.specs.List.{fold}
use Rattle.ps_picture.specs.Rows.{Placed, members_of, with_touched}
use Rattle.ps_picture.specs.Touches.{touch_of}
use Rattle.ps_picture.proofs.members.members_of.Given as goal

-- the names so far, with those of the entries left, are all
abbrev pub invariant-loop-entry : goal.invariant-loop-entry
invariant-loop-entry l =
    fold (λ ns (p : Placed). with_touched ns (touch_of p.1.what)) l.names.items (drop l.entry-index l.entries) ≡ members_of l.entries
