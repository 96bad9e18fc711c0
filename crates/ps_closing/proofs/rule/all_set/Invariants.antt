use Rattle.std.proofs.Common.{◌≡◌, drop}
use Rattle.std.specs.List.{list_all}
use Rattle.ps_closing.specs.Closing.{has}
use Rattle.ps_closing.proofs.rule.all_set.Given as goal

abbrev pub invariant-loop-place : goal.invariant-loop-place
invariant-loop-place l = list_all (has l.flags) (drop l.place-index l.places) ≡ list_all (has l.flags) l.places
