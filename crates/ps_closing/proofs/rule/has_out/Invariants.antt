use Rattle.std.proofs.Common.{◌≡◌, drop}
use Rattle.std.specs.List.{list_any}
use Rattle.ps_closing.specs.Closing.{is_out}
use Rattle.ps_closing.proofs.rule.has_out.Given as goal

abbrev pub invariant-loop-place : goal.invariant-loop-place
invariant-loop-place l = list_any (is_out l.out) (drop l.place-index l.places) ≡ list_any (is_out l.out) l.places
