use Rattle.std.proofs.Common.{◌≡◌, drop}
use Rattle.std.specs.Map.{lookup}
use Rattle.ps_world.specs.Knowledge.{same_fact}
use Rattle.ps_action.proofs.known.value_among.Given as goal

abbrev pub invariant-loop-there : goal.invariant-loop-there
invariant-loop-there l = lookup (same_fact l.term) (drop l.there-index l.values) ≡ lookup (same_fact l.term) l.values
