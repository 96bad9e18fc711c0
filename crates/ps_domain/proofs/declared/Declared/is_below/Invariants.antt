use Rattle.std.proofs.Common.{◌≡◌, ◌-◌, length}
use Rattle.ps_world.specs.Knowledge.{climbs, is_below}
use Rattle.ps_domain.proofs.declared.Declared.is_below.Given as goal

abbrev pub invariant-loop-climbed : goal.invariant-loop-climbed
invariant-loop-climbed l = climbs (length l.self.types - l._climbed) l.self l.at l.high ≡ is_below l.self l.fn.low l.high
