use Rattle.std.proofs.Common.{◌≡◌, ◌+◌, ◌-◌, ◌≤◌, ◌++◌}
use Rattle.std.specs.List.{flat_map}
use Rattle.ps_gen.specs.Texts.{carts_of, texts_of, trip_lines}
use Rattle.ps_gen.proofs.scripts.push_trips.Given as goal

abbrev pub invariant-loop-cart : goal.invariant-loop-cart
invariant-loop-cart l = record {
  within : l.cart ≤ l.carts + 1;
  lines : texts_of l.lines.items ≡ texts_of l.fn.lines.items ++ flat_map trip_lines (carts_of (l.cart - 1));
}
