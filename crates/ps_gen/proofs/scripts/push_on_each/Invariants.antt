use Rattle.std.proofs.Common.{◌≡◌, ◌+◌, ◌-◌, ◌≤◌, ◌++◌, map}
use Rattle.ps_gen.specs.Texts.{carts_of, line_on, texts_of}
use Rattle.ps_gen.proofs.scripts.push_on_each.Given as goal

abbrev pub invariant-loop-cart : goal.invariant-loop-cart
invariant-loop-cart l = record {
  within : l.cart ≤ l.carts + 1;
  lines : texts_of l.lines.items ≡ texts_of l.fn.lines.items ++ map (line_on l.before l.after) (carts_of (l.cart - 1));
}
