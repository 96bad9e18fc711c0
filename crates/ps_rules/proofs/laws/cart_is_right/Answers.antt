use Rattle.std.proofs.Common.{refl}
use Rattle.ps_rules.proofs.Cart.{cart_history, cart_ordered, cart_printed}
use Rattle.ps_rules.proofs.laws.cart_is_right.Goals as goal

pub returns : goal.returns
returns c = record {
  history = cart_history;
  whole = record { lines = refl; closed = refl };
  text = cart_printed;
  status = refl;
  ordered = cart_ordered;
}
