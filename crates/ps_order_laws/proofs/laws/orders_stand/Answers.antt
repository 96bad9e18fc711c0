use Rattle.ps_order_laws.proofs.Standing.{orders_stand}
use Rattle.ps_order_laws.proofs.laws.orders_stand.Goals as goal

pub returns : goal.returns
returns c = orders_stand
