use Rattle.ps_order_laws.proofs.Going.{any_order}
use Rattle.ps_order_laws.proofs.laws.any_order.Goals as goal

pub returns : goal.returns
returns g c = any_order _ _ _
