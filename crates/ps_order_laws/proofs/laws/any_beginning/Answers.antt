use Rattle.ps_order_laws.proofs.Going.{any_beginning}
use Rattle.ps_order_laws.proofs.laws.any_beginning.Goals as goal

pub returns : goal.returns
returns g c = any_beginning _ _ _
