use Rattle.ps_places.specs.Parts.{parts}
use Rattle.ps_places.proofs.FalseParts.{holds_where_none, is_first, none_where_holds}
use Rattle.ps_places.proofs.laws.first_false_parts_are_first.Goals as goal

pub returns : goal.returns
returns c = λ d k cond. ((λ part h. is_first d k (parts cond) part h), (λ h. holds_where_none d k cond h, λ h. none_where_holds d k cond h))
