-- Sameness of units decides equality.
use Rattle.std.proofs.Common.{ap, sym, ◌∙◌}
use Rattle.ps_reports.specs.Laws.{SamenessDecides}
use Rattle.ps_legal.specs.Same.{same_unit}
use Rattle.ps_legal.proofs.Units.{same_unit-itself, same_unit-is}

pub sameness_decides : SamenessDecides
sameness_decides u v = (same_unit-is u v, λ e. ap (same_unit u) (sym e) ∙ same_unit-itself u)
