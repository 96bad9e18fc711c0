use Rattle.std.proofs.Common.{refl}
use Rattle.ps_reading_laws.proofs.laws.samples_count.Goals as goal

pub returns : goal.returns
returns c = ((refl, refl, refl), (refl, refl, refl), (refl, refl, refl), (refl, refl, refl), (refl, refl, refl))
