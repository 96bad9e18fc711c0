-- The sample comes out as it is said.
use Rattle.std.proofs.Common.{refl}
use Rattle.ps_action.specs.Samples.{SamplesComeOut}

pub samples_come_out : SamplesComeOut
samples_come_out = (refl, refl, refl, refl, refl)
