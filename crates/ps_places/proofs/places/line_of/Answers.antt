use Rattle.std.proofs.Common.{refl}
use Rattle.ps_places.proofs.places.line_of.Goals as goal

pub returns : goal.returns
returns c = (c.place_of-place.result, c.place_of-place.ensures, refl)
