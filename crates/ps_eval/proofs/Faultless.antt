-- There is an outcome exactly where nothing is at fault.
use Rattle.std.proofs.Common.{◌≡◌, Option, Some, None, is_none, is_ok, refl}
use Rattle.ps_action.specs.Refusals.{unless}

pub ok_unless : {R A : Type 0} (fault : Option R) (new : A) → is_none fault ≡ is_ok (unless fault new)
ok_unless None new = refl
ok_unless (Some r) new = refl
