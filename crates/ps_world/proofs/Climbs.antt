-- One step up from a type.
use Rattle.std.proofs.Common.{◌≡◌, ℕ, ◌-◌, ◌<◌, suc, zero, false, Some, refl, arith, sub-one}
use Rattle.ps_world.specs.Names.{same_name}
use Rattle.ps_world.specs.Knowledge.{climbs, parent_of}
use Rattle.ps_world.specs.declared.names.Name.{Name}
use Rattle.ps_world.specs.declared.domains.Domain.{Domain}

-- what isn't the type itself is reached from the parent
pub climbs-up : (n : ℕ) (d : Domain) (at parent high : Name) → 0 < n → same_name at high ≡ false → parent_of d at ≡ Some parent → climbs n d at high ≡ climbs (n - 1) d parent high
climbs-up zero d at parent high h e p = absurd (omega arith)
climbs-up (suc n) d at parent high h e p = rw (e, p, sub-one) refl
