-- A fact with parameters, in little room.
use Rattle.std.specs.Prelude.{[], ◌∷◌}
use Rattle.ps_world.specs.declared.schemas.Lifted.{Lifted}
use Rattle.ps_world.specs.declared.packed.Packing.{Packing}
use Rattle.ps_world.specs.declared.packed.Packing.TheVariants.{None, One, Two, Three, More}

-- the fact that is packed so
abbrev pub unpacked : Packing → Lifted
unpacked (None h) = record { head = h; terms = [] }
unpacked (One h a) = record { head = h; terms = a ∷ [] }
unpacked (Two h a b) = record { head = h; terms = a ∷ b ∷ [] }
unpacked (Three h a b c) = record { head = h; terms = a ∷ b ∷ c ∷ [] }
unpacked (More fact) = fact.value
