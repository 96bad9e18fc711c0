-- The fields of a short list of names.
use Rattle.std.specs.Prelude.{◌≡◌, List, length, take}
use Rattle.ps_world.specs.ShortLists.{IsFilled, filled, filled-taken, length-taken}
use Rattle.ps_world.specs.declared.names.Name.{Name}
use Rattle.ps_world.specs.declared.names.Args.TheInside.{Inside}

-- what stands at the places that no name fills
abbrev pub blank : Name
blank = record { 0 = 0 }

-- the fields are those of a short list
abbrev pub IsArgs : Inside → Type 0
IsArgs a = IsFilled blank a.names a.count

-- the names
abbrev pub names_of : Inside → List Name
names_of a = take a.count a.names

-- the fields that hold these names
abbrev pub fields_of : List Name → Inside
fields_of ns = record { names = filled blank ns; count = length ns }

pub fields_of-names_of : (a : Inside) → IsArgs a → fields_of (names_of a) ≡ a
fields_of-names_of a h =
    λ i. record { names = filled-taken blank a.names a.count h i; count = length-taken blank a.names a.count h i }
