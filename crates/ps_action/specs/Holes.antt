-- The fields of the arguments at a place.
use Rattle.std.specs.Prelude.{◌≡◌, Option, None, List, length, take}
use Rattle.ps_world.specs.ShortLists.{IsFilled, filled, filled-taken, length-taken}
use Rattle.ps_world.specs.declared.names.Name.{Name}
use Rattle.ps_action.specs.declared.places.Holes.TheInside.{Inside}

-- what stands at the places that no argument fills
abbrev pub blank : Option Name
blank = None

-- the fields are those of a short list
abbrev pub IsHoles : Inside → Type 0
IsHoles a = IsFilled blank a.names a.count

-- the arguments
abbrev pub holes_of : Inside → List (Option Name)
holes_of a = take a.count a.names

-- the fields that hold these arguments
abbrev pub fields_of : List (Option Name) → Inside
fields_of hs = record { names = filled blank hs; count = length hs }

pub fields_of-holes_of : (a : Inside) → IsHoles a → fields_of (holes_of a) ≡ a
fields_of-holes_of a h =
    λ i. record { names = filled-taken blank a.names a.count h i; count = length-taken blank a.names a.count h i }
