-- What a line of places says: args PLACE*, where PLACE is `_` or a name.
use Rattle.std.specs.Prelude.{ℕ, Bool, true, false, not, if◌then◌else◌, List, [], ◌∷◌, Option, None, Some, codes, drop, position}
use Rattle.ps_world.specs.Names.{Table}
use Rattle.ps_world.specs.declared.names.Name.{Name}
use Rattle.ps_text.specs.Names.{folded, interned, is_name, place_of}
use Rattle.ps_text.specs.Words.{words}
use Rattle.ps_text.specs.declared.lexing.Class.{Class}
use Rattle.ps_text.specs.declared.lexing.Class.TheVariants as class
use Rattle.ps_text.specs.declared.lexing.Token.{Token}

-- whether a word of this class is a name
abbrev pub is_name_class : Class → Bool
is_name_class class.Name = true
is_name_class _ = false

-- the first word that is no name, where the open places are left out
abbrev pub first_other : List Token → Option ℕ
first_other tokens = position (λ t. not (is_name_class t.class)) tokens

-- the place that a word is, a name or open, and the table with that name
abbrev pub place_in : Table → List ℕ → Option Name × Table
place_in table w =
    if is_name w then (Some (record { 0 = place_of table (folded w) }), interned table (folded w)) else (None, table)

-- the places that words are, and the table with their names
abbrev pub places_of : Table → List (List ℕ) → List (Option Name) × Table
places_of table [] = ([], table)
places_of table (w ∷ ws) =
    let here = place_in table w in
    let more = places_of here.1 ws in
    (here.0 ∷ more.0, more.1)

-- the places of a line, and the table with the line's names, of which `args` is the first
abbrev pub pattern_of : Table → List ℕ → List (Option Name) × Table
pattern_of table bytes = places_of (interned table (codes "args")) (drop 1 (words bytes))
