-- Places: heads with arguments, of which some are open where a variable stands.
use Rattle.std.specs.Prelude.{Bool, true, false, ◌&&◌, Option, Some, None, List, [], ◌∷◌, map}
use Rattle.std.specs.List.{list_any}
use Rattle.ps_world.specs.Names.{same_name}
use Rattle.ps_world.specs.declared.names.Name.{Name}
use Rattle.ps_world.specs.declared.facts.Fact.{Fact}
use Rattle.ps_world.specs.declared.schemas.Term.{Term}
use Rattle.ps_world.specs.declared.schemas.Term.TheVariants.{Var, Const}
use Rattle.ps_world.specs.declared.schemas.Lifted.{Lifted}
use Rattle.ps_action.specs.declared.places.Place.{Place}

-- whether a term is a variable
abbrev pub is_var : Term → Bool
is_var (Var i) = true
is_var (Const n) = false

-- whether a variable stands in a head's arguments
abbrev pub has_var : Lifted → Bool
has_var l = list_any is_var l.terms

-- the name of a term, if it is no variable
abbrev pub hole_of : Term → Option Name
hole_of (Var i) = None
hole_of (Const n) = Some n

-- the place of a head with terms: open where a variable stands
abbrev pub place_of : Lifted → Place
place_of l = record { head = l.head; args = map hole_of l.terms }

-- the place of a fact, at which nothing is open
abbrev pub closed : Fact → Place
closed f = record { head = f.head; args = map Some f.args }

-- whether two arguments are the same, or one is open
abbrev pub hole_meets : Option Name → Option Name → Bool
hole_meets None h = true
hole_meets (Some m) None = true
hole_meets (Some m) (Some n) = same_name m n

-- whether this is so at each argument, and there are as many
abbrev pub holes_meet : List (Option Name) → List (Option Name) → Bool
holes_meet [] [] = true
holes_meet (h ∷ hs) (g ∷ gs) = hole_meets h g && holes_meet hs gs
holes_meet hs gs = false

-- whether two places meet
abbrev pub places_meet : Place → Place → Bool
places_meet p q = same_name p.head q.head && holes_meet p.args q.args
