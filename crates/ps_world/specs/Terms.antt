-- The fields of a short list of terms.
use Rattle.std.specs.Prelude.{◌≡◌, List, length, take}
use Rattle.ps_world.specs.ShortLists.{IsFilled, filled, filled-taken, length-taken}
use Rattle.ps_world.specs.declared.schemas.Term.{Term}
use Rattle.ps_world.specs.declared.schemas.Term.TheVariants.{Var}
use Rattle.ps_world.specs.declared.schemas.Terms.TheInside.{Inside}

-- what stands at the places that no term fills
abbrev pub blank : Term
blank = Var 0

-- the fields are those of a short list
abbrev pub IsTerms : Inside → Type 0
IsTerms a = IsFilled blank a.terms a.count

-- the terms
abbrev pub terms_of : Inside → List Term
terms_of a = take a.count a.terms

-- the fields that hold these terms
abbrev pub fields_of : List Term → Inside
fields_of ts = record { terms = filled blank ts; count = length ts }

pub fields_of-terms_of : (a : Inside) → IsTerms a → fields_of (terms_of a) ≡ a
fields_of-terms_of a h =
    λ i. record { terms = filled-taken blank a.terms a.count h i; count = length-taken blank a.terms a.count h i }
