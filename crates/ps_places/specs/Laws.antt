-- What a first false part is, and that a byte has one place.
use Rattle.std.specs.Prelude.{◌≡◌, ◌↔◌, ℕ, true, false, Option, Some, None, List, ◌∷◌, ◌++◌, All}
use Rattle.ps_world.specs.Trees.{CondTree}
use Rattle.ps_world.specs.declared.domains.Domain.{Domain}
use Rattle.ps_world.specs.declared.known.Knowledge.{Knowledge}
use Rattle.ps_action.specs.Truth.{is_true}
use Rattle.ps_places.specs.Parts.{first_false, parts}
use Rattle.ps_places.specs.Places.{IsPlace}
use Rattle.ps_places.specs.declared.places.Place.{Place}

-- a condition is false, and stands among these behind ones that are true
pub record IsFirst (d : Domain) (k : Knowledge) (cs : List CondTree) (c : CondTree) : Type 0 where
  pub before : List CondTree
  pub after : List CondTree
  pub stands : cs ≡ before ++ c ∷ after
  pub true_before : All (λ b. is_true d k b ≡ true) before
  pub is_false : is_true d k c ≡ false

-- a first false part is the first of the parts, and there is none exactly where the condition holds
abbrev pub FirstFalsePartsAreFirst : Type 0
FirstFalsePartsAreFirst =
    (d : Domain) (k : Knowledge) (c : CondTree)
    → ((part : CondTree) → first_false d k c ≡ Some part → IsFirst d k (parts c) part)
    × (first_false d k c ≡ None ↔ is_true d k c ≡ true)

-- a byte has one place
abbrev pub PlacesAreOne : Type 0
PlacesAreOne = (text : List ℕ) (at : ℕ) (one other : Place) → IsPlace text at one → IsPlace text at other → one ≡ other
