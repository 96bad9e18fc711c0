-- Which rules need a place, and which places are still to be looked at.
use Rattle.std.specs.Prelude.{◌≡◌, ℕ, ◌+◌, ◌<◌, Bool, true, false, Option, Some, List, ◌⊎◌, length, slice_get, Contains}
use Rattle.std.specs.Global.{Vec}
use Rattle.ps_closing.specs.declared.rule.Rule.{Rule}
use Rattle.ps_closing.specs.Closing.{Within, has, is_out, is_ready, unset}

-- ---- the users of places

-- a rule, by its place in their list, is among the users of a place
abbrev pub IsUser : List (Vec ℕ) → ℕ → ℕ → Type 0
IsUser users p j = (us : Vec ℕ) × (slice_get users p ≡ Some us) × Contains us.items j

-- no place has users
abbrev pub HaveNone : List (Vec ℕ) → Type 0
HaveNone users = (p j : ℕ) → IsUser users p j → ⊥

-- a rule is put among the users of these places
pub record Enters (places : List ℕ) (j : ℕ) (old new : List (Vec ℕ)) : Type 0 where
  pub wide : length new ≡ length old
  pub keeps : (p i : ℕ) → IsUser old p i → IsUser new p i
  pub added : (p : ℕ) → Contains places p → IsUser new p j
  pub only : (p i : ℕ) → IsUser new p i → IsUser old p i ⊎ (i ≡ j)

-- the users of each place are rules, and among them are those that need it
pub record AreUsers (rules : List Rule) (users : List (Vec ℕ)) : Type 0 where
  pub within : (p j : ℕ) → IsUser users p j → j < length rules
  pub listed : (j : ℕ) (r : Rule) (p : ℕ) → slice_get rules j ≡ Some r → Contains r.needs.items p → IsUser users p j

-- ---- places to be looked at

-- all that a rule gives is set, but for the place left out
abbrev pub AreGiven : Option ℕ → List Bool → Rule → Type 0
AreGiven out flags r = (i : ℕ) → Contains r.gives.items i → is_out out i ≡ false → has flags i ≡ true

-- what a rule gives is set, if it is usable, or a place that it needs is still to be looked at
abbrev pub IsSeen : Option ℕ → List Bool → List ℕ → Rule → Type 0
IsSeen out flags queue r = is_ready out flags r ≡ true → AreGiven out flags r ⊎ ((p : ℕ) × Contains r.needs.items p × Contains queue p)

-- so is each of several
abbrev pub AreSeen : Option ℕ → List Rule → List Bool → List ℕ → Type 0
AreSeen out rules flags queue = (r : Rule) → Contains rules r → IsSeen out flags queue r

-- so is each of these users
abbrev pub AreUsersSeen : Option ℕ → List Rule → List ℕ → List Bool → List ℕ → Type 0
AreUsersSeen out rules users flags queue = (j : ℕ) (r : Rule) → Contains users j → slice_get rules j ≡ Some r → IsSeen out flags queue r

-- where more places get set they are to be looked at, and nothing else
pub record Queues (old new : List Bool) (before after : List ℕ) : Type 0 where
  pub wide : length new ≡ length old
  pub keeps : Within old new
  pub waits : (i : ℕ) → Contains before i → Contains after i
  pub added : (i : ℕ) → has new i ≡ true → (has old i ≡ true) ⊎ Contains after i
  pub many : unset new + length after ≡ unset old + length before
