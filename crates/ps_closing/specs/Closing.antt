-- Closures over places.
use Rattle.std.specs.Prelude.{◌≡◌, ℕ, ◌<◌, Bool, true, false, not, ◌&&◌, nat_eq, if◌then◌else◌, Option, Some, None, List, ◌⊎◌, length, slice_index_or, Contains, All}
use Rattle.std.specs.List.{list_all, list_any, sum_by}
use Rattle.ps_closing.specs.declared.rule.Rule.{Rule}

-- whether a place is set
abbrev pub has : List Bool → ℕ → Bool
has flags i = slice_index_or flags i false

-- whether a place is the one that is left out, if one is
abbrev pub is_out : Option ℕ → ℕ → Bool
is_out None i = false
is_out (Some left) i = nat_eq left i

-- all of these places are below this number
abbrev pub AreWithin : ℕ → List ℕ → Type 0
AreWithin n places = All (λ i. i < n) places

-- whether a rule is usable: what it needs is set, and what it makes itself isn't left out
abbrev pub is_ready : Option ℕ → List Bool → Rule → Bool
is_ready out flags r = list_all (has flags) r.needs.items && not (list_any (is_out out) r.own.items)

-- how many places aren't set
abbrev pub unset : List Bool → ℕ
unset flags = sum_by (λ b. if b then 0 else 1) flags

-- all that the usable rules give is set, but for the place left out
abbrev pub IsClosed : Option ℕ → List Rule → List Bool → Type 0
IsClosed out rules flags = (r : Rule) → Contains rules r → is_ready out flags r ≡ true → (i : ℕ) → Contains r.gives.items i → is_out out i ≡ false → has flags i ≡ true

abbrev pub Within : List Bool → List Bool → Type 0
Within flags more = (i : ℕ) → has flags i ≡ true → has more i ≡ true

-- these places are set, but for the one left out, and beside them nothing changes
pub record Gives (out : Option ℕ) (places : List ℕ) (old new : List Bool) : Type 0 where
  pub wide : length new ≡ length old
  pub keeps : Within old new
  pub given : (i : ℕ) → Contains places i → is_out out i ≡ false → has new i ≡ true
  pub only : (i : ℕ) → has new i ≡ true → (has old i ≡ true) ⊎ (Contains places i × (is_out out i ≡ false))

-- what rules make of flags: what was set stays so, and no closed set lacks what is
pub record Grows (out : Option ℕ) (rules : List Rule) (old new : List Bool) : Type 0 where
  pub wide : length new ≡ length old
  pub keeps : Within old new
  pub least : (set : List Bool) → IsClosed out rules set → Within old set → Within new set

-- rules make closed flags of the old ones
pub record AreClosed (out : Option ℕ) (rules : List Rule) (old new : List Bool) : Type 0 where
  pub closed : IsClosed out rules new
  pub grows : Grows out rules old new

-- the places of a rule are below this number
pub record FitsIn (n : ℕ) (r : Rule) : Type 0 where
  pub needs : AreWithin n r.needs.items
  pub gives : AreWithin n r.gives.items
