-- Ground actions that are found by the things that they use, and those that are tied by them.
use Rattle.std.specs.Prelude.{◌≡◌, ℕ, ◌<◌, Bool, false, List, length, slice_get, slice_index_or}
use Rattle.std.specs.List.{list_any}
use Rattle.std.specs.Option.{option_map_or}
use Rattle.ps_action.specs.declared.acts.GroundAction.{GroundAction}
use Rattle.ps_action.specs.declared.touched.Touched.{Touched}
use Rattle.ps_action.specs.Arcs.{changes, is_arc, reads, meets}
use Rattle.ps_users.specs.Users.{Users, uses}
use Rattle.ps_arcs.specs.Listing.{are_met, touching}

-- an act uses something that meets this exactly where something that is listed of its ground action does
abbrev pub AreUses : (GroundAction → List Touched) → List GroundAction → Users → Type 0
AreUses listed gs users =
    (t : Touched) (i : ℕ) → uses users t i ≡ option_map_or (λ a. list_any (meets t) (listed a)) (slice_get gs i) false

-- acts read and change exactly what their ground actions do
pub record IsIndexed (gs : List GroundAction) (readers changers : Users) : Type 0 where
  pub read : AreUses reads gs readers
  pub changed : AreUses changes gs changers

-- whether the ground action at a place is tied to one of which this is listed
abbrev pub is_tied : List GroundAction → List Touched × List Touched → ℕ → Bool
is_tied gs s j = option_map_or (λ a. are_met s (touching a)) (slice_get gs j) false

-- the flags of the later places tell to which of them there is an arc
abbrev pub AreTied : List GroundAction → ℕ → List Bool → Type 0
AreTied gs i flags =
    (length flags ≡ length gs) × ((j : ℕ) → i < j → j < length gs → slice_index_or flags j false ≡ is_arc gs i j)
