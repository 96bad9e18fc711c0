-- That the list of all ground actions is right.
use Rattle.std.specs.Prelude.{◌≡◌, ℕ, false, ◌↔◌, Ok, List, Contains, AllPairs}
use Rattle.std.specs.List.{position_or_len}
use Rattle.std.specs.List.Sorted.{IsStrictlySortedBy}
use Rattle.std.specs.Ordering.{nat_cmp, ordering_then}
use Rattle.std.specs.Cmp.Lexicographic.{slice_cmp}
use Rattle.std.specs.declared.cmp.Ordering.{Ordering}
use Rattle.ps_world.specs.Names.{same_name, name_cmp}
use Rattle.ps_world.specs.declared.names.Name.{Name}
use Rattle.ps_world.specs.declared.domains.Domain.{Domain}
use Rattle.ps_action.specs.Grounding.{ground_act, all_ground}
use Rattle.ps_action.specs.declared.acts.Act.{Act}
use Rattle.ps_action.specs.declared.acts.GroundAction.{GroundAction}

-- the place of an action in the domain's text
abbrev pub place_of : Domain → Name → ℕ
place_of d n = position_or_len (λ a. same_name n a.name) d.actions

-- the order of ground actions: by the places of their actions, and then by their arguments
abbrev pub ground_cmp : Domain → GroundAction → GroundAction → Ordering
ground_cmp d g h =
    ordering_then (nat_cmp (place_of d g.act.action) (place_of d h.act.action)) (slice_cmp name_cmp g.act.args h.act.args)

-- these are the ground actions of all acts that can be grounded, and each stands once, at its place in the order
pub record AreAll (d : Domain) (instances : List (Name × Name)) (all : List GroundAction) : Type 0 where
  pub just : (g : GroundAction) → Contains all g ↔ ((act : Act) × (ground_act d instances act ≡ Ok g))
  pub rises : IsStrictlySortedBy (ground_cmp d) all

-- where no action and no instance stands twice, all ground actions are in the list
abbrev pub GroundActionsAreAll : Type 0
GroundActionsAreAll =
    (d : Domain) (instances : List (Name × Name)) → AllPairs (λ a b. same_name a.name b.name ≡ false) d.actions
    → AllPairs (λ i j. same_name i.0 j.0 ≡ false) instances → AreAll d instances (all_ground d instances)
