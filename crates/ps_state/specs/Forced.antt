-- How the cancels that an event forces are gathered.
use Rattle.std.specs.Prelude.{◌≡◌, ℕ, ◌&&◌, not, Bool, true, false, if◌then◌else◌, List, [], ◌∷◌, ◌++◌, map}
use Rattle.ps_machine.specs.declared.inputs.Input.{Input}
use Rattle.ps_machine.specs.declared.journal.CancelWhy.{CancelWhy}
use Rattle.ps_machine.specs.declared.journal.CancelWhy.TheVariants.{Stop}
use Rattle.ps_machine.specs.declared.journal.Entry.{Entry}
use Rattle.ps_rules.specs.History.{cancels, unbroken}
use Rattle.ps_rules.specs.Runs.{is_active, state}
use Rattle.ps_rules.specs.Settled.{may_go_on}
use Rattle.ps_state.specs.State.{Stands}
use Rattle.ps_state.specs.declared.state.State.{State}

-- whether an act is active and its over-all condition is false, and whether it is active and that holds
abbrev pub is_broken : Input → List Entry → ℕ → Bool
is_broken i es act = is_active (state act es) && not (may_go_on i es act)

abbrev pub is_sound : Input → List Entry → ℕ → Bool
is_sound i es act = is_active (state act es) && may_go_on i es act

-- the cancel of an act, where it is to be cancelled
abbrev pub cancels_if : ℕ → CancelWhy → Bool → ℕ → List Entry
cancels_if hand why b act = if b then cancels hand why act ∷ [] else []

-- whether there is one of these
abbrev pub has_some : List Entry → Bool
has_some [] = false
has_some (e ∷ es) = true

-- the cancels of the active acts whose over-all condition holds are put at the end
abbrev pub Adds : State → ℕ → List Entry → List Entry → Type 0
Adds p hand old new = (i : Input) (es : List Entry) → Stands i es p → new ≡ old ++ map (cancels hand Stop) (unbroken i es)
