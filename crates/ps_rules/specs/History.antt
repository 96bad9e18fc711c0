-- Histories: blocks of a legal event and the cancels that it forces.
use Rattle.std.specs.Prelude.{◌≡◌, ℕ, ◌&&◌, not, Bool, true, false, ◌||◌, if◌then◌else◌, List, [], ◌∷◌, ◌++◌, filter, length, map, IsTrue, IsFalse}
use Rattle.std.specs.List.{list_any}
use Rattle.ps_machine.specs.declared.inputs.Input.{Input}
use Rattle.ps_machine.specs.declared.journal.By.TheVariants as by
use Rattle.ps_machine.specs.declared.journal.CancelWhy.{CancelWhy}
use Rattle.ps_machine.specs.declared.journal.CancelWhy.TheVariants as cancel
use Rattle.ps_machine.specs.declared.journal.Outcome.TheVariants as outcome
use Rattle.ps_machine.specs.declared.journal.Event.{Event}
use Rattle.ps_machine.specs.declared.journal.Event.TheVariants as event
use Rattle.ps_machine.specs.declared.journal.Entry.{Entry}
use Rattle.ps_rules.specs.Runs.{is_active, is_running, state}
use Rattle.ps_rules.specs.Lines.{answered, due_lines}
use Rattle.ps_rules.specs.Settled.{places, may_go_on}
use Rattle.ps_rules.specs.Legal.{has_hand, is_legal}

-- ---- forced cancels

-- the active acts whose over-all condition is false
abbrev pub broken : Input → List Entry → List ℕ
broken i es = filter (λ act. is_active (state act es) && not (may_go_on i es act)) (places es)

-- the active acts whose over-all condition holds
abbrev pub unbroken : Input → List Entry → List ℕ
unbroken i es = filter (λ act. is_active (state act es) && may_go_on i es act) (places es)

-- whether an event is a failure, which stops all active acts
abbrev pub is_fail : Event → Bool
is_fail (event.Fail act why) = true
is_fail e = false

-- whether there is an act among these
abbrev pub any_of : List ℕ → Bool
any_of [] = false
any_of (act ∷ more) = true

-- a cancel of an act with this hand
abbrev pub cancels : ℕ → CancelWhy → ℕ → Entry
cancels hand why act = record { hand = hand; what = event.Cancel act why }

-- the cancels with this hand that an event forces, where it is the last of these entries: of each active act whose over-all condition
-- is false, and then, after a failure or such a cancel, of each other active act
abbrev pub forced_after : Input → List Entry → ℕ → Event → List Entry
forced_after i es hand e =
    map (cancels hand cancel.OverAll) (broken i es)
    ++ (if is_fail e || any_of (broken i es) then map (cancels hand cancel.Stop) (unbroken i es) else [])

-- the cancels that an entry forces after these entries
abbrev pub forced : Input → List Entry → Entry → List Entry
forced i es e = forced_after i (es ++ e ∷ []) e.hand e.what

-- ---- histories

-- A history is a list of blocks: a legal event, and exactly the cancels that it forces.
pub data IsHistory (i : Input) : List Entry → Type 0 where
  nothing : IsHistory i []
  block : (es : List Entry) (e : Entry) → IsHistory i es → IsTrue (is_legal i es e.what) → IsTrue (has_hand e.what e.hand)
      → IsHistory i (es ++ e ∷ forced i es e)

-- a session is whole where every line up to the end or the first `quit` has its entry, and no run is open
pub record IsWhole (i : Input) (es : List Entry) : Type 0 where
  pub lines : answered es ≡ length (due_lines i.lines)
  pub closed : IsFalse (is_running es)

-- whether an event refuses a line of the terminal, or ends a run without success
abbrev pub is_mishap : Event → Bool
is_mishap (event.Refused (by.Terminal n) why) = true
is_mishap (event.Over outcome.Success) = false
is_mishap (event.Over how) = true
is_mishap e = false

-- the status that a session ends with: 1 where a line was refused or a run failed, else 0
abbrev pub status_of : List Entry → ℕ
status_of es = if list_any (λ e. is_mishap e.what) es then 1 else 0
