-- What turns in order make of a journal.
use Rattle.std.specs.Prelude.{◌≡◌, ℕ, true, false, List}
use Rattle.ps_machine.specs.declared.inputs.Input.{Input}
use Rattle.ps_machine.specs.declared.journal.Entry.{Entry}
use Rattle.ps_rules.specs.Runs.{is_running}
use Rattle.ps_rules.specs.Choices.{ordered, Says}

-- These entries are those that so many turns in order make of the entries before.
pub record ReachesBy (says : Says) (i : Input) (es new : List Entry) : Type 0 where
  pub turns : ℕ
  pub all : new ≡ ordered says i es turns

-- These entries are those that so many turns in order make of the entries before, and no run is open any more.
pub record EndsAs (says : Says) (i : Input) (es new : List Entry) : Type 0 where
  pub turns : ℕ
  pub all : new ≡ ordered says i es turns
  pub over : is_running new ≡ false

-- These entries are those that so many turns in order make of the entries before, and the run is still open.
pub record StopsAs (says : Says) (i : Input) (es new : List Entry) : Type 0 where
  pub turns : ℕ
  pub all : new ≡ ordered says i es turns
  pub running : is_running new ≡ true

-- turns in order from the same entries end in one way
abbrev pub OneEnd : Type 0
OneEnd =
    (says : Says) (i : Input) (es new other : List Entry) → EndsAs says i es new → EndsAs says i es other → new ≡ other
