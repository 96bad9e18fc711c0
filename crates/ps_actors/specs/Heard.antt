-- How far a performer has answered the requests of a run.
use Rattle.std.specs.Prelude.{◌≡◌, ℕ, ◌<◌, ◌≤◌, true, List, ◌∷◌, ◌++◌, IsTrue}
use Rattle.ps_world.specs.declared.names.Name.{Name}
use Rattle.ps_machine.specs.declared.inputs.Input.{Input}
use Rattle.ps_machine.specs.declared.journal.Entry.{Entry}
use Rattle.ps_rules.specs.Auctions.{has_answered, is_of_run, requests}
use Rattle.ps_rules.specs.Legal.{is_legal}
use Rattle.ps_rules.specs.History.{forced}

-- A performer has answered each request of the last run below this number, and there are as many requests.
pub record HasHeard (name : Name) (upto : ℕ) (es : List Entry) : Type 0 where
  pub heard : (r : ℕ) → r < upto → is_of_run r es ≡ true → has_answered r name es ≡ true
  pub there : upto ≤ requests es

-- what a performer has answered it has answered after the block of any legal event
abbrev pub HearingStays : Type 0
HearingStays =
    (i : Input) (es : List Entry) (e : Entry) (name : Name) (upto : ℕ) → IsTrue (is_legal i es e.what) → HasHeard name upto es
    → HasHeard name upto (es ++ e ∷ forced i es e)
