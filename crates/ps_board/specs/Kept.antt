-- What a board keeps between calls.
use Rattle.std.specs.Prelude.{◌≡◌, ℕ, Bool, true, Option, Some, None, List, length, replicate, slice_get, slice_index_or}
use Rattle.ps_world.specs.declared.names.Name.{Name}
use Rattle.ps_machine.specs.declared.inputs.Input.{Input}
use Rattle.ps_machine.specs.declared.journal.Entry.{Entry}
use Rattle.ps_rules.specs.Members.{performers}
use Rattle.ps_rules.specs.Runs.{is_running}
use Rattle.ps_actors.specs.Heard.{HasHeard}
use Rattle.ps_board.specs.Parts.{BoardStands}
use Rattle.ps_board.specs.Grants.{AreOut, performer_names}
use Rattle.ps_board.specs.declared.whole.Parts.{Parts}

-- no grant is out
abbrev pub all_in : Input → List (Option ℕ)
all_in i = replicate (length (performers i)) None

-- each performer has answered all requests of the last run below its number here
pub record HaveHeard (i : Input) (es : List Entry) (upto : List ℕ) : Type 0 where
  pub all : length upto ≡ length (performers i)
  pub each : (p : ℕ) (name : Name) → slice_get (performer_names i) p ≡ Some name → HasHeard name (slice_index_or upto p 0) es

-- the tree shows the states of the acts
abbrev pub IsShown : Parts → Type 0
IsShown c = c.state.tree.states ≡ c.state.ledger.acts.states.items

-- What is kept stands, the tree shows it, whose grant is out works, what is noted of answers is so, and only an open run is halted.
pub record IsKept (c : Parts) (grants : List (Option ℕ)) (upto : List ℕ) (halted : Bool) : Type 0 where
  pub parts : BoardStands c
  pub shown : IsShown c
  pub out : AreOut c.input c.entries.items grants
  pub heard : HaveHeard c.input c.entries.items upto
  pub live : halted ≡ true → is_running c.entries.items ≡ true
