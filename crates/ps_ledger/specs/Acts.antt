-- What is kept of the plan and its acts.
use Rattle.std.specs.Prelude.{◌≡◌, ℕ, ◌≤◌, nat_lt, Bool, true, None, List, length, slice_index_or, slice_set}
use Rattle.std.specs.Vec.{vec_capacity}
use Rattle.ps_action.specs.declared.states.ActState.TheVariants.{Waiting, Cancelled}
use Rattle.ps_machine.specs.declared.journal.Event.{Event}
use Rattle.ps_machine.specs.declared.journal.Event.TheVariants as event
use Rattle.ps_machine.specs.declared.journal.Entry.{Entry}
use Rattle.ps_rules.specs.Runs.{plan, state}
use Rattle.ps_rules.specs.Auctions.{request_of}
use Rattle.ps_ledger.specs.declared.acts.Acts.{Acts}

-- What is kept of the plan and its acts is what the entries tell of them.
pub record TellsActs (es : List Entry) (l : Acts) : Type 0 where
  pub acts : plan es ≡ l.plan.items
  pub many : length l.states.items ≡ length l.plan.items
  pub states : (act : ℕ) → state act es ≡ slice_index_or l.states.items act Waiting
  pub as_many : length l.asked.items ≡ length l.plan.items
  pub asked : (act : ℕ) → request_of act es ≡ slice_index_or l.asked.items act None

-- whether an event speaks of acts that are there, where there are so many
abbrev pub speaks_of_acts : ℕ → Event → Bool
speaks_of_acts n (event.Start act) = nat_lt act n
speaks_of_acts n (event.Request r act) = nat_lt act n
speaks_of_acts n (event.End act) = nat_lt act n
speaks_of_acts n (event.Fail act why) = nat_lt act n
speaks_of_acts n (event.Cancel act why) = nat_lt act n
speaks_of_acts n e = true

-- how many acts an event makes a plan of
abbrev pub new_acts : Event → ℕ
new_acts (event.Run for acts) = length acts
new_acts (event.Replan acts) = length acts
new_acts e = 0

-- there is memory for so many acts
pub record HasActs (n : ℕ) (l : Acts) : Type 0 where
  pub plan : n ≤ vec_capacity l.plan
  pub states : n ≤ vec_capacity l.states
  pub asked : n ≤ vec_capacity l.asked

-- the state of this act is that it was cancelled, and those of the others are as they were
abbrev pub IsCancelled : ℕ → Acts → Acts → Type 0
IsCancelled act old new = new.states.items ≡ slice_set old.states.items act Cancelled
