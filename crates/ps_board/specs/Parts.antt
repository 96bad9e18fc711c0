-- What a board keeps.
use Rattle.std.specs.Prelude.{◌≡◌, ℕ, ◌+◌, ◌-◌, ◌≤◌, ◌<◌, IsTrue, Bool, true, false, Option, Some, None, option_and_then, if◌then◌else◌, List, [], count_by, length, slice_get, slice_index_or}
use Rattle.std.specs.Option.{option_map_or, unwrap_or}
use Rattle.std.specs.Vec.{vec_capacity}
use Rattle.ps_world.specs.Trees.{CondTree}
use Rattle.ps_action.specs.declared.acts.GroundAction.{GroundAction}
use Rattle.ps_action.specs.declared.states.ActState.{ActState}
use Rattle.ps_action.specs.declared.states.ActState.TheVariants.{Waiting}
use Rattle.ps_machine.specs.declared.journal.Event.{Event}
use Rattle.ps_machine.specs.declared.journal.Event.TheVariants as event
use Rattle.ps_rules.specs.Runs.{is_active, plan, says_plan, says_state, state}
use Rattle.ps_rules.specs.Legal.{has_hand, is_legal}
use Rattle.ps_rules.specs.History.{IsHistory, is_fail}
use Rattle.ps_rules.specs.Sound.{IsSound}
use Rattle.ps_state.specs.State.{Stands}
use Rattle.ps_state.specs.Awaiting.{IsAhead, KeepsAwaiting}
use Rattle.ps_world.specs.declared.names.Name.{Name}
use Rattle.ps_world.specs.declared.edits.Edit.{Edit}
use Rattle.ps_machine.specs.declared.inputs.Input.{Input}
use Rattle.ps_machine.specs.declared.journal.By.{By}
use Rattle.ps_machine.specs.declared.journal.Entry.{Entry}
use Rattle.ps_rules.specs.Choices.{edit_event, line_event, observer_turn, Says, with_block}
use Rattle.ps_rules.specs.Lines.{next_line}
use Rattle.ps_ledger.specs.declared.ledger.Ledger.{Ledger}
use Rattle.ps_ledger.specs.Ledger as ledger
use Rattle.ps_ledger.specs.Ledger.{HasRoom}
use Rattle.ps_monitor.specs.declared.monitor.Monitor.{Monitor}
use Rattle.ps_monitor.specs.Watched.{watched}
use Rattle.ps_board.specs.declared.whole.Parts.{Parts}

-- what an act needs while it runs
abbrev pub over_in : List GroundAction → ℕ → List CondTree
over_in gs act = option_map_or (λ g. g.conditions.over_all) (slice_get gs act) []

-- the condition that is watched for an act in this state
abbrev pub watch_for : List GroundAction → ℕ → ActState → Option (List CondTree)
watch_for gs act s = if is_active s then Some (over_in gs act) else None

-- the state that a ledger keeps of an act
abbrev pub state_in : Ledger → ℕ → ActState
state_in b act = slice_index_or b.acts.states.items act Waiting

-- a monitor watches exactly the active acts
abbrev pub IsWatching : Monitor → Ledger → List GroundAction → Type 0
IsWatching m b gs = (act : ℕ) → watched m act ≡ watch_for gs act (state_in b act)

-- There is memory for so many entries more, and for what they tell if they make no plan.
pub record HasSpare (n : ℕ) (c : Parts) : Type 0 where
  pub entries : length c.entries.items + n ≤ vec_capacity c.entries
  pub ledger : ledger.HasSpare n c.state.ledger

-- What holds between calls: the journal is a history, what is kept is what it tells, exactly the active acts are watched, each act of the
-- plan has its ground action, and there is memory for what is spare.
pub record BoardStands (c : Parts) : Type 0 where
  pub sound : IsSound c.input
  pub history : IsHistory c.input c.entries.items
  pub kept : Stands c.input c.entries.items c.state
  pub watching : IsWatching c.monitor c.state.ledger c.state.grounds.items
  pub all : length c.state.grounds.items ≡ length (plan c.entries.items)
  pub spare : HasSpare c.spare c

-- What holds where the block of an event is due: it is legal, there is memory for its block, and all but the ledger is as it is after it.
pub record IsDue (c : Parts) (hand : ℕ) (e : Event) : Type 0 where
  pub sound : IsSound c.input
  pub history : IsHistory c.input c.entries.items
  pub kept : IsAhead c.input c.entries.items e c.state
  pub watching : (act : ℕ) → watched c.monitor act ≡ watch_for c.state.grounds.items act (unwrap_or (says_state act e) (state act c.entries.items))
  pub all : length c.state.grounds.items ≡ length (unwrap_or (says_plan e) (plan c.entries.items))
  pub legal : IsTrue (is_legal c.input c.entries.items e)
  pub by : IsTrue (has_hand e hand)
  pub room : HasRoom e c.state.ledger
  pub short : length c.entries.items < 18446744073709551615
  pub space : length (with_block c.input hand c.entries.items e) ≤ vec_capacity c.entries
  pub spare : HasSpare c.spare c

-- whether an event leaves what is known, the plan and the states of its acts
abbrev pub is_quiet : Event → Bool
is_quiet (event.Edit by edit) = false
is_quiet (event.Run for acts) = false
is_quiet (event.Replan acts) = false
is_quiet (event.Start act) = false
is_quiet (event.End act) = false
is_quiet (event.Fail act why) = false
is_quiet (event.Cancel act why) = false
is_quiet e = true

-- how many entries the block of an event has at most: a failure cancels each other active act
abbrev pub most_entries : Ledger → Event → ℕ
most_entries l e = if is_quiet e then 1 else (if is_fail e then count_by is_active l.acts.states.items else 257)

-- whether an event makes a plan
abbrev pub makes_plan : Event → Bool
makes_plan (event.Run for acts) = true
makes_plan (event.Replan acts) = true
makes_plan e = false

-- whether an event takes no memory but room for its block and for what that tells: not one that changes what is known or the plan, or is
-- made of texts
abbrev pub takes_only_room : Event → Bool
takes_only_room (event.Edit by edit) = false
takes_only_room (event.Refused by why) = false
takes_only_room (event.Ask query) = false
takes_only_room (event.Run for acts) = false
takes_only_room (event.Replan acts) = false
takes_only_room (event.Start act) = false
takes_only_room (event.End act) = false
takes_only_room (event.Feedback r p percent text) = false
takes_only_room e = true

-- An event takes no memory but room, and its block after these entries has at most as many entries as are spare.
pub record IsCovered (i : Input) (es : List Entry) (spare hand : ℕ) (e : Event) : Type 0 where
  pub kind : takes_only_room e ≡ true
  pub room : length (with_block i hand es e) ≤ length es + spare

-- something is done, and it is covered; the same where a board's parts do it
abbrev pub CoversDone : Input → List Entry → ℕ → ℕ → Option Event → Type 0
CoversDone i es spare hand (Some e) = IsCovered i es spare hand e
CoversDone i es spare hand None = ⊥

abbrev pub Covers : Parts → ℕ → Option Event → Type 0
Covers c hand done = CoversDone c.input c.entries.items c.spare hand done

-- what is spare where there were these entries and now are those: one less for each entry more, as long as there is one
abbrev pub spent : ℕ → List Entry → List Entry → ℕ
spent spare old new = spare - (length new - length old)

-- a board has as many spare entries fewer as it has entries more
abbrev pub Spends : Parts → Parts → Type 0
Spends old new = new.spare ≡ spent old.spare old.entries.items new.entries.items

-- There is memory for the block of an event, which has at most so many entries.
pub record HasPlaces (e : Event) (most : ℕ) (c : Parts) : Type 0 where
  pub ledger : HasRoom e c.state.ledger
  pub entries : length c.entries.items + most ≤ vec_capacity c.entries
  pub short : length c.entries.items < 18446744073709551615

-- All is as it was, but that there may be more memory.
pub record IsGrown (old new : Parts) : Type 0 where
  pub input : new.input ≡ old.input
  pub entries : new.entries.items ≡ old.entries.items
  pub monitor : new.monitor ≡ old.monitor
  pub kept : KeepsAwaiting old.state new.state
  pub room : (n : ℕ) → HasSpare n old → HasSpare n new

-- this event may come next in the journal
abbrev pub MayCome : Parts → Event → Type 0
MayCome c e = IsTrue (is_legal c.input c.entries.items e)

-- the journal has the block of this event more, and no other entry
abbrev pub HasBlock : Parts → ℕ → Event → Parts → Type 0
HasBlock old hand e new = new.entries.items ≡ with_block old.input hand old.entries.items e

-- what records an edit that the terminal or a member makes
abbrev pub edit_of : Parts → By → Edit → Event
edit_of c by edit = edit_event c.input c.entries.items by edit

-- the edit that the observer of this name makes in its turn, recorded, if it makes one
abbrev pub observed_by : Parts → Name → Option Event
observed_by c name = observer_turn c.input name c.entries.items

-- the entries with the block of what is done, if something is
abbrev pub with_turn : Parts → ℕ → Option Event → List Entry
with_turn c hand done = option_map_or (with_block c.input hand c.entries.items) done c.entries.items

-- A parts has the block of what is done more, if something is, and one less is spare for each entry of it; the input stays.
pub record Gains (hand : ℕ) (done : Option Event) (old new : Parts) : Type 0 where
  pub input : new.input ≡ old.input
  pub entries : new.entries.items ≡ with_turn old hand done
  pub spare : Spends old new

-- it has no entry more
abbrev pub GainsNothing : Parts → Parts → Type 0
GainsNothing = Gains 0 None

-- what answers the next line, where one is left and the solver says this
abbrev pub line_answer : Says → Parts → Option Event
line_answer says c = option_and_then (line_event says c.input c.entries.items) (next_line c.input c.entries.items)
