-- What workers do, and what they make of a journal.
use Rattle.std.specs.Prelude.{◌≡◌, ℕ, ◌<◌, ◌≤◌, nat_le, Bool, ◌&&◌, not, true, false, Option, Some, None, List, [], ◌∷◌, ◌++◌, ◌-◌, length, slice_get, take, IsTrue}
use Rattle.std.specs.List.{All, list_any}
use Rattle.std.specs.Option.{option_map_or}
use Rattle.ps_world.specs.declared.domains.Domain.{Domain}
use Rattle.ps_machine.specs.declared.inputs.Input.{Input}
use Rattle.ps_machine.specs.declared.journal.Outcome.{Outcome}
use Rattle.ps_machine.specs.declared.journal.Event.{Event}
use Rattle.ps_machine.specs.declared.journal.Event.TheVariants as event
use Rattle.ps_machine.specs.declared.journal.RunKind.TheVariants as run
use Rattle.ps_machine.specs.declared.members.Member.{Member}
use Rattle.ps_machine.specs.declared.members.Member.TheVariants as member
use Rattle.ps_machine.specs.declared.journal.Entry.{Entry}
use Rattle.ps_rules.specs.History.{IsHistory}
use Rattle.ps_rules.specs.Known.{know}
use Rattle.ps_rules.specs.Members.{observers, performers}
use Rattle.ps_rules.specs.Runs.{has_run, is_running}
use Rattle.ps_stale_plan_laws.specs.Asked.{WasAsked}
use Rattle.ps_board.specs.declared.board.Shown.{Shown}
use Rattle.ps_board.specs.declared.ticks.Snapshot.{Snapshot}
use Rattle.ps_turn.specs.Books.{Book, IsFree, Place}
use Rattle.ps_turn.specs.Hands.{GoesOnBy, GoesOnByHands, IsBeginning}
use Rattle.ps_pool.specs.Courses.{GrowsInRun}
use Rattle.ps_pool.specs.Rounds.{IsWanted}
use Rattle.ps_pool.specs.declared.round_place.OutsideWork.{OutsideWork}
use Rattle.ps_pool.specs.declared.round_place.OutsideWork.TheVariants as outside
use Rattle.ps_pool.specs.declared.outline.Outline.{Outline}
use Rattle.ps_pool.specs.declared.round_place.Stand.{Stand}
use Rattle.ps_pool.specs.declared.round_place.Stand.TheVariants as stand
use Rattle.ps_pool.specs.declared.round_place.Step.{Step}
use Rattle.ps_pool.specs.declared.round_place.Step.TheVariants as step
use Rattle.ps_pool.specs.declared.outline.Who.{Who}
use Rattle.ps_pool.specs.declared.outline.Who.TheVariants as who

-- ---- a worker

-- there is such a member
abbrev pub IsThere : Input → Who → Type 0
IsThere i (who.Performer p) = p < length (performers i)
IsThere i (who.Observer o) = o < length (observers i)

-- A worker may take the board with this seat: it is of the book and doesn't hold the turn, its hand is one of those for turns, and it has
-- seen that a run was opened.
pub record MayWork (book : Book) (seat : Place) : Type 0 where
  pub free : IsFree book seat
  pub hand : IsTrue (nat_le 1 seat.hand && nat_le seat.hand 16)
  pub ran : has_run seat.seen ≡ true

-- What the workers of a run know of its input: these members are all there, this is its domain, and this its budget; and so many they are.
pub record IsCrew (i : Input) (members : List Who) (domain : Domain) (budget workers : ℕ) : Type 0 where
  pub are_there : All (IsThere i) members
  pub domain_is : domain ≡ i.domain
  pub budget_is : budget ≡ i.budget
  pub may_search : 1 ≤ budget
  pub some : 1 ≤ workers

-- The solver was asked after the first of these entries with this snapshot.
pub record WasWanted (i : Input) (es : List Entry) (snapshot : Snapshot) : Type 0 where
  pub asked : WasAsked i es snapshot.at
  pub known : snapshot.problem ≡ know i (take snapshot.at es)

-- What workers are told of the board before they begin is so: its members, and its budget, which allows a search.
pub record IsOutline (i : Input) (o : Outline) : Type 0 where
  pub are_there : All (IsThere i) o.members.items
  pub budget_is : o.budget ≡ i.budget
  pub may_search : 1 ≤ o.budget

-- after these entries this may be done aside: a snapshot was handed out then
abbrev pub IsDue : Input → List Entry → OutsideWork → Type 0
IsDue i seen a = (s : Snapshot) → a ≡ outside.Search s → IsWanted i seen s

-- The seat has the same hand, a worker may take the board with it still, and it has seen what it had seen and maybe more.
pub record HasStayed (book : Book) (old new : Place) : Type 0 where
  pub may : MayWork book new
  pub hand : new.hand ≡ old.hand
  pub seen : IsBeginning old.seen new.seen

-- the seat has seen that no run is open any more
abbrev pub HasSeenOver : Place → Type 0
HasSeenOver seat = is_running seat.seen ≡ false

-- the first of these seats is so
abbrev pub FirstIs : (Place → Type 0) → List Place → Type 0
FirstIs P [] = ⊥
FirstIs P (seat ∷ seats) = P seat

-- ---- how a worker stands

-- A worker may take its next turn: its seat is free, memory didn't run out in its last turn, and it hasn't seen that the run is over or halted.
pub record IsReady (book : Book) (seat : Place) (s : Stand) : Type 0 where
  pub may : MayWork book seat
  pub going : s ≡ stand.Going

-- a worker that has seen this much has left: it saw that the run was over, as it is, or that it was halted
abbrev pub HasLeft : List Entry → Stand → Type 0
HasLeft seen stand.Over = is_running seen ≡ false
HasLeft seen stand.Halted = Unit {0}
HasLeft seen s = ⊥

-- how a worker stands that has seen this much after a step that came to this: it has left, or it goes on
abbrev pub StandsAfter : Step → List Entry → Stand → Type 0
StandsAfter step.Left seen s = HasLeft seen s
StandsAfter it seen s = s ≡ stand.Going

-- a worker that has seen this much and stands so steps aside for this, and goes on then
abbrev pub StepsFor : Input → List Entry → Stand → OutsideWork → Type 0
StepsFor i seen s a = IsDue i seen a × (s ≡ stand.Going)

-- a worker that has seen this much and stands so steps aside for this, or has left where there is nothing
abbrev pub StepsAside : Input → Option OutsideWork → List Entry → Stand → Type 0
StepsAside i (Some a) seen s = StepsFor i seen s a
StepsAside i None seen s = HasLeft seen s

-- ---- runs for one worker

-- whether a member is an observer
abbrev pub is_observer : Member → Bool
is_observer (member.Performer p) = false
is_observer (member.Observer o) = true

-- whether an event opens a run of one act
abbrev pub opens_one_act : Event → Bool
opens_one_act (event.Run run.Action acts) = true
opens_one_act e = false

-- whether the last of these entries does
abbrev pub is_of_one_act : List Entry → Bool
is_of_one_act es = option_map_or (λ e. opens_one_act e.what) (slice_get es (length es - 1)) false

-- whether nothing is to be done beside a unit of work in the run that the last entry opens: it is of one act, for which no plan is made
-- anew, and there is no observer, who could edit meanwhile
abbrev pub is_for_one : Input → List Entry → Bool
is_for_one i es = is_of_one_act es && not (list_any is_observer i.members)

-- The first worker went on alone: the entries that it added have its hand, and the input is the same.
pub record GoesOnAlone (old new : Shown) : Type 0 where
  pub grows : GoesOnBy 1 old.entries new.entries
  pub input : new.input ≡ old.input

-- ---- a run

-- the last of these entries is the end of a run
pub record EndsWithOver (es : List Entry) : Type 0 where
  pub before : List Entry
  pub last : Entry
  pub how : Outcome
  pub all : es ≡ before ++ last ∷ []
  pub is : last.what ≡ event.Over how

-- So many workers went on with an open run: the entries they added have their hands and answer no line, and all is a history.
pub record WorkedBy (workers : ℕ) (i : Input) (old new : List Entry) : Type 0 where
  pub by_hands : GoesOnByHands workers old new
  pub in_run : GrowsInRun old new
  pub history : IsHistory i new

-- So many workers went on with an open run, which is still open.
pub record StoppedBy (workers : ℕ) (i : Input) (old new : List Entry) : Type 0 where
  pub worked : WorkedBy workers i old new
  pub running : is_running new ≡ true

-- So many workers went on with an open run until it ended, which is the last entry.
pub record EndedBy (workers : ℕ) (i : Input) (old new : List Entry) : Type 0 where
  pub worked : WorkedBy workers i old new
  pub closed : is_running new ≡ false
  pub over : EndsWithOver new
