-- What is kept of a journal, whole.
use Rattle.std.specs.Prelude.{◌≡◌, ℕ, ◌-◌, Bool, not, if◌then◌else◌, IsTrue, Option, Some, None, List, length}
use Rattle.ps_world.specs.declared.names.Name.{Name}
use Rattle.ps_machine.specs.declared.members.Performer.{Performer}
use Rattle.ps_machine.specs.declared.journal.PassWhy.{PassWhy}
use Rattle.ps_machine.specs.declared.journal.PassWhy.TheVariants.{Other, Busy, Late}
use Rattle.ps_machine.specs.declared.journal.Event.{Event}
use Rattle.ps_machine.specs.declared.journal.Entry.{Entry}
use Rattle.ps_rules.specs.Laws.{speaks_of}
use Rattle.ps_rules.specs.Legal.{pass_reason}
use Rattle.ps_rules.specs.Members.{matches_request}
use Rattle.ps_ledger.specs.Acts.{HasActs, new_acts, speaks_of_acts, TellsActs}
use Rattle.ps_ledger.specs.Answers.{HasRows, speaks_of_answers, TellsAnswers, TellsRows}
use Rattle.ps_ledger.specs.Ends.{TellsEnds}
use Rattle.ps_ledger.specs.Offers.{HasOffers, TellsOffers}
use Rattle.ps_ledger.specs.Lines.{speaks_of_lines, TellsLines}
use Rattle.ps_ledger.specs.Members.{speaks_of_observers, speaks_of_performers, TellsObservers, TellsPerformers}
use Rattle.ps_ledger.specs.Requests.{HasRequests, TellsRequests}
use Rattle.ps_ledger.specs.Runs.{speaks_of_run, TellsRun}
use Rattle.ps_ledger.specs.Work.{HasJobs, speaks_of_jobs, TellsJobs, TellsUnits, TellsWork}
use Rattle.ps_ledger.specs.declared.ledger.Ledger.{Ledger}

-- The ledger tells what these entries do.
pub record TellsAll (es : List Entry) (l : Ledger) : Type 0 where
  pub run : TellsRun es l.run
  pub acts : TellsActs es l.acts
  pub requests : TellsRequests es l.requests
  pub jobs : TellsJobs es l.work
  pub work : TellsWork es l.work
  pub units : TellsUnits es l.work
  pub performers : TellsPerformers es l.performers
  pub observers : TellsObservers es l.observers
  pub rows : TellsRows es l.answers
  pub answers : TellsAnswers l.performers.names.items es l.answers
  pub lines : TellsLines es l.lines
  pub offers : TellsOffers es l.offers
  pub ends : TellsEnds es l.ends

-- There is memory to take so many events that make no plan.
pub record HasSpare (n : ℕ) (l : Ledger) : Type 0 where
  pub requests : HasRequests n l.requests
  pub work : HasJobs n l.work
  pub answers : HasRows n l.answers
  pub offers : HasOffers n l.offers

-- where there was memory for so many there still is; where there was memory for so many, there is for one less
abbrev pub KeepsSpare : Ledger → Ledger → Type 0
KeepsSpare old new = (n : ℕ) → HasSpare n old → HasSpare n new

abbrev pub TakesOne : Ledger → Ledger → Type 0
TakesOne old new = (n : ℕ) → HasSpare n old → HasSpare (n - 1) new

-- There is memory to take an event.
pub record HasRoom (e : Event) (l : Ledger) : Type 0 where
  pub acts : HasActs (new_acts e) l.acts
  pub spare : HasSpare 1 l

-- An event speaks of acts, requests and members that are there, and of work by those who were confirmed.
pub record Speaks (e : Event) (l : Ledger) : Type 0 where
  pub run : IsTrue (speaks_of_run l.run e)
  pub states : IsTrue (speaks_of_acts (length l.acts.states.items) e)
  pub asked : IsTrue (speaks_of_acts (length l.acts.asked.items) e)
  pub requests : IsTrue (speaks_of (length l.requests.all.items) e)
  pub work : IsTrue (speaks_of_jobs l.work.jobs.items e)
  pub performers : IsTrue (speaks_of_performers l.performers e)
  pub observers : IsTrue (speaks_of_observers l.observers e)
  pub answers : IsTrue (speaks_of_answers l.performers.names.items l.answers.rows.items e)
  pub lines : IsTrue (speaks_of_lines l.lines e)

-- The members are those that there were.
pub record HasSameMembers (old new : Ledger) : Type 0 where
  pub performers : new.performers.names.items ≡ old.performers.names.items
  pub observers : new.observers.names.items ≡ old.observers.names.items

-- why a request is passed, if it is: it isn't open, it is for another, the performer is engaged
abbrev pub pass_where : Bool → Bool → Bool → Option PassWhy
pass_where is_open matches engaged =
    if not is_open then Some Late else (if not matches then Some Other else (if engaged then Some Busy else None))

-- This is why a performer of this name would pass a request, where it does the request's act or where it doesn't.
abbrev pub PassesFor : Ledger → ℕ → Name → Bool → Option PassWhy → Type 0
PassesFor l r by matches why =
    (es : List Entry) (p : Performer) → TellsAll es l → p.name ≡ by → matches ≡ matches_request p r es
    → why ≡ pass_reason p r es
