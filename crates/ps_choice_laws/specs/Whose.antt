-- Whose an event is. An observer's events are those that are counted as its units.
use Rattle.std.specs.Prelude.{Bool, true, false, is_some, List, IsTrue}
use Rattle.ps_world.specs.Names.{same_name}
use Rattle.ps_world.specs.declared.names.Name.{Name}
use Rattle.ps_machine.specs.declared.inputs.Input.{Input}
use Rattle.ps_machine.specs.declared.journal.By.TheVariants as by
use Rattle.ps_machine.specs.declared.journal.Event.{Event}
use Rattle.ps_machine.specs.declared.journal.Event.TheVariants as event
use Rattle.ps_machine.specs.declared.journal.Entry.{Entry}
use Rattle.ps_rules.specs.History.{IsHistory}
use Rattle.ps_rules.specs.Laws.{is_cancel}
use Rattle.ps_rules.specs.Legal.{is_legal}
use Rattle.ps_rules.specs.Lines.{answers_line}
use Rattle.ps_rules.specs.Members.{is_observed, observer_of, performer_of}

-- whether an event is the ticker's
abbrev pub is_ticker_event : Event → Bool
is_ticker_event (event.Start act) = true
is_ticker_event (event.Request r act) = true
is_ticker_event (event.Confirm r p) = true
is_ticker_event (event.Reject r p) = true
is_ticker_event (event.Unserved r) = true
is_ticker_event (event.End act) = true
is_ticker_event (event.Fail act why) = true
is_ticker_event (event.Replan acts) = true
is_ticker_event (event.Over how) = true
is_ticker_event e = false

-- whether an event may rest on the solver's answer
abbrev pub may_rest_on_answer : Event → Bool
may_rest_on_answer (event.Replan acts) = true
may_rest_on_answer (event.Over how) = true
may_rest_on_answer e = false

-- whether an event is this performer's
abbrev pub is_performer_event : Name → Event → Bool
is_performer_event p (event.Edit (by.Performer r q) edit) = same_name p q
is_performer_event p (event.Refused (by.Performer r q) why) = same_name p q
is_performer_event p (event.Offer r q) = same_name p q
is_performer_event p (event.Pass r q why) = same_name p q
is_performer_event p (event.Begin r q) = same_name p q
is_performer_event p (event.UnitWork r q) = same_name p q
is_performer_event p (event.Feedback r q percent text) = same_name p q
is_performer_event p (event.Finish r q ok) = same_name p q
is_performer_event p (event.Stopped r q) = same_name p q
is_performer_event p e = false

-- an event is the terminal's, the ticker's, a performer's or an observer's, or a cancel, which comes with an event and is nobody's choice
pub data IsSomebodys (e : Event) : Type 0 where
  terminals : IsTrue (answers_line e) → IsSomebodys e
  tickers : IsTrue (is_ticker_event e) → IsSomebodys e
  performers : (p : Name) → IsTrue (is_performer_event p e) → IsSomebodys e
  observers : (o : Name) → IsTrue (is_observed o e) → IsSomebodys e
  forced : IsTrue (is_cancel e) → IsSomebodys e

-- each event is somebody's
abbrev pub EachEventIsSomebodys : Type 0
EachEventIsSomebodys = (e : Event) → IsSomebodys e

-- those whose an event is are members of the input: a performer of it, or an observer of it
pub record IsOfMembers (i : Input) (e : Event) : Type 0 where
  pub performer : (p : Name) → IsTrue (is_performer_event p e) → IsTrue (is_some (performer_of i p))
  pub observer : (o : Name) → IsTrue (is_observed o e) → IsTrue (is_some (observer_of i o))

-- in every history each legal event of a performer or an observer is by a member of the input
abbrev pub MembersAloneAct : Type 0
MembersAloneAct = (i : Input) (es : List Entry) → IsHistory i es → (e : Event) → IsTrue (is_legal i es e) → IsOfMembers i e
