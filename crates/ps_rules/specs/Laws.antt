-- What histories keep.
use Rattle.std.specs.Prelude.{◌≡◌, ℕ, ◌≤◌, ◌==◌, nat_lt, Bool, true, false, All, Option, Some, None, List, [], ◌∷◌, ◌++◌, IsTrue, IsFalse}
use Rattle.std.specs.Bool.{Decides}
use Rattle.std.specs.List.{AllByRecursion, range_with_len}
use Rattle.ps_world.specs.Lines.{AreLines}
use Rattle.ps_world.specs.Names.{Table}
use Rattle.ps_world.specs.declared.names.Name.{Name}
use Rattle.ps_machine.specs.Tables.{IsEventOf}
use Rattle.ps_action.specs.Search.{Fits}
use Rattle.ps_world.specs.declared.domains.Domain.{Domain}
use Rattle.ps_world.specs.declared.known.Knowledge.{Knowledge}
use Rattle.ps_world.specs.declared.edits.Edit.{Edit}
use Rattle.ps_action.specs.declared.acts.Act.{Act}
use Rattle.ps_machine.specs.Texts.{refusal_text}
use Rattle.ps_machine.specs.declared.inputs.Query.{Query}
use Rattle.ps_machine.specs.declared.journal.Outcome.{Outcome}
use Rattle.ps_machine.specs.declared.journal.Refusal.{Refusal}
use Rattle.ps_machine.specs.declared.inputs.Input.{Input}
use Rattle.ps_action.specs.declared.states.ActState.TheVariants.{Active}
use Rattle.ps_machine.specs.declared.journal.By.TheVariants as by
use Rattle.ps_machine.specs.declared.journal.Event.{Event}
use Rattle.ps_machine.specs.declared.journal.Event.TheVariants as event
use Rattle.ps_machine.specs.declared.journal.Entry.{Entry}
use Rattle.ps_rules.specs.Reading.{all_said, only_if, times_since}
use Rattle.ps_rules.specs.Runs.{is_active, is_running, state}
use Rattle.ps_rules.specs.Auctions.{confirmed, first_offer, offers, requests}
use Rattle.ps_rules.specs.Known.{know}
use Rattle.ps_rules.specs.Lines.{answers_line}
use Rattle.ps_rules.specs.Settled.{may_go_on, may_start, starts_well}
use Rattle.ps_rules.specs.Legal.{is_legal}
use Rattle.ps_rules.specs.History.{forced, IsHistory, IsWhole}
use Rattle.ps_rules.specs.Same.{first_alike, same_acts, same_cause, same_edit, same_outcome, same_query}
use Rattle.ps_rules.specs.Choices.{Actor, Says, session_ordered, turn}
use Rattle.ps_rules.specs.Sound.{IsSound}
use Rattle.ps_rules.specs.Heads.{Head}
use Rattle.ps_rules.specs.Journal.{AreEntriesIn, text_with}

-- whether an event may change what is known
abbrev pub is_change : Event → Bool
is_change (event.Edit by edit) = true
is_change (event.Start act) = true
is_change (event.End act) = true
is_change e = false

-- nothing but edits, starts and ends changes what is known
abbrev pub FewEventsChange : Type 0
FewEventsChange = (i : Input) (es : List Entry) (e : Entry) → is_change e.what ≡ false → know i (es ++ e ∷ []) ≡ know i es

-- ---- auctions

-- the performer that an event says is confirmed on a request
abbrev pub says_confirmed : ℕ → Event → Option Name
says_confirmed r (event.Confirm s p) = only_if (r == s) p
says_confirmed r e = None

-- the performers that were confirmed on a request, in order
abbrev pub all_confirmed : ℕ → List Entry → List Name
all_confirmed r es = all_said (says_confirmed r) es

-- nobody was confirmed, or one performer was, which made the first of these offers
abbrev pub IsOnce : List Name → Option Name → List Name → Type 0
IsOnce [] now offered = now ≡ None
IsOnce (p ∷ []) now offered = (now ≡ Some p) × (first_offer offered ≡ Some p)
IsOnce (p ∷ q ∷ ps) now offered = ⊥

-- a request has at most one confirmation, and it names the first offer
abbrev pub FirstOfferWins : Type 0
FirstOfferWins =
    (i : Input) (es : List Entry) → IsHistory i es
    → (r : ℕ) → IsOnce (all_confirmed r es) (confirmed r es) (offers r es)

-- the performer that an event says begins on a request or does a unit of it
abbrev pub says_worker : ℕ → Event → Option Name
says_worker r (event.Begin s p) = only_if (r == s) p
says_worker r (event.Edit (by.Performer s p) edit) = only_if (r == s) p
says_worker r (event.Refused (by.Performer s p) why) = only_if (r == s) p
says_worker r (event.UnitWork s p) = only_if (r == s) p
says_worker r (event.Feedback s p percent text) = only_if (r == s) p
says_worker r (event.Finish s p ok) = only_if (r == s) p
says_worker r e = None

-- the performers that began on a request or did a unit of it, in order
abbrev pub workers : ℕ → List Entry → List Name
workers r es = all_said (says_worker r) es

-- nobody works on a request but the one who was confirmed
abbrev pub OnlyTheConfirmedWork : Type 0
OnlyTheConfirmedWork =
    (i : Input) (es : List Entry) → IsHistory i es
    → (r : ℕ) → AllByRecursion (λ p. confirmed r es ≡ Some p) (workers r es)

-- the number that an event gives to a request
abbrev pub says_number : Event → Option ℕ
says_number (event.Request r act) = Some r
says_number e = None

-- requests count up from 0
abbrev pub RequestsCountUp : Type 0
RequestsCountUp =
    (i : Input) (es : List Entry) → IsHistory i es
    → all_said says_number es ≡ range_with_len 0 (requests es)

-- ---- acts

-- after each block the over-all condition of each active act holds
abbrev pub ActiveActsMayGoOn : Type 0
ActiveActsMayGoOn =
    (i : Input) (es : List Entry) → IsHistory i es
    → (act : ℕ) → state act es ≡ Active → may_go_on i es act ≡ true

-- where no run is open, no act is active
abbrev pub NoneIsActiveBetweenRuns : Type 0
NoneIsActiveBetweenRuns =
    (i : Input) (es : List Entry) → IsHistory i es → IsFalse (is_running es)
    → (act : ℕ) → IsFalse (is_active (state act es))

-- an event that answers a line of the terminal forces no cancel
abbrev pub LinesForceNothing : Type 0
LinesForceNothing =
    (i : Input) (es : List Entry) (e : Entry) → IsHistory i es → IsTrue (is_legal i es e.what) → IsTrue (answers_line e.what)
    → forced i es e ≡ []

-- whether an event is a cancel
abbrev pub is_cancel : Event → Bool
is_cancel (event.Cancel act why) = true
is_cancel e = false

-- each of these entries but the cancels is legal after those before it
abbrev pub EachIsLegal : Input → List Entry → List Entry → Type 0
EachIsLegal i before [] = Unit {0}
EachIsLegal i before (e ∷ es) =
    (is_cancel e.what ≡ false → IsTrue (is_legal i before e.what)) × EachIsLegal i (before ++ e ∷ []) es

-- each entry of a history but the cancels is legal after those before it
abbrev pub EntriesAreLegal : Type 0
EntriesAreLegal = (i : Input) (es : List Entry) → IsHistory i es → EachIsLegal i [] es

-- a legal start has its start condition true and its start effects defined
abbrev pub StartsAreSound : Type 0
StartsAreSound =
    (i : Input) (es : List Entry) (act : ℕ) → IsTrue (is_legal i es (event.Start act))
    → (may_start i es act ≡ true) × (starts_well i es act ≡ true)

-- whether an event makes a plan
abbrev pub makes_plan : Event → Bool
makes_plan (event.Run for acts) = true
makes_plan (event.Replan acts) = true
makes_plan e = false

-- whether an event starts this act
abbrev pub is_start : ℕ → Event → Bool
is_start act (event.Start j) = act == j
is_start act e = false

-- an act is started at most once a plan
abbrev pub ActsStartOnce : Type 0
ActsStartOnce =
    (i : Input) (es : List Entry) → IsHistory i es
    → (act : ℕ) → times_since makes_plan (is_start act) es ≤ 1

-- ---- numbers

-- whether an event speaks of requests that are there, where there are so many; a new one has the next number
abbrev pub speaks_of : ℕ → Event → Bool
speaks_of n (event.Request r act) = r == n
speaks_of n (event.Edit (by.Performer r p) edit) = nat_lt r n
speaks_of n (event.Refused (by.Performer r p) why) = nat_lt r n
speaks_of n (event.Offer r p) = nat_lt r n
speaks_of n (event.Pass r p why) = nat_lt r n
speaks_of n (event.Confirm r p) = nat_lt r n
speaks_of n (event.Reject r p) = nat_lt r n
speaks_of n (event.Begin r p) = nat_lt r n
speaks_of n (event.UnitWork r p) = nat_lt r n
speaks_of n (event.Feedback r p percent text) = nat_lt r n
speaks_of n (event.Finish r p ok) = nat_lt r n
speaks_of n (event.Unserved r) = nat_lt r n
speaks_of n (event.Stopped r p) = nat_lt r n
speaks_of n e = true

-- a legal event after a history speaks of requests that are there
abbrev pub LegalEventsSpeak : Type 0
LegalEventsSpeak =
    (i : Input) (es : List Entry) (e : Event) → IsHistory i es → IsTrue (is_legal i es e)
    → speaks_of (requests es) e ≡ true

-- ---- the journal's text

-- The entries that stand in the text of a journal, in either version, are those of the journal, where no name of the table has a line
-- feed in it, and the names and the notes of the entries are in form.
abbrev pub EntriesAreReadBack : Type 0
EntriesAreReadBack =
    (head : Head) (names : Table) (count : ℕ) (i : Input) (es : List Entry) → AreLines names → All (λ e. IsEventOf count e.what) es
    → AreEntriesIn head names (text_with head names i es) es

-- The entries that stand in the text of a history of a sound input, in either version, are those of the history, where no name of the
-- table has a line feed in it.
abbrev pub HistoriesAreReadBack : Type 0
HistoriesAreReadBack =
    (head : Head) (names : Table) (i : Input) (es : List Entry) → AreLines names → IsSound i → IsHistory i es
    → AreEntriesIn head names (text_with head names i es) es

-- ---- sameness

-- Sameness decides equality, of edits, plans, queries and outcomes; of causes it decides whether they print as the same first cause.
pub record SamenessDecides : Type 0 where
  pub edits : (e f : Edit) → Decides (same_edit e f) (e ≡ f)
  pub plans : (xs ys : List Act) → Decides (same_acts xs ys) (xs ≡ ys)
  pub queries : (q r : Query) → Decides (same_query q r) (q ≡ r)
  pub outcomes : (o p : Outcome) → Decides (same_outcome o p) (o ≡ p)
  pub causes : (why other : Refusal) → Decides (same_cause why other) (first_alike why ≡ first_alike other)
  pub printed : (names : Table) (why : Refusal) → refusal_text names (first_alike why) ≡ refusal_text names why

-- ---- choices

-- a solver answers as it may, whatever it is asked
abbrev pub IsSolver : Says → Type 0
IsSolver says = (d : Domain) (k : Knowledge) (budget : ℕ) → Fits d k budget (says d k budget)

-- what a member or the ticker does in its turn is legal
abbrev pub TurnsAreLegal : Type 0
TurnsAreLegal =
    (says : Says) (i : Input) (es : List Entry) (actor : Option Actor) (e : Event) → IsSolver says → turn says i es actor ≡ Some e
    → IsTrue (is_legal i es e)

-- entries are a history of an input, and a whole one where no run is open
pub record IsOrderly (i : Input) (es : List Entry) : Type 0 where
  pub history : IsHistory i es
  pub whole : IsFalse (is_running es) → IsWhole i es

-- the journal of a session in order is a history, and a whole one where its last run has ended
abbrev pub SessionsAreOrderly : Type 0
SessionsAreOrderly = (says : Says) (i : Input) (turns : ℕ) → IsSolver says → IsOrderly i (session_ordered says i turns)
