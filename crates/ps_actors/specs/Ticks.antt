-- What the ticker may do in its turn.
use Rattle.std.specs.Prelude.{◌≡◌, ℕ, ◌<◌, nat_lt, Bool, true, false, if◌then◌else◌, Option, Some, None, List, [], ◌∷◌, ◌++◌, map}
use Rattle.std.specs.Option.{option_to_list}
use Rattle.ps_machine.specs.declared.inputs.Input.{Input}
use Rattle.ps_machine.specs.declared.journal.FailWhy.TheVariants as fail
use Rattle.ps_machine.specs.declared.journal.Event.{Event}
use Rattle.ps_machine.specs.declared.journal.Event.TheVariants as event
use Rattle.ps_machine.specs.declared.journal.Entry.{Entry}
use Rattle.ps_rules.specs.Auctions.{act_of, first_offer, is_open, offers, requests}
use Rattle.ps_rules.specs.Choices.{confirms, ends, leaves, overs, puts_up, starts}
use Rattle.ps_rules.specs.Runs.{says_plan}
use Rattle.ps_ledger.specs.Offers.{offered_on}
use Rattle.ps_ledger.specs.declared.offers.Offer.{Offer}
use Rattle.ps_actors.specs.Turns.{first_legal}
use Rattle.ps_actors.specs.declared.acts.AboutAct.{AboutAct}
use Rattle.ps_actors.specs.declared.acts.AboutAct.TheVariants as act
use Rattle.ps_actors.specs.declared.requests.AboutRequest.{AboutRequest}
use Rattle.ps_actors.specs.declared.requests.AboutRequest.TheVariants as request

-- whether an event ends the work of a performer
abbrev pub ends_work : Event → Bool
ends_work (event.Finish r p ok) = true
ends_work (event.Stopped r p) = true
ends_work e = false

-- an event makes no plan and ends nobody's work
abbrev pub IsTickers : Event → Type 0
IsTickers e = (says_plan e ≡ None) × (ends_work e ≡ false)

-- ---- what may be done about one request, or one act

-- it may be given up where it is for an act
abbrev pub fails_on : List Entry → ℕ → List Event
fails_on es r = map (λ a. event.Fail a fail.NoPerformer) (option_to_list (act_of r es))

-- its first offer may be confirmed; where it is open, it may be left unserved or given up
abbrev pub on_request : AboutRequest → List Entry → ℕ → List Event
on_request request.Confirm es r = map (event.Confirm r) (option_to_list (first_offer (offers r es)))
on_request request.Leave es r = if is_open r es then event.Unserved r ∷ fails_on es r else []

-- an act may fail in these ways at its end
abbrev pub fails_of : ℕ → List Event
fails_of a = event.Fail a fail.Script ∷ event.Fail a fail.AtEnd ∷ event.Fail a fail.Effect ∷ []

-- it may be ended or fail, a performer may be asked for it, or it may be started
abbrev pub on_act : AboutAct → List Entry → ℕ → List Event
on_act act.Finish es a = event.End a ∷ fails_of a
on_act act.Ask es a = event.Request (requests es) a ∷ []
on_act act.Begin es a = event.Start a ∷ []

-- ---- which offer is rejected

-- the offers on a request may be rejected
abbrev pub rejects_on : List Entry → ℕ → List Event
rejects_on es r = map (event.Reject r) (offers r es)

-- the rejection of an offer
abbrev pub rejection : Offer → Event
rejection o = event.Reject o.r o.by

-- of an offer that may be rejected and the best one before it the one on the earlier request
abbrev pub better : Bool → Option Offer → Offer → Option Offer
better false best o = best
better true None o = Some o
better true (Some b) o = if nat_lt o.r b.r then Some o else Some b

-- of these offers on a request the first rejection that may come
abbrev pub first_of : Input → List Entry → List Offer → ℕ → Option Event
first_of i es xs r = first_legal i es (map (event.Reject r) (offered_on r xs))

-- this offer is the first on the earliest request of which there is a first rejection, and none is given where there is none
abbrev pub IsEarliest : (ℕ → Option Event) → Option Offer → Type 0
IsEarliest firsts None = (r : ℕ) → firsts r ≡ None
IsEarliest firsts (Some o) = ((r : ℕ) → r < o.r → firsts r ≡ None) × (firsts o.r ≡ Some (rejection o))

-- ---- what the ticker may do, from some kind on

-- it starts an act, or ends the run
abbrev pub starts_on : Input → List Entry → List Event
starts_on i es = starts es ++ overs i es

-- it asks for a performer, or does what comes after that
abbrev pub asks_on : Input → List Entry → List Event
asks_on i es = puts_up es ++ starts_on i es

-- it ends an act or fails it, or does what comes after that
abbrev pub ends_on : Input → List Entry → List Event
ends_on i es = ends es ++ asks_on i es

-- it gives up on a request, or does what comes after that
abbrev pub leaves_on : Input → List Entry → List Event
leaves_on i es = leaves es ++ ends_on i es

-- it confirms an offer, or does what comes after that
abbrev pub confirms_on : Input → List Entry → List Event
confirms_on i es = confirms es ++ leaves_on i es
