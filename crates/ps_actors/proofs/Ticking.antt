-- What the ticker may do about requests and acts, and when the run is over.
use Rattle.std.proofs.Common.{◌≡◌, ℕ, ◌<◌, ◌&&◌, not, Bool, true, false, Option, Some, None, is_none, if◌then◌else◌, List, [], ◌∷◌, flat_map, map, refl, ap, sym, ◌∙◌}
use Rattle.std.proofs.lemmas.List.Concat.{flat_map_single}
use Rattle.std.specs.Option.{option_map_or, option_to_list}
use Rattle.ps_world.specs.Names.{same_name}
use Rattle.ps_world.specs.declared.names.Name.{Name}
use Rattle.ps_world.proofs.Truths.{and_true}
use Rattle.ps_machine.specs.declared.inputs.Input.{Input}
use Rattle.ps_machine.specs.declared.journal.Event.{Event}
use Rattle.ps_machine.specs.declared.journal.Event.TheVariants as event
use Rattle.ps_machine.specs.declared.journal.FailWhy.TheVariants as fail
use Rattle.ps_machine.specs.declared.journal.Entry.{Entry}
use Rattle.ps_machine.specs.declared.journal.Outcome.{Outcome}
use Rattle.ps_rules.specs.Auctions.{act_of, confirmed, first_offer, is_open, is_unserved, offers, requests}
use Rattle.ps_rules.specs.Choices.{all_requests, leaves, overs, puts_up, starts}
use Rattle.ps_rules.specs.Legal.{ending, is_outcome, row_allows}
use Rattle.ps_rules.specs.Lines.{answers_line}
use Rattle.ps_rules.specs.Runs.{is_active, is_running, state}
use Rattle.ps_rules.specs.Settled.{is_settled, places, verdict}
use Rattle.ps_rules.proofs.SameThings.{same_outcome-decides}
use Rattle.ps_state.specs.State.{Stands}
use Rattle.ps_state.specs.declared.state.State.{State}
use Rattle.ps_actors.specs.Ticks.{fails_on, on_act, on_request}
use Rattle.ps_actors.specs.Turns.{first_legal}
use Rattle.ps_actors.specs.declared.acts.AboutAct.TheVariants as act
use Rattle.ps_actors.specs.declared.requests.AboutRequest.{AboutRequest}
use Rattle.ps_actors.specs.declared.requests.AboutRequest.TheVariants as request
use Rattle.ps_actors.proofs.First.{flat-filter}
use Rattle.ps_actors.proofs.Fitting.{legal-fits}
use Rattle.ps_actors.proofs.Older.{actless}

-- an event that is done where it fits is the first legal one of itself alone
pub alone : (i : Input) (es : List Entry) (e : Event) (b : Bool) → is_running es ≡ true → answers_line e ≡ false → b ≡ row_allows i es e
    → (if b then Some e else None) ≡ first_legal i es (e ∷ [])
alone i es e b live own may = ap (λ t. if t then Some e else None) (may ∙ sym (legal-fits i es e live own))

-- ---- requests

pub confirm-some : (i : Input) (es : List Entry) (r : ℕ) (p : Name) (b : Bool) → is_running es ≡ true → first_offer (offers r es) ≡ Some p
    → b ≡ row_allows i es (event.Confirm r p) → (if b then Some (event.Confirm r p) else None) ≡ first_legal i es (on_request request.Confirm es r)
confirm-some i es r p b live first may =
    alone i es (event.Confirm r p) b live refl may ∙ ap (λ o. first_legal i es (map (event.Confirm r) (option_to_list o))) (sym first)

pub confirm-none : (i : Input) (es : List Entry) (r : ℕ) → first_offer (offers r es) ≡ None → None ≡ first_legal i es (on_request request.Confirm es r)
confirm-none i es r first = ap (λ o. first_legal i es (map (event.Confirm r) (option_to_list o))) (sym first)

pub fail-some : (i : Input) (es : List Entry) (r a : ℕ) (b : Bool) → is_running es ≡ true → act_of r es ≡ Some a
    → b ≡ row_allows i es (event.Fail a fail.NoPerformer) → (if b then Some (event.Fail a fail.NoPerformer) else None) ≡ first_legal i es (fails_on es r)
fail-some i es r a b live its may =
    alone i es (event.Fail a fail.NoPerformer) b live refl may ∙ ap (λ o. first_legal i es (map (λ x. event.Fail x fail.NoPerformer) (option_to_list o))) (sym its)

pub fail-none : (i : Input) (es : List Entry) (r : ℕ) → act_of r es ≡ None → None ≡ first_legal i es (fails_on es r)
fail-none i es r its = ap (λ o. first_legal i es (map (λ x. event.Fail x fail.NoPerformer) (option_to_list o))) (sym its)

pub leave-opened : (i : Input) (es : List Entry) (r : ℕ) → is_open r es ≡ true
    → first_legal i es (event.Unserved r ∷ fails_on es r) ≡ first_legal i es (on_request request.Leave es r)
leave-opened i es r is = ap (λ b. first_legal i es (if b then event.Unserved r ∷ fails_on es r else [])) (sym is)

pub leave-shut : (i : Input) (es : List Entry) (r : ℕ) → is_open r es ≡ false → None ≡ first_legal i es (on_request request.Leave es r)
leave-shut i es r shut = ap (λ b. first_legal i es (if b then event.Unserved r ∷ fails_on es r else [])) (sym shut)

-- a request of an older plan isn't open
old-shut : (i : Input) (es : List Entry) (p : State) (r : ℕ) → Stands i es p → r < p.ledger.requests.of_plan → is_open r es ≡ false
old-shut i es p r kept lt =
    ap (λ o. option_map_or (λ a. is_active (state a es)) o false && (is_none (confirmed r es) && not (is_unserved r es)))
    (actless es p.ledger.requests r kept.told.requests lt)

no-confirm : (i : Input) (es : List Entry) (r : ℕ) (o : Option Name) → is_running es ≡ true → is_open r es ≡ false
    → first_legal i es (map (event.Confirm r) (option_to_list o)) ≡ None
no-confirm i es r None live shut = refl
no-confirm i es r (Some p) live shut =
    sym (alone i es (event.Confirm r p) false live refl (ap (λ b. b && option_map_or (same_name p) (first_offer (offers r es)) false) (sym shut)))

-- so nothing may be done about it
pub older : (i : Input) (es : List Entry) (p : State) (about : AboutRequest) (r : ℕ) → Stands i es p → is_running es ≡ true → r < p.ledger.requests.of_plan
    → first_legal i es (on_request about es r) ≡ None
older i es p request.Confirm r kept live lt = no-confirm i es r (first_offer (offers r es)) live (old-shut i es p r kept lt)
older i es p request.Leave r kept live lt = sym (leave-shut i es r (old-shut i es p r kept lt))

pub leaves-are : (es : List Entry) → flat_map (on_request request.Leave es) (all_requests es) ≡ leaves es
leaves-are es = sym (flat-filter (λ r. event.Unserved r ∷ fails_on es r) (λ r. is_open r es) (all_requests es))

-- ---- acts

pub puts-are : (es : List Entry) → flat_map (on_act act.Ask es) (places es) ≡ puts_up es
puts-are es = flat_map_single (event.Request (requests es)) (places es)

pub starts-are : (es : List Entry) → flat_map (on_act act.Begin es) (places es) ≡ starts es
starts-are es = flat_map_single event.Start (places es)

-- ---- the end of the run

pub over-some : (i : Input) (es : List Entry) (how : Outcome) (b : Bool) → is_running es ≡ true → verdict i es ≡ Some how → b ≡ is_settled i es
    → (if b then Some (event.Over how) else None) ≡ first_legal i es (overs i es)
over-some i es how b live ends may =
    let fine : is_outcome how (ending i es (verdict i es)) ≡ true = ap (λ v. is_outcome how (ending i es v)) ends ∙ (same_outcome-decides how how).1 refl in
    alone i es (event.Over how) b live refl (may ∙ sym (ap (λ b. is_settled i es && b) fine ∙ and_true (is_settled i es)))
    ∙ ap (λ v. first_legal i es (map event.Over (option_to_list v))) (sym ends)

pub over-none : (i : Input) (es : List Entry) → verdict i es ≡ None → None ≡ first_legal i es (overs i es)
over-none i es ends = ap (λ v. first_legal i es (map event.Over (option_to_list v))) (sym ends)
