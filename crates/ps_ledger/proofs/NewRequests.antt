-- A request more.
use Rattle.std.proofs.Common.{◌≡◌, ℕ, ◌+◌, ◌≤◌, ◌==◌, ◌||◌, ◌&&◌, nat_le, nat_lt, true, false, Some, None, if◌then◌else◌, List, [], ◌∷◌, ◌++◌, length, refl, arith, ap, sym, subst, ◌∙◌, length-append}
use Rattle.std.proofs.lemmas.Bool.{eqb-true}
use Rattle.std.proofs.Math.Bool.{or-false}
use Rattle.std.proofs.lemmas.Bool.Decides.{nat_tests}
use Rattle.std.specs.Option.{unwrap_or}
use Rattle.ps_machine.specs.declared.journal.Event.TheVariants as event
use Rattle.ps_machine.specs.declared.journal.Entry.{Entry}
use Rattle.ps_rules.specs.Reading.{only_if, with_last}
use Rattle.ps_rules.specs.Auctions.{act_of, confirmed, finish_of, first_offer, offers, says_offer, is_of_run, is_unserved, leaves_unserved, says_act, says_confirm, says_finish, says_of_run, is_request}
use Rattle.ps_rules.specs.Laws.{speaks_of}
use Rattle.ps_rules.proofs.Pushed.{read-push}
use Rattle.ps_ledger.specs.declared.requests.Request.{Request}
use Rattle.ps_ledger.specs.declared.requests.Requests.{Requests}
use Rattle.ps_ledger.specs.Requests.{asked_for, no_request, request_at, TellsRequests}
use Rattle.ps_ledger.proofs.Lists.{at-push, beyond, by-cases}

-- the last one is among them from a place on, and which others are doesn't change
last_in : (from r n : ℕ) → from ≤ n → (r == n) ≡ true → (nat_le from r && nat_lt r (n + 1)) ≡ true
last_in from r n le h = grind (arith, nat_tests, le, h)

other_in : (from r n : ℕ) → (r == n) ≡ false → (nat_le from r && nat_lt r (n + 1)) ≡ (nat_le from r && nat_lt r n)
other_in from r n h = grind (arith, nat_tests, h)

pub tells-request : (es : List Entry) (hand act : ℕ) (old new : Requests) → TellsRequests es old
    → new.of_plan ≡ old.of_plan
    → new.of_run ≡ old.of_run
    → new.all.items ≡ old.all.items ++ asked_for act ∷ []
    → TellsRequests (es ++ record { hand = hand; what = event.Request (length old.all.items) act } ∷ []) new
tells-request es hand act old new t plan run all =
    let n : ℕ = length old.all.items in
    let e : Entry = record { hand = hand; what = event.Request n act } in
    let x : Request = asked_for act in
    let at : (r : ℕ) → request_at new.all.items r ≡ (if r == n then x else request_at old.all.items r) = λ r. ap (λ items. request_at items r) all ∙ at-push old.all.items x r no_request in
    let longer : length new.all.items ≡ n + 1 = ap length all ∙ length-append old.all.items (x ∷ []) in
    let old_is : (r : ℕ) → (r == n) ≡ true → request_at old.all.items r ≡ no_request = λ r g. beyond old.all.items r no_request (omega (arith, eqb-true r n g)) in
    record {
      count = read-push (λ m f. if is_request f then m + 1 else m) 0 es e ∙ ap (λ m. m + 1) t.count ∙ sym longer;
      past_plan = omega (arith, t.past_plan, plan, longer);
      past_run = omega (arith, t.past_run, run, longer);
      act = λ r. rw (read-push (λ a f. unwrap_or (says_act r f) a) None es e, at r, plan, longer)
          (by-cases (r == n) (λ q. unwrap_or (only_if (r == n) (Some act)) (act_of r es) ≡ (if nat_le old.of_plan r && nat_lt r (n + 1) then Some q.act else None)) x (request_at old.all.items r)
          (λ g. rw (g, last_in old.of_plan r n t.past_plan g) refl) (λ g. rw (g, other_in old.of_plan r n g) (t.act r)));
      of_run = λ r. rw (read-push (λ a f. unwrap_or (says_of_run r f) a) false es e, run, longer)
          (by-cases (r == n) (λ b. unwrap_or (only_if (r == n) true) (is_of_run r es) ≡ (nat_le old.of_run r && nat_lt r (n + 1))) true false
          (λ g. rw (g, last_in old.of_run r n t.past_run g) refl) (λ g. rw (g, other_in old.of_run r n g) (t.of_run r)));
      confirms = λ r. rw (read-push (λ a f. unwrap_or (says_confirm r f) a) None es e, at r) (by-cases (r == n) (λ q. confirmed r es ≡ q.confirmed) x (request_at old.all.items r) (λ g. t.confirms r ∙ ap (λ q. q.confirmed) (old_is r g)) (λ g. t.confirms r));
      leaves = λ r. rw (read-push (λ told f. told || leaves_unserved r f) false es e, at r) (by-cases (r == n) (λ q. (is_unserved r es || false) ≡ q.unserved) x (request_at old.all.items r) (λ g. or-false _ ∙ t.leaves r ∙ ap (λ q. q.unserved) (old_is r g)) (λ g. or-false _ ∙ t.leaves r));
      firsts = λ r. rw (read-push (λ xs f. with_last xs (says_offer r f)) [] es e, at r) (by-cases (r == n) (λ q. first_offer (offers r es) ≡ q.first) x (request_at old.all.items r) (λ g. t.firsts r ∙ ap (λ q. q.first) (old_is r g)) (λ g. t.firsts r));
      finishes = λ r. rw (read-push (λ a f. unwrap_or (says_finish r f) a) None es e, at r) (by-cases (r == n) (λ q. finish_of r es ≡ q.finish) x (request_at old.all.items r) (λ g. t.finishes r ∙ ap (λ q. q.finish) (old_is r g)) (λ g. t.finishes r));
    }

-- the same of an entry that is a request and speaks of the next number
pub tells-asked : (es : List Entry) (e : Entry) (r act : ℕ) (old new : Requests) → TellsRequests es old
    → e.what ≡ event.Request r act
    → speaks_of (length old.all.items) e.what ≡ true
    → new.of_plan ≡ old.of_plan
    → new.of_run ≡ old.of_run
    → new.all.items ≡ old.all.items ++ asked_for act ∷ []
    → TellsRequests (es ++ e ∷ []) new
tells-asked es e r act old new t is speaks plan run all =
    let number : r ≡ length old.all.items = eqb-true r (length old.all.items) (sym (ap (speaks_of (length old.all.items)) is) ∙ speaks) in
    let what : event.Request (length old.all.items) act ≡ e.what = sym (is ∙ ap (λ n. event.Request n act) number) in
    subst (λ w. TellsRequests (es ++ record { hand = e.hand; what = w } ∷ []) new) what (tells-request es e.hand act old new t plan run all)
