-- What is kept of requests.
use Rattle.std.specs.Prelude.{◌≡◌, ℕ, ◌≤◌, nat_lt, nat_le, ◌&&◌, Bool, true, false, Option, Some, None, if◌then◌else◌, List, length, slice_index_or}
use Rattle.std.specs.Option.{option_or}
use Rattle.ps_world.specs.declared.names.Name.{Name}
use Rattle.ps_machine.specs.declared.journal.Entry.{Entry}
use Rattle.ps_rules.specs.Auctions.{act_of, confirmed, finish_of, first_offer, offers, is_of_run, is_unserved, requests}
use Rattle.ps_ledger.specs.Kept.{room_left, put}
use Rattle.ps_ledger.specs.declared.requests.Request.{Request}
use Rattle.ps_ledger.specs.declared.requests.Requests.{Requests}

-- a request of which nothing is told
abbrev pub no_request : Request
no_request = record { act = 0; first = None; confirmed = None; unserved = false; finish = None }

-- what is kept of the request with this number
abbrev pub request_at : List Request → ℕ → Request
request_at all r = slice_index_or all r no_request

-- a request for an act
abbrev pub asked_for : ℕ → Request
asked_for act = record { act = act; first = None; confirmed = None; unserved = false; finish = None }

-- the requests where one has an offer more, a performer that was confirmed, nobody who serves it, and work that is finished
abbrev pub with_offer : List Request → ℕ → Name → List Request
with_offer all r p = put all r (record (request_at all r) { first = option_or (request_at all r).first (Some p) })

abbrev pub with_confirmed : List Request → ℕ → Name → List Request
with_confirmed all r p = put all r (record (request_at all r) { confirmed = Some p })

abbrev pub with_unserved : List Request → ℕ → List Request
with_unserved all r = put all r (record (request_at all r) { unserved = true })

abbrev pub with_finish : List Request → ℕ → Bool → List Request
with_finish all r ok = put all r (record (request_at all r) { finish = Some ok })

-- whether a request is there, and isn't below this number
abbrev pub is_from : ℕ → List Request → ℕ → Bool
is_from least all r = nat_le least r && nat_lt r (length all)

-- who offered first on a request
abbrev pub first_offer_on : ℕ → List Entry → Option Name
first_offer_on r es = first_offer (offers r es)

-- What is kept of a request is what the entries tell of it, and nothing where there is none. Requests count up: so one is of the present
-- plan, of the last run, exactly where it isn't below how many there were when that began.
pub record TellsRequests (es : List Entry) (l : Requests) : Type 0 where
  pub count : requests es ≡ length l.all.items
  pub past_plan : l.of_plan ≤ length l.all.items
  pub past_run : l.of_run ≤ length l.all.items
  pub act : (r : ℕ) → act_of r es ≡ (if is_from l.of_plan l.all.items r then Some (request_at l.all.items r).act else None)
  pub of_run : (r : ℕ) → is_of_run r es ≡ is_from l.of_run l.all.items r
  pub confirms : (r : ℕ) → confirmed r es ≡ (request_at l.all.items r).confirmed
  pub leaves : (r : ℕ) → is_unserved r es ≡ (request_at l.all.items r).unserved
  pub firsts : (r : ℕ) → first_offer_on r es ≡ (request_at l.all.items r).first
  pub finishes : (r : ℕ) → finish_of r es ≡ (request_at l.all.items r).finish

-- there is memory for so many requests more
abbrev pub HasRequests : ℕ → Requests → Type 0
HasRequests n l = n ≤ room_left l.all
