-- What is kept of the answers to requests: for each request a row, and in it a place for each performer.
use Rattle.std.specs.Prelude.{◌≡◌, ℕ, ◌≤◌, ◌&&◌, ◌||◌, nat_lt, Bool, true, false, None, is_some, List, length, replicate, slice_index_or}
use Rattle.ps_world.specs.declared.names.Name.{Name}
use Rattle.ps_machine.specs.declared.journal.Event.{Event}
use Rattle.ps_machine.specs.declared.journal.Event.TheVariants as event
use Rattle.ps_machine.specs.declared.journal.Entry.{Entry}
use Rattle.ps_rules.specs.Auctions.{has_answered, has_offered, is_rejected, pass_of, requests}
use Rattle.ps_ledger.specs.Kept.{room_left, put}
use Rattle.ps_ledger.specs.Members.{at_name, place_in, with_named}
use Rattle.ps_ledger.specs.declared.answers.Answer.{Answer}
use Rattle.ps_ledger.specs.declared.answers.Answers.{Answers}

-- no answer
abbrev pub no_answer : Answer
no_answer = record { offered = false; passed = None; rejected = false }

-- whether it is an offer or a pass
abbrev pub is_given : Answer → Bool
is_given a = a.offered || is_some a.passed

-- the row of a request
abbrev pub row_at : List (List Answer) → ℕ → List Answer
row_at rows r = slice_index_or rows r (replicate 64 no_answer)

-- what a performer, one of these names, answered to a request
abbrev pub answer_at : List Name → List (List Answer) → ℕ → Name → Answer
answer_at names rows r p = at_name names (row_at rows r) p no_answer

-- the rows with another answer of a performer to a request
abbrev pub with_answer : List Name → List (List Answer) → ℕ → Name → Answer → List (List Answer)
with_answer names rows r p a = put rows r (with_named names (row_at rows r) p a)

-- there is a row for each request
pub record TellsRows (es : List Entry) (l : Answers) : Type 0 where
  pub count : requests es ≡ length l.rows.items

-- What is kept of an answer of these performers is what the entries tell of it, and nothing where there is none.
pub record TellsAnswers (names : List Name) (es : List Entry) (l : Answers) : Type 0 where
  pub wide : (r : ℕ) → length (row_at l.rows.items r) ≡ 64
  pub answers : (r : ℕ) (p : Name) → has_answered r p es ≡ is_given (answer_at names l.rows.items r p)
  pub offers : (r : ℕ) (p : Name) → has_offered r p es ≡ (answer_at names l.rows.items r p).offered
  pub passes : (r : ℕ) (p : Name) → pass_of r p es ≡ (answer_at names l.rows.items r p).passed
  pub rejects : (r : ℕ) (p : Name) → is_rejected r p es ≡ (answer_at names l.rows.items r p).rejected

-- whether there is a place for the answer of a performer to a request
abbrev pub has_answer : List Name → List (List Answer) → ℕ → Name → Bool
has_answer names rows r p =
    nat_lt r (length rows) && (nat_lt (place_in names p) (length names) && nat_lt (place_in names p) 64)

-- whether an event speaks of requests and performers that are there, where it speaks of answers
abbrev pub speaks_of_answers : List Name → List (List Answer) → Event → Bool
speaks_of_answers names rows (event.Offer r p) = has_answer names rows r p
speaks_of_answers names rows (event.Pass r p why) = has_answer names rows r p
speaks_of_answers names rows (event.Reject r p) = has_answer names rows r p
speaks_of_answers names rows e = true

-- there is memory for the answers to so many requests more
abbrev pub HasRows : ℕ → Answers → Type 0
HasRows n l = n ≤ room_left l.rows
