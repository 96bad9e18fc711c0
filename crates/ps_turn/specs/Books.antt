-- Books and seats as contracts see them.
use Rattle.std.specs.Prelude.{◌≡◌, ℕ, ◌-◌, ◌<◌, ◌≤◌, Bool, true, false, List, refl}
use Rattle.std.specs.List.{All, Any, range_with_len}
use Rattle.std.specs.Coded.{Coded, code_by, coded×, coded_ℕ, coded_bool, coded_list}
use Rattle.atomic_table.specs.Seated.{TableId, table_id_coded}
use Rattle.ps_machine.specs.contracts.inputs.Input.{the_row as input_row}
use Rattle.ps_machine.specs.contracts.journal.Entry.{the_row as entry_row}
use Rattle.ps_machine.specs.declared.inputs.Input.{Input}
use Rattle.ps_machine.specs.declared.journal.Entry.{Entry}
use Rattle.ps_turn.specs.Hands.{of_hand, IsBeginning}

-- A book is what tells it from every other, its number of seats, and the history and the input of the value that it was opened with.
pub record Book : Type 0 where
  pub identity : TableId
  pub seats : ℕ
  pub opened : List Entry
  pub input : Input

-- a book is told from others by all four
abbrev pub book_code : Coded Book
book_code =
    code_by (TableId × (ℕ × (List Entry × Input))) (coded× table_id_coded (coded× coded_ℕ (coded× (coded_list entry_row.coded) input_row.coded)))
    (λ b. (b.identity, (b.seats, (b.opened, b.input)))) (λ t. record { identity = t.0; seats = t.1.0; opened = t.1.1.0; input = t.1.1.1 }) (λ _. refl)

-- A seat's place is its book, its hand, the history that it last saw, the entries of its hand there, and whether it holds the turn.
pub record Place : Type 0 where
  pub book : Book
  pub hand : ℕ
  pub seen : List Entry
  pub mine : List Entry
  pub holds : Bool

-- a place is told from others by all five
abbrev pub place_code : Coded Place
place_code =
    code_by (Book × (ℕ × (List Entry × (List Entry × Bool)))) (coded× book_code (coded× coded_ℕ (coded× (coded_list entry_row.coded) (coded× (coded_list entry_row.coded) coded_bool))))
    (λ p. (p.book, (p.hand, (p.seen, (p.mine, p.holds))))) (λ t. record { book = t.0; hand = t.1.0; seen = t.1.1.0; mine = t.1.1.1.0; holds = t.1.1.1.1 }) (λ _. refl)

-- the seat of a hand as a book opens with it
abbrev pub new_place : Book → ℕ → Place
new_place book hand = record { book = book; hand = hand; seen = book.opened; mine = of_hand hand book.opened; holds = false }

-- the hands of a book with this many seats, in order
abbrev pub hands : ℕ → List ℕ
hands seats = range_with_len 1 seats

-- the hands after the first
abbrev pub later_hands : ℕ → List ℕ
later_hands seats = range_with_len 2 (seats - 1)

-- the seat once it has seen this history, and holds the turn or doesn't
abbrev pub now_at : Place → List Entry → Bool → Place
now_at place log holds = record { book = place.book; hand = place.hand; seen = log; mine = of_hand place.hand log; holds = holds }

-- The history begins with what the seat saw, which begins with the opening history, and the seat's own entries are all that the history has of its hand.
pub record Agrees (base log : List Entry) (place : Place) : Type 0 where
  pub opened : IsBeginning base place.seen
  pub begins : IsBeginning place.seen log
  pub own : place.mine ≡ of_hand place.hand log

-- the seat is of this book and doesn't hold the turn
abbrev pub IsFree : Book → Place → Type 0
IsFree book place = (place.book ≡ book) × (place.holds ≡ false)

-- these are the book's seats, none is missing, and none holds the turn
abbrev pub AreAll : Book → List Place → Type 0
AreAll book places = All (IsFree book) places × ((hand : ℕ) → 0 < hand → hand ≤ book.seats → Any (λ place. place.hand ≡ hand) places)

module _ {X : Type 0} (history : X → List Entry) (input : X → Input) where
  -- the value has the history and the input that the book was opened with
  abbrev pub IsOpening : Book → X → Type 0
  IsOpening book value = (history value ≡ book.opened) × (input value ≡ book.input)

  -- A seat took the value: its history begins with what the seat saw, and the seat's own entries are all that it has of its hand.
  pub record Took (book : Book) (before : Place) (value : X) (after : Place) : Type 0 where
    pub of_input : input value ≡ book.input
    pub begins : IsBeginning before.seen (history value)
    pub own : of_hand before.hand (history value) ≡ before.mine
    pub seat : after ≡ now_at before (history value) true
