-- A seat's token of the table, and what it has to do with the seat's place.
use Rattle.std.specs.Prelude.{◌≡◌, ℕ, ◌<◌, ◌≤◌, ◌⊎◌, Bool, true, false, List, [], ◌∷◌, Option, Some, None}
use Rattle.atomic_table.specs.Seated.{TableId}
use Rattle.atomic_table.specs.Table.{Me}
use Rattle.ps_machine.specs.declared.inputs.Input.{Input}
use Rattle.ps_machine.specs.declared.journal.Entry.{Entry}
use Rattle.ps_turn.specs.Books.{Book, Place}
use Rattle.ps_turn.specs.Rule.{Founded, HasNote, Known, AreKnown}
use Rattle.ps_turn.specs.Turns.{dealing}
use Rattle.ps_turn.specs.declared.view.Note.{Note}
use Rattle.ps_turn.specs.declared.view.View.{View}

-- what a book is founded on
abbrev pub founded_on : Book → Founded
founded_on book = record { seats = book.seats; base = book.opened; input = book.input }

-- a seat's place as a note
abbrev pub place_note : Place → Note
place_note place = record { hand = place.hand; seen = place.seen; mine = place.mine }

module _ {X : Type 0} where
  -- while a seat holds the turn, the empty slot is out with it
  abbrev pub slots_of : Bool → List (ℕ × Option X)
  slots_of true = (0, None) ∷ []
  slots_of false = []

  -- the token is the first seat's, of this book, which has dealt so many hands
  abbrev pub IsDealing : Book → ℕ → TableId → Me (Option X) View → Type 0
  IsDealing book made table me = (table ≡ book.identity) × (me ≡ (dealing (founded_on book) made, []))

  -- the token has the seat's hand and the book's input
  pub record IsSeated (hand : ℕ) (input : Input) (me : Me (Option X) View) : Type 0 where
    pub live : 0 < hand
    pub hand_is : me.0.hand ≡ hand
    pub input_is : me.0.input ≡ Some input
    pub filled : me.0.opening ≡ false
    pub alone : me.0.notes ≡ []
    pub slots_are : me.1 ≡ slots_of me.0.holds

-- the token of a seat that puts the others together: the seat's own, without the turn
pub record IsKeeper (place : Place) (v : View) : Type 0 where
  pub live : 0 < v.hand
  pub hand_is : v.hand ≡ place.hand
  pub seen_is : v.seen ≡ place.seen
  pub mine_is : v.mine ≡ place.mine
  pub aside : v.holds ≡ false

-- each hand from 1 to this one is the seat's own or that of one of its notes
abbrev pub HasHands : ℕ → View → Type 0
HasHands last v = (hand : ℕ) → 0 < hand → hand ≤ last → (v.hand ≡ hand) ⊎ HasNote hand v.notes

-- what the seat knows and what it has noted of others agrees with the history, which goes on from the opening history
abbrev pub Tells : List Entry → List Entry → View → Type 0
Tells base log v = (made : ℕ) × Known base made log v.hand v.seen v.mine × AreKnown base made log v.notes
