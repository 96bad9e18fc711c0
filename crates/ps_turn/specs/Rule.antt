-- What is true of the table and of all views between any two steps.
use Rattle.std.specs.Prelude.{◌≡◌, ℕ, ◌<◌, ◌≤◌, ◌⊎◌, true, List, [], ◌∷◌, Option, Some, None}
use mathlib.Core.Option.{Option as Home, some}
use lib.ListN.{get_elem?}
use Rattle.atomic_table.specs.Table.{State}
use Rattle.ps_machine.specs.declared.inputs.Input.{Input}
use Rattle.ps_machine.specs.declared.journal.Entry.{Entry}
use Rattle.ps_turn.specs.Hands.{of_hand, IsBeginning, GoesOnByHands}
use Rattle.ps_turn.specs.declared.view.Note.{Note}
use Rattle.ps_turn.specs.declared.view.View.{View}

-- what a book is founded on: its number of seats, and the history and the input of its first value
pub record Founded : Type 0 where
  pub seats : ℕ
  pub base : List Entry
  pub input : Input

-- a hand that was dealt has seen a beginning of the history, which goes on from the opening history, and knows which of its entries are its own
pub record Known (base : List Entry) (made : ℕ) (log : List Entry) (hand : ℕ) (seen mine : List Entry) : Type 0 where
  pub live : 0 < hand
  pub dealt : hand ≤ made
  pub opened : IsBeginning base seen
  pub begins : IsBeginning seen log
  pub own : mine ≡ of_hand hand log

-- each note is of a hand that is known
abbrev pub AreKnown : List Entry → ℕ → List Entry → List Note → Type 0
AreKnown base made log [] = Unit {0}
AreKnown base made log (note ∷ notes) = Known base made log note.hand note.seen note.mine × AreKnown base made log notes

-- some note is of this hand
abbrev pub HasNote : ℕ → List Note → Type 0
HasNote hand [] = ⊥
HasNote hand (note ∷ notes) = (note.hand ≡ hand) ⊎ HasNote hand notes

-- no two notes are of one hand
abbrev pub AreApart : List Note → Type 0
AreApart [] = Unit {0}
AreApart (note ∷ notes) = (HasNote note.hand notes → ⊥) × AreApart notes

-- the hand is that of a seat, or some seat has a note of it
pub record Stands (hand : ℕ) (views : List View) : Type 0 where
  pub id : ℕ
  pub view : View
  pub at : get_elem? views id ≡ some view
  pub live : 0 < view.hand
  pub has : (view.hand ≡ hand) ⊎ HasNote hand view.notes

-- some seat has the turn
pub record IsTaken (turn : ℕ) (views : List View) : Type 0 where
  pub id : ℕ
  pub view : View
  pub at : get_elem? views id ≡ some view
  pub hand_is : view.hand ≡ turn
  pub holds : view.holds ≡ true

module _ {X : Type 0} where
  -- The view of a seat fits the history: if it holds the turn, the turn has its hand and it has seen all.
  pub record Fits (founded : Founded) (turn : ℕ) (home : Home (Option X)) (log : List Entry) (made : ℕ) (v : View) : Type 0 where
    pub known : Known founded.base made log v.hand v.seen v.mine
    pub notes : AreKnown founded.base made log v.notes
    pub of_input : v.input ≡ Some founded.input
    pub holding : v.holds ≡ true → (v.hand ≡ turn) × (v.seen ≡ log)
    pub opening : v.opening ≡ true → (v.holds ≡ true) × (home ≡ some None)
    pub dealer : v.hand ≡ 1 → v.made ≡ made

  -- the value is at home, with this history and the input of the book
  pub record AtHome (history : X → List Entry) (input : X → Input) (founded : Founded) (home : Home (Option X)) (log : List Entry) : Type 0 where
    pub value : X
    pub there : home ≡ some (Some value)
    pub history_is : history value ≡ log
    pub input_is : input value ≡ founded.input

  -- Where the turn is 0 the value is at home, and else a seat has the turn. Each hand that was dealt stands once: no two seats have one hand, a seat's
  -- notes are of hands that no seat has, and no two notes are of one hand.
  pub record Kept (history : X → List Entry) (input : X → Input) (founded : Founded) (turn : ℕ) (home : Home (Option X)) (log : List Entry) (made : ℕ) (views : List View) : Type 0 where
    pub few : made ≤ founded.seats
    pub idle : turn ≡ 0 → AtHome history input founded home log
    pub taken : (turn ≡ 0 → ⊥) → IsTaken turn views
    pub each : (id : ℕ) (v : View) → get_elem? views id ≡ some v → 0 < v.hand → Fits founded turn home log made v
    pub stands : (hand : ℕ) → 0 < hand → hand ≤ made → Stands hand views
    pub apart : (i j : ℕ) (v w : View) → get_elem? views i ≡ some v → get_elem? views j ≡ some w → 0 < v.hand → v.hand ≡ w.hand → i ≡ j
    pub noted : (i j : ℕ) (v w : View) → get_elem? views i ≡ some v → get_elem? views j ≡ some w → 0 < v.hand → 0 < w.hand → HasNote v.hand w.notes → ⊥
    pub once : (i j : ℕ) (v w : View) (hand : ℕ) → get_elem? views i ≡ some v → get_elem? views j ≡ some w → 0 < v.hand → 0 < w.hand → HasNote hand v.notes → HasNote hand w.notes → i ≡ j
    pub notes_apart : (id : ℕ) (v : View) → get_elem? views id ≡ some v → 0 < v.hand → AreApart v.notes
    pub after : GoesOnByHands made founded.base log

  -- The table's one word is the turn, and its one slot is the value's home.
  pub record Rule (history : X → List Entry) (input : X → Input) (founded : Founded) (s : State (Option X) View) : Type 0 where
    pub turn : ℕ
    pub home : Home (Option X)
    pub log : List Entry
    pub made : ℕ
    pub words_are : s.words ≡ turn ∷ []
    pub homes_are : s.homes ≡ home ∷ []
    pub kept : Kept history input founded turn home log made s.views
