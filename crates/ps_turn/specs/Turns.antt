-- Views, and what each step tells the seat that takes it.
use Rattle.std.specs.Prelude.{◌≡◌, ℕ, ◌+◌, Bool, true, false, List, [], ◌∷◌, Option, Some, None}
use Rattle.atomic_table.specs.Table.{Step, Me}
use Rattle.ps_machine.specs.declared.inputs.Input.{Input}
use Rattle.ps_machine.specs.declared.journal.Entry.{Entry}
use Rattle.ps_turn.specs.Hands.{of_hand, IsBeginning}
use Rattle.ps_turn.specs.Rule.{Founded}
use Rattle.ps_turn.specs.declared.view.Note.{Note}
use Rattle.ps_turn.specs.declared.view.View.{View}

-- The first seat has hand 1, has the turn before the value is there, and has dealt this many hands, its own among them.
abbrev pub dealing : Founded → ℕ → View
dealing founded made =
    record { hand = 1; seen = founded.base; mine = of_hand 1 founded.base; input = Some founded.input; holds = true; opening = true; made = made; notes = [] }

-- the first seat as the table is made
abbrev pub opener : Founded → View
opener founded = dealing founded 1

-- the seat that deals has dealt one more
abbrev pub dealer : View → View
dealer v = record v { made = v.made + 1 }

-- a new seat has the next hand, and has seen what the dealer has
abbrev pub newcomer : View → View
newcomer v =
    record { hand = v.made + 1; seen = v.seen; mine = of_hand (v.made + 1) v.seen; input = v.input; holds = false; opening = false; made = 0; notes = [] }

-- what is left of a seat that was joined to another: no hand
abbrev pub spent : View
spent = record { hand = 0; seen = []; mine = []; input = None; holds = false; opening = false; made = 0; notes = [] }

-- a seat's view as a note
abbrev pub note_of : View → Note
note_of v = record { hand = v.hand; seen = v.seen; mine = v.mine }

-- the seat with one more note
abbrev pub with_note : View → Note → View
with_note v note = record v { notes = note ∷ v.notes }

-- the seat with a note of another
abbrev pub noting : View → View → View
noting v w = with_note v (note_of w)

-- the view once the seat has seen this history, and holds the turn or doesn't
abbrev pub told : View → List Entry → Bool → View
told v log holds = record v { seen = log; mine = of_hand v.hand log; holds = holds }

module _ {X : Type 0} where
  -- The opening ends: the empty slot is out with the seat.
  abbrev pub Begins : Step (Option X) → Me (Option X) View → ℕ → Me (Option X) View → Type 0
  Begins step me found me' = me' ≡ (record me.0 { opening = false }, (0, None) ∷ [])

  -- the value of the slot that was taken, whose history begins with what the seat saw and has no further entry of its hand
  pub record Found (history : X → List Entry) (input : X → Input) (me me' : Me (Option X) View) : Type 0 where
    pub value : X
    pub me_is : me' ≡ (told me.0 (history value) true, (0, Some value) ∷ [])
    pub of_input : me.0.input ≡ Some (input value)
    pub begins : IsBeginning me.0.seen (history value)
    pub own : me.0.mine ≡ of_hand me.0.hand (history value)

  -- the turn was free and the value is out with the seat, or it wasn't and the seat is as it was
  pub record Takes (history : X → List Entry) (input : X → Input) (step : Step (Option X)) (me : Me (Option X) View) (found : ℕ) (me' : Me (Option X) View) : Type 0 where
    pub won : found ≡ 0 → Found history input me me'
    pub lost : (found ≡ 0 → ⊥) → me' ≡ me

  -- the value is at home again, and the seat has seen its history
  abbrev pub Gives : (X → List Entry) → Step (Option X) → Me (Option X) View → ℕ → Me (Option X) View → Type 0
  Gives history step me found me' = (x : X) → me.1 ≡ (0, Some x) ∷ [] → me' ≡ (told me.0 (history x) false, [])
