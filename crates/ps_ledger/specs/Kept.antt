-- What is kept of a journal, and how an entry more changes it.
use Rattle.std.specs.Prelude.{◌≡◌, ℕ, ◌-◌, nat_lt, if◌then◌else◌, List, [], ◌∷◌, ◌++◌, length, slice_set}
use Rattle.std.specs.Global.{Vec}
use Rattle.std.specs.Vec.{vec_capacity, vec_len}
use Rattle.ps_machine.specs.declared.journal.CancelWhy.{CancelWhy}
use Rattle.ps_machine.specs.declared.journal.Event.{Event}
use Rattle.ps_machine.specs.declared.journal.Entry.{Entry}
use Rattle.ps_rules.specs.History.{cancels}

-- this is what a journal says, of which this tells
abbrev pub Reads : {A B : Type 0} → (List Entry → A → Type 0) → A → B → (List Entry → B) → Type 0
Reads Tells kept b says = (es : List Entry) → Tells es kept → b ≡ says es

-- what tells of a journal before this event tells of it after the event
abbrev pub Takes : {A : Type 0} → (List Entry → A → Type 0) → Event → A → A → Type 0
Takes Tells event old new =
    (es : List Entry) (e : Entry) → e.what ≡ event → Tells es old → Tells (es ++ e ∷ []) new

-- what tells of a journal before the cancel of an act tells of it after that
abbrev pub TakesCancel : {A : Type 0} → (List Entry → A → Type 0) → ℕ → A → A → Type 0
TakesCancel Tells act old new =
    (es : List Entry) (hand : ℕ) (why : CancelWhy) → Tells es old → Tells (es ++ cancels hand why act ∷ []) new

-- what tells of a journal still does
abbrev pub Keeps : {A : Type 0} → (List Entry → A → Type 0) → A → A → Type 0
Keeps Tells old new = (es : List Entry) → Tells es old → Tells es new

-- for how many items more there is memory in a vector
abbrev pub room_left : {A : Type 0} → Vec A → ℕ
room_left v = vec_capacity v - vec_len v

-- a list with another item at this place, where it has the place
abbrev pub put : {A : Type 0} → List A → ℕ → A → List A
put xs at x = if nat_lt at (length xs) then slice_set xs at x else xs
