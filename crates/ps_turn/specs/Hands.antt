-- Lists of entries, by the hands that made them.
use Rattle.std.specs.Prelude.{◌≡◌, ℕ, ◌<◌, ◌≤◌, ◌==◌, List, ◌++◌}
use Rattle.std.specs.List.{filter, All}
use Rattle.ps_machine.specs.declared.journal.Entry.{Entry}

-- the entries that a hand made, in their order
abbrev pub of_hand : ℕ → List Entry → List Entry
of_hand hand es = filter (λ e. e.hand == hand) es

-- a list of entries begins with these
abbrev pub IsBeginning : List Entry → List Entry → Type 0
IsBeginning front es = (more : List Entry) × (es ≡ front ++ more)

-- after what was there before come entries of this hand and of no other
abbrev pub GoesOnBy : ℕ → List Entry → List Entry → Type 0
GoesOnBy hand before after = (more : List Entry) × (after ≡ before ++ more) × All (λ e. e.hand ≡ hand) more

-- after what was there before come entries of the hands from 1 to this one and of no other
abbrev pub GoesOnByHands : ℕ → List Entry → List Entry → Type 0
GoesOnByHands last before after = (more : List Entry) × (after ≡ before ++ more) × All (λ e. (0 < e.hand) × (e.hand ≤ last)) more
