-- One mark, where some symbols are wanted.
use Rattle.std.specs.Prelude.{◌≡◌, ℕ, ◌⊎◌, List, Option, None, Some, slice_get}
use Rattle.ps_grammar.specs.Forms.{unsupported, told_at, opened_at}
use Rattle.ps_grammar.specs.Shape.{next_wanted, OpensTooMany}
use Rattle.ps_grammar.specs.declared.marks.Mark.{Mark}
use Rattle.ps_grammar.specs.declared.symbols.Symbol.{Symbol}
use Rattle.ps_grammar.specs.declared.faults.Form.{Form}
use Rattle.ps_grammar.specs.declared.faults.ShapeFault.{ShapeFault}
use Rattle.ps_grammar.specs.declared.faults.ShapeFault.TheVariants.{Unsupported, Depth, Unexpected}

-- the mark opens a level too many
abbrev pub IsOver : List Symbol → Mark → Type 0
IsOver st m = OpensTooMany st (Some m)

-- the mark fits, and these symbols are wanted after it
abbrev pub Passes : List Symbol → Mark → List Symbol → Type 0
Passes st m new = (next_wanted st m ≡ Some new) × (IsOver st m → ⊥)

-- the mark opens a level too many, or doesn't fit
abbrev pub Stops : List Symbol → Mark → Type 0
Stops st m = IsOver st m ⊎ (next_wanted st m ≡ None)

-- the unsupported form that the mark begins if it doesn't fit; the last argument is the mark after it
abbrev pub form_of : List Symbol → Mark → Option Mark → Option Form
form_of st m after = unsupported (slice_get st 0) m after

-- this is the fault at the mark
abbrev pub Fails : List Symbol → Mark → Option Mark → ℕ → ShapeFault → Type 0
Fails st m after at (Unsupported place what) = (place ≡ told_at what at) × (next_wanted st m ≡ None) × (IsOver st m → ⊥) × (form_of st m after ≡ Some what)
Fails st m after at (Depth place) = (place ≡ opened_at (slice_get st 0) at) × IsOver st m
Fails st m after at (Unexpected place) = (place ≡ at) × (next_wanted st m ≡ None) × (IsOver st m → ⊥) × (form_of st m after ≡ None)
