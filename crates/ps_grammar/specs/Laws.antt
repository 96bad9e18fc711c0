-- What the faults of texts are to each other and to what follows them.
use Rattle.std.specs.Prelude.{◌≡◌, ℕ, ◌+◌, List, take}
use Rattle.ps_grammar.specs.Shape.{Derives, IsDomainShape, IsShallow, IsShallowFrom, IsFirstFaultFrom, Refuses}
use Rattle.ps_grammar.specs.declared.marks.Mark.{Mark}
use Rattle.ps_grammar.specs.declared.symbols.Symbol.{Symbol}
use Rattle.ps_grammar.specs.declared.faults.ShapeFault.{ShapeFault}
use Rattle.ps_grammar.specs.declared.faults.ShapeFault.TheVariants.{Unsupported, Depth, Unexpected}

-- how many marks tell the fault: where a parenthesis opens too many levels, the mark after it may have told that an effect stands alone, and
-- where a mark fits nothing, the mark after it might have told `either`
abbrev pub told_by : ShapeFault → ℕ
told_by (Unsupported at what) = at + 1
told_by (Depth at) = at + 2
told_by (Unexpected at) = at + 2

-- A fault is one whatever follows the marks that tell it.
abbrev pub FaultsAreTold : Type 0
FaultsAreTold = (r : ShapeFault) (ms others : List Mark) → take (told_by r) ms ≡ take (told_by r) others → Refuses r ms → Refuses r others

-- A text has one fault at most.
abbrev pub FaultsAreFirst : Type 0
FaultsAreFirst = (r s : ShapeFault) (ms : List Mark) → Refuses r ms → Refuses s ms → r ≡ s

-- A text with a fault is no domain's, or too deep.
abbrev pub FaultsAreReal : Type 0
FaultsAreReal = (r : ShapeFault) (ms : List Mark) → Refuses r ms → IsDomainShape ms → IsShallow ms → ⊥

-- Marks have one first fault at most, whatever is wanted.
abbrev pub FirstFaultsAreOne : Type 0
FirstFaultsAreOne = (start : List Symbol) (ms : List Mark) (a b : ℕ) → IsFirstFaultFrom start ms a → IsFirstFaultFrom start ms b → a ≡ b

-- Marks with a first fault aren't derived from what is wanted, or are too deep.
abbrev pub FirstFaultsAreReal : Type 0
FirstFaultsAreReal = (start : List Symbol) (ms : List Mark) (at : ℕ) → IsFirstFaultFrom start ms at → Derives start ms → IsShallowFrom start ms → ⊥
