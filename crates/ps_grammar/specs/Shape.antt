-- The shape of a domain's text and of other lists of marks, and the first fault of each.
use Rattle.std.specs.Prelude.{◌≡◌, ℕ, ◌+◌, ◌≤◌, Bool, true, false, List, [], ◌∷◌, ◌++◌, ◌⊎◌, Option, None, Some, take, slice_get, unwrap_or}
use Rattle.std.specs.Option.{option_and_then}
use Rattle.ps_grammar.specs.Fronts.{IsFront, IsFirstMisfit}
use Rattle.ps_grammar.specs.Symbols.{level}
use Rattle.ps_grammar.specs.Rules.{step}
use Rattle.ps_grammar.specs.Forms.{unsupported, told_at, opens, opened_at}
use Rattle.ps_grammar.specs.declared.marks.Mark.{Mark}
use Rattle.ps_grammar.specs.declared.symbols.Symbol.{Symbol}
use Rattle.ps_grammar.specs.declared.symbols.Symbol.TheVariants.{InText}
use Rattle.ps_grammar.specs.declared.symbols.TextPart.TheVariants.{Whole}
use Rattle.ps_grammar.specs.declared.faults.Form.{Form}
use Rattle.ps_grammar.specs.declared.faults.ShapeFault.{ShapeFault}
use Rattle.ps_grammar.specs.declared.faults.ShapeFault.TheVariants.{Unsupported, Depth, Unexpected}

-- What is wanted, from left to right, derives these marks: each symbol by a rule, from its first mark on.
pub data Derives : List Symbol → List Mark → Type 0 where
  nothing : Derives [] []
  by_rule : (s : Symbol) (st : List Symbol) (m : Mark) (ms : List Mark) (new : List Symbol) → step s m ≡ Some new → Derives (new ++ st) ms → Derives (s ∷ st) (m ∷ ms)

-- what a domain's text begins with
abbrev pub text_start : List Symbol
text_start = InText Whole ∷ []

-- the marks are those of a domain's text
abbrev pub IsDomainShape : List Mark → Type 0
IsDomainShape ms = Derives text_start ms

-- what is wanted after one mark more
abbrev pub next_wanted : List Symbol → Mark → Option (List Symbol)
next_wanted [] m = None
next_wanted (s ∷ st) m = option_and_then (λ new. Some (new ++ st)) (step s m)

-- what is wanted after these marks more
abbrev pub run : List Symbol → List Mark → Option (List Symbol)
run st [] = Some st
run st (m ∷ ms) = option_and_then (λ next. run next ms) (next_wanted st m)

-- what is wanted after these marks, where these symbols were wanted before them
abbrev pub wanted_from : List Symbol → List Mark → List Symbol
wanted_from start ms = unwrap_or (run start ms) []

-- what is wanted after the marks that begin a domain's text
abbrev pub wanted : List Mark → List Symbol
wanted ms = wanted_from text_start ms

-- how many levels of parentheses may stand open
abbrev pub deepest : ℕ
deepest = 64

-- the mark, if there is one, opens a level where these symbols are wanted
abbrev pub opens_level : List Symbol → Option Mark → Bool
opens_level st None = false
opens_level st (Some m) = opens (slice_get st 0) m

-- and it opens one level too many
abbrev pub OpensTooMany : List Symbol → Option Mark → Type 0
OpensTooMany st m = (opens_level st m ≡ true) × (deepest ≤ level st)

-- the mark here opens one level too many, where these symbols were wanted before the marks
abbrev pub IsTooDeepFrom : List Symbol → List Mark → ℕ → Type 0
IsTooDeepFrom start ms at = OpensTooMany (wanted_from start (take at ms)) (slice_get ms at)

-- no mark opens too many levels, where these symbols were wanted before the marks
abbrev pub IsShallowFrom : List Symbol → List Mark → Type 0
IsShallowFrom start ms = (at : ℕ) → IsTooDeepFrom start ms at → ⊥

-- The marks before begin what the symbols derive and open no level too many, and the mark here opens one, or is the first that fits nothing, or more is wanted.
pub record IsFirstFaultFrom (start : List Symbol) (ms : List Mark) (at : ℕ) : Type 0 where
  pub before : IsFront (Derives start) (take at ms)
  pub shallow : IsShallowFrom start (take at ms)
  pub here : IsTooDeepFrom start ms at ⊎ IsFirstMisfit (Derives start) ms at

-- the mark here opens one level too many
abbrev pub IsTooDeep : List Mark → ℕ → Type 0
IsTooDeep ms at = IsTooDeepFrom text_start ms at

-- no mark opens too many levels
abbrev pub IsShallow : List Mark → Type 0
IsShallow ms = IsShallowFrom text_start ms

-- the unsupported form that the mark here begins, if it doesn't fit
abbrev pub form_here : List Mark → ℕ → Option Form
form_here ms at = option_and_then (λ m. unsupported (slice_get (wanted (take at ms)) 0) m (slice_get ms (at + 1))) (slice_get ms at)

-- The mark here is the first that doesn't fit, no mark up to it opens too many levels, and it begins an unsupported form.
pub record IsUnsupported (ms : List Mark) (at : ℕ) (what : Form) : Type 0 where
  pub misfit : IsFirstMisfit IsDomainShape ms at
  pub shallow : IsShallow (take (at + 1) ms)
  pub form : form_here ms at ≡ Some what

-- The marks before begin a domain's text, and the mark here is the first that opens too many levels.
pub record IsDepth (ms : List Mark) (at : ℕ) : Type 0 where
  pub before : IsFront IsDomainShape (take at ms)
  pub shallow : IsShallow (take at ms)
  pub deep : IsTooDeep ms at

-- The mark here is the first that doesn't fit, or more is wanted; no mark up to it opens too many levels, and it begins no unsupported form.
pub record IsUnexpected (ms : List Mark) (at : ℕ) : Type 0 where
  pub misfit : IsFirstMisfit IsDomainShape ms at
  pub shallow : IsShallow (take (at + 1) ms)
  pub supported : form_here ms at ≡ None

-- this is the first fault of the marks
abbrev pub Refuses : ShapeFault → List Mark → Type 0
Refuses (Unsupported at what) ms = (begins : ℕ) × (at ≡ told_at what begins) × IsUnsupported ms begins what
Refuses (Depth at) ms = (over : ℕ) × (at ≡ opened_at (slice_get (wanted (take over ms)) 0) over) × IsDepth ms over
Refuses (Unexpected at) ms = IsUnexpected ms at
