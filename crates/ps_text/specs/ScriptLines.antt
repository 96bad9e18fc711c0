-- The lines of a script.
use Rattle.std.specs.Prelude.{◌≡◌, ℕ, ◌-◌, ◌<◌, Bool, false, not, ◌&&◌, ◌==◌, List, [], ◌∷◌, if◌then◌else◌, length, slice_index_or}
use Rattle.ps_world.specs.Lines.{lines_of}

-- whether a text begins with an LF
abbrev pub ends_at_once : List ℕ → Bool
ends_at_once [] = false
ends_at_once (b ∷ bs) = b == 10

-- a text without each CR that stands right before an LF
abbrev pub without_returns : List ℕ → List ℕ
without_returns [] = []
without_returns (b ∷ bs) = if b == 13 && ends_at_once bs then without_returns bs else b ∷ without_returns bs

-- the lines of a script: a line ends at LF, a CR before that LF is dropped, and the last line needs no LF
abbrev pub script_lines : List ℕ → List (List ℕ)
script_lines text = lines_of (without_returns text)

-- a CR stands right before the LF at this place, in a line that begins at the first one
abbrev pub HasReturn : List ℕ → ℕ → ℕ → Type 0
HasReturn bytes from to = (from < to) × (to < length bytes) × (slice_index_or bytes (to - 1) 0 ≡ 13)

-- four bytes stand first of which none is an LF
abbrev pub begins_with_four : List ℕ → Bool
begins_with_four (a ∷ b ∷ c ∷ d ∷ bs) = (not (a == 10) && not (b == 10)) && (not (c == 10) && not (d == 10))
begins_with_four _ = false
