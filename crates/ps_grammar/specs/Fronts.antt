-- Where a list first leaves a language.
use Rattle.std.specs.Prelude.{◌≡◌, ℕ, ◌+◌, ◌<◌, ◌≤◌, List, ◌++◌, length, take}

-- some text of the language begins so
abbrev pub IsFront : {T : Type 0} → (List T → Type 0) → List T → Type 0
IsFront {T} L ts = (more : List T) × L (ts ++ more)

-- The text isn't of the language, and this is the place of its first item that fits nothing, or its length where more is wanted.
pub record IsFirstMisfit {T : Type 0} (L : List T → Type 0) (ts : List T) (at : ℕ) : Type 0 where
  pub within : at ≤ length ts
  pub before : IsFront L (take at ts)
  pub here : at < length ts → IsFront L (take (at + 1) ts) → ⊥
  pub end : at ≡ length ts → L ts → ⊥
