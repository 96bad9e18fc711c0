-- What a text's tokens and its fault are to each other.
use Rattle.std.specs.Prelude.{◌≡◌, ℕ, List, All, IsSome}
use Rattle.ps_text.specs.Tokens.{AreTokens, IsFirstFault, class_of}
use Rattle.ps_text.specs.Words.{words}
use Rattle.ps_text.specs.declared.lexing.LexRefusal.{LexRefusal}
use Rattle.ps_text.specs.declared.lexing.Token.{Token}

-- A text has one list of tokens at most.
abbrev pub TokensAreOne : Type 0
TokensAreOne = (bytes : List ℕ) (ts us : List Token) → AreTokens bytes ts → AreTokens bytes us → ts ≡ us

-- A text has one first fault at most.
abbrev pub FaultsAreOne : Type 0
FaultsAreOne = (bytes : List ℕ) (at other : ℕ) (f g : LexRefusal) → IsFirstFault bytes at f → IsFirstFault bytes other g → (at ≡ other) × (f ≡ g)

-- A text with a fault has no list of tokens.
abbrev pub TokensAreFaultless : Type 0
TokensAreFaultless = (bytes : List ℕ) (at : ℕ) (f : LexRefusal) (ts : List Token) → IsFirstFault bytes at f → AreTokens bytes ts → ⊥

-- A text all of whose words have a class has tokens.
abbrev pub TextsHaveTokens : Type 0
TextsHaveTokens = (bytes : List ℕ) → All (λ word. IsSome (class_of word)) (words bytes) → (ts : List Token) × AreTokens bytes ts
