-- The tokens of a text: its words, each with its class and its place.
use Rattle.std.specs.Prelude.{◌≡◌, ℕ, ◌<◌, ◌≤◌, Bool, false, ◌&&◌, ◌||◌, ◌==◌, List, [], ◌∷◌, ◌++◌, if◌then◌else◌, map, length, take, drop, slice_range, codes, Option, Some, None, Result, Err, is_ok, All, IsSome}
use Rattle.std.specs.Char.{is_ascii_digit}
use Rattle.std.specs.List.{AllPairs}
use Rattle.std.specs.Option.{ok_or}
use Rattle.ps_world.specs.Lines.{same_text}
use Rattle.ps_text.specs.Decimals.{number_of}
use Rattle.ps_text.specs.Names.{is_name}
use Rattle.ps_text.specs.Words.{pieces, words}
use Rattle.ps_text.specs.declared.lexing.Class.{Class}
use Rattle.ps_text.specs.declared.lexing.Class.TheVariants as class
use Rattle.ps_text.specs.declared.lexing.LexRefusal.{LexRefusal}
use Rattle.ps_text.specs.declared.lexing.LexRefusal.TheVariants as refusal
use Rattle.ps_text.specs.declared.lexing.Token.{Token}
use Rattle.ps_text.specs.declared.spans.Span.{Span}

-- ---- the class of a word

-- one of `+ * / = < > -`
abbrev pub is_sign_byte : ℕ → Bool
is_sign_byte b = (b == 43 || b == 42 || b == 47) || (b == 61 || b == 60 || b == 62 || b == 45)

-- one of `+ * / = < > <= >= -`
abbrev pub is_sign : List ℕ → Bool
is_sign [] = false
is_sign (b ∷ []) = is_sign_byte b
is_sign (b ∷ c ∷ bs) = same_text (b ∷ c ∷ bs) (codes "<=") || same_text (b ∷ c ∷ bs) (codes ">=")

-- whether a word is this byte and then a name
abbrev pub is_marked : ℕ → List ℕ → Bool
is_marked mark [] = false
is_marked mark (b ∷ bs) = b == mark && is_name bs

-- whether a text begins with a digit
abbrev pub begins_digit : List ℕ → Bool
begins_digit [] = false
begins_digit (b ∷ bs) = is_ascii_digit b

-- whether a word begins with a digit, or with `-` and a digit
abbrev pub begins_number : List ℕ → Bool
begins_number [] = false
begins_number (b ∷ bs) = if b == 45 then begins_digit bs else is_ascii_digit b

-- the class of a word, which is the first that fits
abbrev pub class_of : List ℕ → Option Class
class_of word =
    if same_text word (codes "(") then Some class.LeftParen
    else (if same_text word (codes ")") then Some class.RightParen
    else (if is_sign word then Some class.Sign
    else (if is_marked 63 word then Some class.Variable
    else (if is_marked 58 word then Some class.Keyword
    else (if begins_number word then (if is_ok (number_of word) then Some class.Number else None)
    else (if same_text word (codes "#t") then Some class.Continuous
    else (if is_name word then Some class.Name else None)))))))

-- the fault of a word at a place that has no class
abbrev pub fault_of_word : ℕ → List ℕ → LexRefusal
fault_of_word at word = if begins_number word then refusal.Number at else refusal.Bad at

-- the class of a word at a place, or its fault
abbrev pub class_at : ℕ → List ℕ → Result Class LexRefusal
class_at at word = ok_or (class_of word) (fault_of_word at word)

-- ---- words at their places

-- no word stands from one place of a text up to another, however far the text goes on
abbrev pub IsGap : List ℕ → ℕ → ℕ → Type 0
IsGap bytes from to = (end : ℕ) → to ≤ end → words (slice_range bytes from end) ≡ words (slice_range bytes to end)

-- a span marks the first word of what stands from its place on, however far the text goes on
abbrev pub IsFirstWord : List ℕ → Span → Type 0
IsFirstWord bytes s = (end : ℕ) → s.to ≤ end → words (slice_range bytes s.from end) ≡ slice_range bytes s.from s.to ∷ words (slice_range bytes s.to end)

-- a span marks the next word from a place on
pub record IsNextWord (bytes : List ℕ) (from : ℕ) (s : Span) : Type 0 where
  pub later : from ≤ s.from
  pub longer : s.from < s.to
  pub within : s.to ≤ length bytes
  pub gap : IsGap bytes from s.from
  pub word : IsFirstWord bytes s

-- a piece of a text is one of its words: the words are those before the piece, the piece, and those after it
pub record IsWordAt (bytes : List ℕ) (from to : ℕ) : Type 0 where
  pub longer : from < to
  pub within : to ≤ length bytes
  pub parts : words bytes ≡ words (take from bytes) ++ slice_range bytes from to ∷ words (drop to bytes)

-- ---- tokens

-- the span of a token
abbrev pub span_of : Token → Span
span_of t = record { from = t.from; to = t.to }

-- tokens are the words of a text, each at its place and with its class
pub record AreTokens (bytes : List ℕ) (tokens : List Token) : Type 0 where
  pub marked : pieces bytes (map span_of tokens) ≡ words bytes
  pub classed : map class_of (words bytes) ≡ map (λ t. Some t.class) tokens
  pub placed : All (λ t. IsWordAt bytes t.from t.to) tokens
  pub in_order : AllPairs (λ a b. a.to ≤ b.from) tokens

-- the word at a place is the first of a text without a class, and this is its fault
pub record IsFirstFault (bytes : List ℕ) (at : ℕ) (fault : LexRefusal) : Type 0 where
  pub to : ℕ
  pub placed : IsWordAt bytes at to
  pub before : All (λ word. IsSome (class_of word)) (words (take at bytes))
  pub fault_is : class_at at (slice_range bytes at to) ≡ Err fault

-- a refusal tells the first word without a class
abbrev pub RefusesText : LexRefusal → List ℕ → Type 0
RefusesText (refusal.Bad at) bytes = IsFirstFault bytes at (refusal.Bad at)
RefusesText (refusal.Number at) bytes = IsFirstFault bytes at (refusal.Number at)
