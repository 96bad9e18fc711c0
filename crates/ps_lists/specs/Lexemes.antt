-- The words of a domain's text: the mark of each, its name by its number in a table, its number and its place.
use Rattle.std.specs.Prelude.{◌≡◌, ℕ, ◌≤◌, ℤ, Option, Some, None, List, [], ◌∷◌, if◌then◌else◌, codes, drop, length, map, slice_range, pos}
use Rattle.std.specs.Result.{result_unwrap_or}
use Rattle.ps_world.specs.Lines.{same_text}
use Rattle.ps_world.specs.Names.{Table, object}
use Rattle.ps_world.specs.declared.names.Name.{Name}
use Rattle.ps_text.specs.Names.{folded, interned, place_of}
use Rattle.ps_text.specs.Tokens.{class_of}
use Rattle.ps_text.specs.Words.{reads_as}
use Rattle.ps_text.specs.Decimals.{number_of}
use Rattle.ps_text.specs.declared.lexing.Class.{Class}
use Rattle.ps_text.specs.declared.lexing.Class.TheVariants as class
use Rattle.ps_text.specs.declared.lexing.Token.{Token}
use Rattle.ps_grammar.specs.declared.marks.Mark.{Mark}
use Rattle.ps_grammar.specs.declared.marks.Mark.TheVariants as mark
use Rattle.ps_lists.specs.declared.lexemes.Lexeme.{Lexeme}

-- the signs
abbrev pub signs : List (List ℕ × Mark)
signs =
    (codes "+", mark.Plus) ∷ (codes "*", mark.Times) ∷ (codes "/", mark.Divide) ∷ (codes "=", mark.Equal) ∷ (codes "<", mark.Less)
    ∷ (codes ">", mark.Greater) ∷ (codes "<=", mark.LessEqual) ∷ (codes ">=", mark.GreaterEqual) ∷ []

-- the keywords with a meaning
abbrev pub keywords : List (List ℕ × Mark)
keywords =
    (codes ":requirements", mark.Requirements) ∷ (codes ":types", mark.Types) ∷ (codes ":constants", mark.Constants)
    ∷ (codes ":predicates", mark.Predicates) ∷ (codes ":functions", mark.Functions) ∷ (codes ":durative-action", mark.DurativeAction)
    ∷ (codes ":parameters", mark.Parameters) ∷ (codes ":duration", mark.DurationKey) ∷ (codes ":condition", mark.ConditionKey)
    ∷ (codes ":effect", mark.EffectKey) ∷ (codes ":action", mark.Action) ∷ (codes ":derived", mark.Derived)
    ∷ (codes ":constraints", mark.Constraints) ∷ []

-- the names with a meaning
abbrev pub fixed_names : List (List ℕ × Mark)
fixed_names =
    (codes "define", mark.Define) ∷ (codes "domain", mark.Domain) ∷ (codes "problem", mark.Problem) ∷ (codes "at", mark.At)
    ∷ (codes "over", mark.Over) ∷ (codes "start", mark.Start) ∷ (codes "end", mark.End) ∷ (codes "all", mark.All) ∷ (codes "and", mark.And)
    ∷ (codes "not", mark.Not) ∷ (codes "or", mark.Or) ∷ (codes "imply", mark.Imply) ∷ (codes "exists", mark.Exists)
    ∷ (codes "forall", mark.Forall) ∷ (codes "when", mark.When) ∷ (codes "preference", mark.Preference) ∷ (codes "assign", mark.Assign)
    ∷ (codes "increase", mark.Increase) ∷ (codes "decrease", mark.Decrease) ∷ (codes "scale-up", mark.ScaleUp)
    ∷ (codes "scale-down", mark.ScaleDown) ∷ (codes "either", mark.Either) ∷ (codes "number", mark.NumberWord) ∷ []

-- the mark of a text in a table, or this one where it isn't there
abbrev pub mark_in : List (List ℕ × Mark) → Mark → List ℕ → Mark
mark_in [] other text = other
mark_in ((fixed, m) ∷ more) other text = if same_text text fixed then m else mark_in more other text

-- what a word of a class is to the grammar, in either case of its letters
abbrev pub mark_of : Class → List ℕ → Mark
mark_of class.LeftParen word = mark.Open
mark_of class.RightParen word = mark.Close
mark_of class.Sign word = mark_in signs mark.Minus word
mark_of class.Variable word = if reads_as word (codes "?duration") then mark.Duration else mark.Variable
mark_of class.Keyword word = mark_in keywords mark.Keyword (folded word)
mark_of class.Number word = mark.Number
mark_of class.Continuous word = mark.Continuous
mark_of class.Name word = mark_in fixed_names mark.Name (folded word)

-- the name in a word: a name itself, or a variable without its `?`
abbrev pub name_within : Class → List ℕ → Option (List ℕ)
name_within class.Name word = Some (folded word)
name_within class.Variable word = Some (folded (drop 1 word))
name_within class word = None

-- a name's number in a table, or that which it will have as its next
abbrev pub numbered : Table → Option (List ℕ) → Name
numbered t None = object
numbered t (Some name) = record { 0 = place_of t name }

-- a table with a name, if there is one
abbrev pub named : Table → Option (List ℕ) → Table
named t None = t
named t (Some name) = interned t name

-- the number that a text is, or zero
abbrev pub number_or_zero : List ℕ → ℤ
number_or_zero text = result_unwrap_or (number_of text) (pos 0)

-- a token marks a piece of this text that has its class
pub record IsTokenOf (bytes : List ℕ) (token : Token) : Type 0 where
  pub order : token.from ≤ token.to
  pub within : token.to ≤ length bytes
  pub class : class_of (slice_range bytes token.from token.to) ≡ Some token.class

-- a token of a text as a word of the domain's text
abbrev pub lexeme_of : List ℕ → Table → Token → Lexeme
lexeme_of bytes t token =
    let word = slice_range bytes token.from token.to in
    record {
      mark = mark_of token.class word;
      name = numbered t (name_within token.class word);
      number = number_or_zero word;
      at = token.from;
    }

-- the table after a token of a text
abbrev pub table_after : List ℕ → Table → Token → Table
table_after bytes t token = named t (name_within token.class (slice_range bytes token.from token.to))

-- the words of a text, and the table after them
abbrev pub lexemes_of : List ℕ → Table → List Token → List Lexeme × Table
lexemes_of bytes t [] = ([], t)
lexemes_of bytes t (token ∷ tokens) =
    let more = lexemes_of bytes (table_after bytes t token) tokens in
    (lexeme_of bytes t token ∷ more.0, more.1)

-- the marks of words
abbrev pub marks : List Lexeme → List Mark
marks ls = map (λ l. l.mark) ls
