-- What the words of a line are: nested lists that fit, or the place of the first fault.
use Rattle.std.specs.Prelude.{◌≡◌, pos, ℕ, suc, ◌-◌, List, [], ◌∷◌, ◌++◌, Option, None, Some, Result, Ok, Err, length, map, replicate, slice_get, take, unwrap_or}
use Rattle.std.specs.Option.{option_map_or}
use Rattle.ps_world.specs.Names.{object}
use Rattle.ps_text.specs.declared.lexing.Token.{Token}
use Rattle.ps_grammar.specs.Shape.{Derives, IsFirstFaultFrom, IsShallowFrom}
use Rattle.ps_grammar.specs.declared.marks.Mark.{Mark}
use Rattle.ps_grammar.specs.declared.marks.Mark.TheVariants.{Open, Close}
use Rattle.ps_grammar.specs.declared.symbols.Symbol.{Symbol}
use Rattle.ps_lists.specs.Lexemes.{marks}
use Rattle.ps_lists.specs.Nested.{Nesteds}
use Rattle.ps_lists.specs.Spelling.{SpellAll}
use Rattle.ps_lists.specs.declared.lexemes.Lexeme.{Lexeme}
use Rattle.ps_script.specs.Scopes.{strays}

-- the byte at which a token begins, or the line's length past the last
abbrev pub place : List ℕ → List Token → ℕ → ℕ
place bytes tokens i = option_map_or (λ t. t.from) (slice_get tokens i) (length bytes)

-- the same of words
abbrev pub begin_of : List ℕ → List Lexeme → ℕ → ℕ
begin_of bytes ls i = option_map_or (λ l. l.at) (slice_get ls i) (length bytes)

-- tokens and words that begin at the same bytes, one after another
abbrev pub BeginAlike : List Token → List Lexeme → Type 0
BeginAlike tokens ls = map (λ t. t.from) tokens ≡ map (λ l. l.at) ls

-- ---- lists that may not be closed yet

-- how many parentheses are open after these marks, where so many are before
abbrev pub open_after : ℕ → List Mark → ℕ
open_after depth [] = depth
open_after depth (Open ∷ ms) = open_after (suc depth) ms
open_after depth (Close ∷ ms) = open_after (depth - 1) ms
open_after depth (_ ∷ ms) = open_after depth ms

-- a parenthesis that closes
abbrev pub shut : Lexeme
shut = record { mark = Close; name = object; number = pos 0; at = 0 }

-- words, and then what closes each list that is open after them
abbrev pub closed : List Lexeme → List Lexeme
closed ls = ls ++ replicate (open_after 0 (marks ls)) shut

-- ---- whole lines

-- Where some symbols are wanted, words are nested lists that fit, or the first fault is at this place: that of the first variable out of its
-- scope or, where none stands before it, of the first word that doesn't fit.
pub data IsJudged (start : List Symbol) (bytes : List ℕ) (tokens : List Token) (ls : List Lexeme) : Result Nesteds ℕ → Type 0 where
  fitting : (ts : Nesteds) → Derives start (marks ls) → IsShallowFrom start (marks ls) → SpellAll ts ls → strays [] ts ≡ None → IsJudged start bytes tokens ls (Ok ts)
  stray : (ts : Nesteds) (at : ℕ) → Derives start (marks ls) → IsShallowFrom start (marks ls) → SpellAll ts ls → strays [] ts ≡ Some at → IsJudged start bytes tokens ls (Err at)
  misfit : (i : ℕ) (ts : Nesteds) → IsFirstFaultFrom start (marks ls) i → SpellAll ts (closed (take i ls)) → IsJudged start bytes tokens ls (Err (unwrap_or (strays [] ts) (place bytes tokens i)))

-- ---- what is found of them on the way

-- nested lists without a variable out of its scope, or the place of the first
abbrev pub in_scope : Option ℕ → Nesteds → Result Nesteds ℕ
in_scope None ts = Ok ts
in_scope (Some at) ts = Err at

-- what is known where this is the place of the first word that doesn't fit, if one doesn't
abbrev pub Fits : List Symbol → List Mark → Option ℕ → Type 0
Fits start ms None = Derives start ms × IsShallowFrom start ms
Fits start ms (Some i) = IsFirstFaultFrom start ms i

-- the words before the first that doesn't fit, each list closed
abbrev pub front : Option ℕ → List Lexeme → List Lexeme
front None ls = ls
front (Some i) ls = closed (take i ls)
