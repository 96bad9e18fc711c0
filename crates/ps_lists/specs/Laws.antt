-- What the words of a text tell of its nested lists.
use Rattle.std.specs.Prelude.{◌≡◌, List}
use Rattle.ps_grammar.specs.Shape.{IsDomainShape, IsShallow}
use Rattle.ps_lists.specs.Grammar.{IsText}
use Rattle.ps_lists.specs.Lexemes.{marks}
use Rattle.ps_lists.specs.Nested.{Nesteds}
use Rattle.ps_lists.specs.Spelling.{SpellAll}
use Rattle.ps_lists.specs.declared.lexemes.Lexeme.{Lexeme}

-- Words are written by one list only.
abbrev pub ListsAreTold : Type 0
ListsAreTold = (ts us : Nesteds) (ls : List Lexeme) → SpellAll ts ls → SpellAll us ls → ts ≡ us

-- The lists of a text that was judged to be a domain's are of the grammar.
abbrev pub JudgedTextsAreGrammatical : Type 0
JudgedTextsAreGrammatical = (ts : Nesteds) (ls : List Lexeme) → SpellAll ts ls → IsDomainShape (marks ls) → IsShallow (marks ls) → IsText ts

-- A text whose lists are of the grammar is judged to be a domain's.
abbrev pub GrammaticalTextsAreJudged : Type 0
GrammaticalTextsAreJudged = (ts : Nesteds) (ls : List Lexeme) → SpellAll ts ls → IsText ts → IsDomainShape (marks ls) × IsShallow (marks ls)
