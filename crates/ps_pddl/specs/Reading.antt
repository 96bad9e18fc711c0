-- What a domain's text is read as.
use Rattle.std.specs.Prelude.{◌≡◌, ℕ, ◌⊎◌, Result, Ok, Err, List, length, slice_get}
use Rattle.std.specs.Option.{option_map_or}
use Rattle.ps_world.specs.Names.{Table}
use Rattle.ps_world.specs.declared.domains.Domain.{Domain}
use Rattle.ps_world.specs.declared.failures.Failure.{Failure}
use Rattle.ps_world.specs.declared.failures.Failure.TheVariants.{Refused, OutOfMemory}
use Rattle.ps_text.specs.Tokens.{AreTokens, IsFirstFault, RefusesText}
use Rattle.ps_text.specs.declared.lexing.Token.{Token}
use Rattle.ps_text.specs.declared.lexing.LexRefusal.{LexRefusal}
use Rattle.ps_text.specs.declared.lexing.LexRefusal.TheVariants.{Bad, Number}
use Rattle.ps_grammar.specs.Shape.{IsDomainShape, IsShallow}
use Rattle.ps_grammar.specs.Shape as shape
use Rattle.ps_grammar.specs.declared.faults.ShapeFault.{ShapeFault}
use Rattle.ps_grammar.specs.declared.faults.ShapeFault.TheVariants as fault
use Rattle.ps_lists.specs.Lexemes.{lexemes_of, marks}
use Rattle.ps_lists.specs.Nested.{Nesteds}
use Rattle.ps_lists.specs.Spelling.{SpellAll}
use Rattle.ps_pddl.specs.Meaning.{domain_of}
use Rattle.ps_pddl.specs.Steps.{Read}
use Rattle.ps_lists.specs.declared.lexemes.Lexeme.{Lexeme}
use Rattle.ps_pddl.specs.declared.refusals.Cap.TheVariants.{Depth}
use Rattle.ps_pddl.specs.declared.refusals.DomainRefusal.{DomainRefusal}
use Rattle.ps_pddl.specs.declared.refusals.DomainRefusal.TheVariants.{Lex, Unexpected, Unsupported, Limit}

-- the byte at which a word begins, or the text's length past the last
abbrev pub place : List ℕ → List Lexeme → ℕ → ℕ
place bytes ls i = option_map_or (λ l. l.at) (slice_get ls i) (length bytes)

-- a word without a class, with its byte
abbrev pub unlexed : LexRefusal → DomainRefusal
unlexed (Bad at) = Lex at
unlexed (Number at) = Lex at

-- the refusal tells the first word without a class
abbrev pub RefusesClass : List ℕ → DomainRefusal → Type 0
RefusesClass bytes refusal = (fault : LexRefusal) × (refusal ≡ unlexed fault) × RefusesText fault bytes

-- a fault of the shape, with its byte
abbrev pub misshapen : List ℕ → List Lexeme → ShapeFault → DomainRefusal
misshapen bytes ls (fault.Unsupported i what) = Unsupported (place bytes ls i) what
misshapen bytes ls (fault.Depth i) = Limit (place bytes ls i) Depth
misshapen bytes ls (fault.Unexpected i) = Unexpected (place bytes ls i)

-- the refusal tells the first fault of the shape
abbrev pub RefusesShape : List ℕ → List Lexeme → DomainRefusal → Type 0
RefusesShape bytes ls refusal = (f : ShapeFault) × (refusal ≡ misshapen bytes ls f) × shape.Refuses f (marks ls)

-- The text has these words, and the table has their names.
pub record HasWords (table : Table) (bytes : List ℕ) (ls : List Lexeme) (after : Table) : Type 0 where
  pub tokens : List Token
  pub are_tokens : AreTokens bytes tokens
  pub words : lexemes_of bytes table tokens ≡ (ls, after)

-- What a text is read as, with a table of names before it and the table after it. A word without a class comes first,
-- then the first fault of the shape, and a text of the right shape is what its nested lists mean.
pub data IsRead (table : Table) (bytes : List ℕ) : Read Domain → Table → Type 0 where
  without_class : (at : ℕ) → IsFirstFault bytes at (Bad at) ⊎ IsFirstFault bytes at (Number at) → IsRead table bytes (Err (Lex at)) table
  without_shape : (ls : List Lexeme) (after : Table) (f : ShapeFault) → HasWords table bytes ls after → shape.Refuses f (marks ls) → IsRead table bytes (Err (misshapen bytes ls f)) after
  with_meaning : (ls : List Lexeme) (after : Table) (ts : Nesteds) (read : Read Domain) → HasWords table bytes ls after → IsDomainShape (marks ls) → IsShallow (marks ls) → SpellAll ts ls → domain_of ts ≡ read → IsRead table bytes read after

-- a call gives what a text is read as, or memory ran out, which says nothing
abbrev pub ReadsDomain : Table → List ℕ → Result Domain (Failure DomainRefusal) → Table → Type 0
ReadsDomain table bytes (Ok d) after = IsRead table bytes (Ok d) after
ReadsDomain table bytes (Err (Refused refusal)) after = IsRead table bytes (Err refusal) after
ReadsDomain table bytes (Err OutOfMemory) after = Unit {0}
