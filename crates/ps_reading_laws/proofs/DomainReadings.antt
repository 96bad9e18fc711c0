-- Every text is read as a domain or has a first fault.
use Rattle.std.proofs.Common.{ℕ, List, Err, refl, inl, inr}
use Rattle.ps_world.specs.Names.{Table}
use Rattle.ps_world.specs.declared.domains.Domain.{Domain}
use Rattle.ps_text.specs.Tokens.{AreTokens, RefusesText}
use Rattle.ps_text.specs.declared.lexing.LexRefusal.{LexRefusal}
use Rattle.ps_text.specs.declared.lexing.LexRefusal.TheVariants.{Bad, Number}
use Rattle.ps_text.specs.declared.lexing.Token.{Token}
use Rattle.ps_grammar.specs.Shape.{IsDomainShape, IsShallow}
use Rattle.ps_lists.specs.Lexemes.{lexemes_of, marks}
use Rattle.ps_lists.specs.declared.lexemes.Lexeme.{Lexeme}
use Rattle.ps_lists.proofs.Balance.{balanced_shape}
use Rattle.ps_pddl.specs.Meaning.{domain_of}
use Rattle.ps_pddl.specs.Reading.{HasWords, IsRead, misshapen}
use Rattle.ps_pddl.specs.Reading.IsRead.{with_meaning, without_class, without_shape}
use Rattle.ps_pddl.specs.Steps.{Read}
use Rattle.ps_pddl.specs.declared.refusals.DomainRefusal.TheVariants.{Lex}
use Rattle.ps_reading_laws.specs.Laws.{EveryTextIsRead}
use Rattle.ps_reading_laws.proofs.Judging.{text_judged}
use Rattle.ps_reading_laws.proofs.Lexing.{lexed}
use Rattle.ps_reading_laws.proofs.Nesting.{spelt}

module _ (table : Table) (bytes : List ℕ) where
  -- the text is read as something
  abbrev Reads : Type 0
  Reads = (read : Read Domain) × (after : Table) × IsRead table bytes read after

  classless_text : (fault : LexRefusal) → RefusesText fault bytes → Reads
  classless_text (Bad at) fault = (Err (Lex at), table, without_class at (inl fault))
  classless_text (Number at) fault = (Err (Lex at), table, without_class at (inr fault))

  module _ (ls : List Lexeme) (after : Table) (words : HasWords table bytes ls after) where
    shaped_text : IsDomainShape (marks ls) → IsShallow (marks ls) → Reads
    shaped_text shape shallow =
        let ts = spelt ls (balanced_shape (marks ls) shape) in
        (domain_of ts.0, after, with_meaning ls after ts.0 (domain_of ts.0) words shape shallow ts.1 refl)

    worded_text : Reads
    worded_text =
        elim (text_judged (marks ls)) [
          | inl fits ↦ shaped_text fits.0 fits.1
          | inr fault ↦ (Err (misshapen bytes ls fault.0), after, without_shape ls after fault.0 words fault.1)
        ]

  words_are : (tokens : List Token) → AreTokens bytes tokens → HasWords table bytes (lexemes_of bytes table tokens).0 (lexemes_of bytes table tokens).1
  words_are tokens are = record { tokens = tokens; are_tokens = are; words = refl }

pub every_text_is_read : EveryTextIsRead
every_text_is_read table bytes =
    elim (lexed bytes) [
      | inl tokens ↦ worded_text table bytes (lexemes_of bytes table tokens.0).0 (lexemes_of bytes table tokens.0).1 (words_are table bytes tokens.0 tokens.1)
      | inr fault ↦ classless_text table bytes fault.0 fault.1
    ]
