-- What a refusal says of a text.
use Rattle.std.proofs.Common.{◌≡◌, ℕ, List, Result, Ok, Err, IfSome, sym, ◌∙◌, ap, subst, inl, inr}
use Rattle.ps_world.specs.Names.{Table}
use Rattle.ps_world.specs.Failures.{Gives, refusal_of}
use Rattle.ps_world.specs.declared.domains.Domain.{Domain}
use Rattle.ps_world.specs.declared.failures.Failure.{Failure}
use Rattle.ps_world.specs.declared.failures.Failure.TheVariants.{Refused, OutOfMemory}
use Rattle.ps_text.specs.Tokens.{AreTokens, RefusesText}
use Rattle.ps_text.specs.declared.lexing.Token.{Token}
use Rattle.ps_lists.specs.Lexemes.{lexemes_of}
use Rattle.ps_text.specs.declared.lexing.LexRefusal.{LexRefusal}
use Rattle.ps_text.specs.declared.lexing.LexRefusal.TheVariants as lexing
use Rattle.ps_grammar.specs.Shape.{IsDomainShape, IsShallow}
use Rattle.ps_pddl.specs.Meaning.{domain_of}
use Rattle.ps_lists.specs.Nested.{Nesteds}
use Rattle.ps_lists.specs.Lexemes.{marks}
use Rattle.ps_pddl.specs.Reading.{HasWords, IsRead, ReadsDomain, RefusesClass, RefusesShape, unlexed}
use Rattle.ps_pddl.specs.Reading.IsRead.{without_class, without_shape, with_meaning}
use Rattle.ps_lists.specs.Spelling.{SpellAll}
use Rattle.ps_lists.specs.declared.lexemes.Lexeme.{Lexeme}
use Rattle.ps_pddl.specs.declared.refusals.DomainRefusal.{DomainRefusal}

-- a text of the right shape, whose nested lists are these
pub record IsSpelt (table : Table) (bytes : List ℕ) (ls : List Lexeme) (after : Table) (ts : Nesteds) : Type 0 where
  pub words : HasWords table bytes ls after
  pub shape : IsDomainShape (marks ls)
  pub shallow : IsShallow (marks ls)
  pub spelt : SpellAll ts ls

unlexed_read : (table : Table) (bytes : List ℕ) (fault : LexRefusal) → RefusesText fault bytes → IsRead table bytes (Err (unlexed fault)) table
unlexed_read table bytes (lexing.Bad at) first = without_class at (inl first)
unlexed_read table bytes (lexing.Number at) first = without_class at (inr first)

-- a word without a class is what the text is refused for
pub class_read : (table : Table) (bytes : List ℕ) (f : Failure DomainRefusal) → IfSome (refusal_of {A = Domain} (Err f)) (λ r. RefusesClass bytes r) → ReadsDomain table bytes (Err f) table
class_read table bytes (Refused r) x =
    subst (λ (y : DomainRefusal). IsRead table bytes (Err y) table) (sym x.1) (unlexed_read table bytes x.0 x.2)
class_read table bytes OutOfMemory x = tt

-- and so is a fault of its shape
pub shape_read : (table : Table) (bytes : List ℕ) (ls : List Lexeme) (after : Table) (f : Failure DomainRefusal) → HasWords table bytes ls after → IfSome (refusal_of {A = Domain} (Err f)) (λ r. RefusesShape bytes ls r) → ReadsDomain table bytes (Err f) after
shape_read table bytes ls after (Refused r) words x =
    subst (λ (y : DomainRefusal). IsRead table bytes (Err y) after) (sym x.1) (without_shape ls after x.0 words x.2)
shape_read table bytes ls after OutOfMemory words x = tt

-- what lists mean is what the text is read as
pub meant : (table : Table) (bytes : List ℕ) (ls : List Lexeme) (after : Table) (ts us : Nesteds) (result : Result Domain (Failure DomainRefusal)) → IsSpelt table bytes ls after ts → us ≡ ts → Gives (λ d. d) result (domain_of us) → ReadsDomain table bytes result after
meant table bytes ls after ts us (Ok d) is e means = with_meaning ls after ts (Ok d) is.words is.shape is.shallow is.spelt (ap domain_of (sym e) ∙ means)
meant table bytes ls after ts us (Err (Refused r)) is e means = with_meaning ls after ts (Err r) is.words is.shape is.shallow is.spelt (ap domain_of (sym e) ∙ means)
meant table bytes ls after ts us (Err OutOfMemory) is e means = tt

-- the words of tokens are those of the text
pub has_words : (table : Table) (bytes : List ℕ) (tokens : List Token) (ls : List Lexeme) (after : Table) → AreTokens bytes tokens → lexemes_of bytes table tokens ≡ (ls, after) → HasWords table bytes ls after
has_words table bytes tokens ls after are words = record { tokens = tokens; are_tokens = are; words = words }

-- the lists of words are those of the text
pub is_spelt : (table : Table) (bytes : List ℕ) (ls judged : List Lexeme) (after : Table) (ts : Nesteds) → HasWords table bytes ls after → judged ≡ ls → IsDomainShape (marks judged) × IsShallow (marks judged) → SpellAll ts ls → IsSpelt table bytes ls after ts
is_spelt table bytes ls judged after ts words e shape spelt = record {
  words = words;
  shape = subst (λ (x : List Lexeme). IsDomainShape (marks x)) e shape.0;
  shallow = subst (λ (x : List Lexeme). IsShallow (marks x)) e shape.1;
  spelt = spelt;
}
