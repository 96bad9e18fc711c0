-- The words of a domain's canonical text, and the lists that they spell.
use Rattle.std.proofs.Common.{◌≡◌, List, length, IsSome, All, refl, sym, subst}
use Rattle.ps_world.specs.DomainTexts.{domain_text}
use Rattle.ps_world.specs.Names.{Table}
use Rattle.ps_world.specs.declared.domains.Domain.{Domain}
use Rattle.ps_text.specs.Names.{AreNames}
use Rattle.ps_text.specs.Tokens.{class_of}
use Rattle.ps_text.specs.Words.{words}
use Rattle.ps_text.proofs.TextTokens.{texts_have_tokens}
use Rattle.ps_lists.specs.Lexemes.{lexemes_of}
use Rattle.ps_lists.specs.Nested.{Nesteds}
use Rattle.ps_lists.specs.Spelling.{SpellAll}
use Rattle.ps_lists.specs.declared.lexemes.Lexeme.{Lexeme}
use Rattle.ps_print.specs.CanonicalWords.{domain_words, IsDomainOf}
use Rattle.ps_print.proofs.CanonicalWords.{canonical_words_are}
use Rattle.ps_pddl.specs.Reading.{HasWords}
use Rattle.ps_pddl.proofs.CanonicalForms.{IsDomainForm}
use Rattle.ps_pddl.proofs.Fits.{FitsDomain}
use Rattle.ps_pddl.proofs.WordLexemes.{AreLexemes, are_lexemes}
use Rattle.ps_pddl.proofs.SpeltDomains.{spelt_domain}
use Rattle.ps_pddl.proofs.WordClasses.{classed_domain}

-- the words and the lists of a canonical text
pub record Written (names : Table) (d : Domain) : Type 0 where
  pub ls : List Lexeme
  pub again : Table
  pub ts : Nesteds
  pub words : HasWords names (domain_text names d) ls again
  pub spelt : SpellAll ts ls
  pub form : IsDomainForm names d ts

-- a domain's canonical text has words, which spell the lists of its form
pub canonical_forms : (names : Table) (d : Domain) → AreNames names → IsDomainOf (length names) d → FitsDomain names d → Written names d
canonical_forms names d good h fits =
    let bytes = domain_text names d in
    let are : words bytes ≡ domain_words names d = canonical_words_are names d good h in
    let tokens = texts_have_tokens bytes (subst (All (λ w. IsSome (class_of w))) (sym are) (classed_domain names good d h).all) in
    let read = lexemes_of bytes names tokens.0 in
    let lexed : AreLexemes names (domain_words names d) read.0 = subst (λ ws. AreLexemes names ws read.0) are (are_lexemes names bytes good tokens.0 tokens.1) in
    let spelt = (spelt_domain names good d h fits).spells read.0 lexed in
    record {
      ls = read.0;
      again = read.1;
      ts = spelt.0;
      words = record { tokens = tokens.0; are_tokens = tokens.1; words = refl };
      spelt = spelt.1;
      form = spelt.2;
    }
