-- What the words of a domain's canonical text are.
use Rattle.std.specs.Prelude.{◌≡◌, length}
use Rattle.ps_world.specs.DomainTexts.{domain_text}
use Rattle.ps_world.specs.Names.{Table}
use Rattle.ps_world.specs.declared.domains.Domain.{Domain}
use Rattle.ps_text.specs.Names.{AreNames}
use Rattle.ps_text.specs.Words.{words}
use Rattle.ps_print.specs.CanonicalWords.{domain_words, IsDomainOf}

-- The words of a domain's canonical text are those of its parts, in order.
abbrev pub CanonicalWords : Type 0
CanonicalWords = (names : Table) (d : Domain) → AreNames names → IsDomainOf (length names) d → words (domain_text names d) ≡ domain_words names d
