-- Domains that can be written are read back from their canonical texts, and what is read can be written.
use Rattle.std.proofs.Common.{◌≡◌, Ok, subst}
use Rattle.ps_world.specs.DomainTexts.{domain_text}
use Rattle.ps_world.specs.declared.domains.Domain.{Domain}
use Rattle.ps_lists.proofs.Grammatical.{grammatical_judged}
use Rattle.ps_lists.proofs.Judged.{judged_grammatical}
use Rattle.ps_pddl.specs.Reading.{IsRead}
use Rattle.ps_pddl.specs.Reading.IsRead.{with_meaning}
use Rattle.ps_pddl.specs.Steps.{Read}
use Rattle.ps_pddl.proofs.CanonicalLexing.{canonical_forms}
use Rattle.ps_pddl.proofs.FittingForms.{fitting_grammatical}
use Rattle.ps_pddl.proofs.FormsMean.{forms_mean}
use Rattle.ps_pddl.proofs.OneReading.{readings_are_one}
use Rattle.ps_pddl.proofs.ReadFits.{read_fits}
use Rattle.ps_pddl.proofs.SoundReadings.{readings_are_well_formed}
use Rattle.ps_reading_laws.specs.Laws.{DomainsAreReadBack, PrintedDomainsAreOne, ReadDomainsAreWritable}
use Rattle.ps_reading_laws.proofs.WritableDomains.{fitting_written, writable_fits}

pub domains_are_read_back : DomainsAreReadBack
domains_are_read_back names d good sound written =
    let fits = writable_fits names good d sound written in
    let w = canonical_forms names d good written.known fits in
    let judged = grammatical_judged w.ts w.ls w.spelt (fitting_grammatical names d w.ts fits w.form) in
    (w.again, with_meaning w.ls w.again w.ts (Ok d) w.words judged.0 judged.1 w.spelt (forms_mean names d w.ts fits sound w.form))

pub read_domains_are_writable : ReadDomainsAreWritable
read_domains_are_writable table bytes d after good (with_meaning ls _ ts read words shape shallow spelt means) =
    let fits = read_fits table bytes ls after ts d good words spelt (judged_grammatical ts ls spelt shape shallow) means in (
      fits.0,
      readings_are_well_formed table bytes d after (with_meaning ls after ts read words shape shallow spelt means),
      fitting_written after d fits.1 fits.2,
    )

-- one answer has one domain
one_answer : (d e : Domain) → ◌≡◌ {A = Read Domain} (Ok d) (Ok e) → d ≡ e
one_answer d e same = cc

pub printed_domains_are_one : PrintedDomainsAreOne
printed_domains_are_one names d e good sound written also says same =
    let one = domains_are_read_back names d good sound written in
    let other = domains_are_read_back names e good also says in
    one_answer d e (readings_are_one names (domain_text names e) (Ok d) (Ok e) one.0 other.0 (subst (λ text. IsRead names text (Ok d) one.0) same one.1) other.1).0
