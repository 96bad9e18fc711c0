-- The canonical text of a domain that was read is read as that domain.
use Rattle.std.proofs.Common.{Ok}
use Rattle.ps_lists.proofs.Grammatical.{grammatical_judged}
use Rattle.ps_lists.proofs.Judged.{judged_grammatical}
use Rattle.ps_pddl.specs.Laws.{CanonicalTextsAreRead}
use Rattle.ps_pddl.specs.Reading.IsRead.{with_meaning}
use Rattle.ps_pddl.specs.WellFormed.{IsWellFormed}
use Rattle.ps_pddl.proofs.CanonicalLexing.{canonical_forms}
use Rattle.ps_pddl.proofs.FittingForms.{fitting_grammatical}
use Rattle.ps_pddl.proofs.FormsMean.{forms_mean}
use Rattle.ps_pddl.proofs.ReadFits.{read_fits}
use Rattle.ps_pddl.proofs.SoundReadings.{readings_are_well_formed}

pub canonical_texts_are_read : CanonicalTextsAreRead
canonical_texts_are_read table bytes d after names (with_meaning ls _ ts read words shape shallow spelt means) =
    let sound : IsWellFormed d = readings_are_well_formed table bytes d after (with_meaning ls after ts read words shape shallow spelt means) in
    let fits = read_fits table bytes ls after ts d names words spelt (judged_grammatical ts ls spelt shape shallow) means in
    let w = canonical_forms after d fits.0 fits.1 fits.2 in
    let judged = grammatical_judged w.ts w.ls w.spelt (fitting_grammatical after d w.ts fits.2 w.form) in
    (w.again, with_meaning w.ls w.again w.ts (Ok d) w.words judged.0 judged.1 w.spelt (forms_mean after d w.ts fits.2 sound w.form))
