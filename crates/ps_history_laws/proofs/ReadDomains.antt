-- The constants and the actions of a domain that is read, and the steps of a plan that is read, can be said.
use Rattle.std.proofs.Common.{ℕ, List, [], All, Ok, length, subst}
use Rattle.std.proofs.lemmas.List.Elements.{All-nil, All-weaker}
use Rattle.ps_world.specs.Names.{Table}
use Rattle.ps_world.specs.Tables.{IsOf}
use Rattle.ps_world.specs.declared.domains.Domain.{Domain}
use Rattle.ps_world.specs.declared.domains.Param.{Param}
use Rattle.ps_action.specs.declared.acts.PlanStep.{PlanStep}
use Rattle.ps_machine.specs.Tables.{IsStepOf}
use Rattle.ps_plan.specs.PlanText.{said_by}
use Rattle.ps_plan.proofs.PlanNames.{planned-within}
use Rattle.ps_lists.proofs.Judged.{judged_grammatical}
use Rattle.ps_print.specs.CanonicalWords.{IsDomainOf, IsParamOf}
use Rattle.ps_text.specs.Names.{AreNames}
use Rattle.ps_pddl.specs.Reading.{IsRead}
use Rattle.ps_pddl.specs.Reading.IsRead.{with_meaning}
use Rattle.ps_pddl.proofs.ReadFits.{read_fits}
use Rattle.ps_pddl.proofs.SoundReadings.{readings_are_well_formed}
use Rattle.ps_history_laws.specs.Laws.{DomainsAreSayable, PlansAreSayable}

domain_within : (table : Table) (bytes : List ℕ) (d : Domain) (after : Table) → AreNames table → IsRead table bytes (Ok d) after → IsDomainOf (length after) d
domain_within table bytes d after known (with_meaning ls _ ts read words shape shallow spelt means) =
    (read_fits table bytes ls after ts d known words spelt (judged_grammatical ts ls spelt shape shallow) means).1

pub domains_are_sayable : DomainsAreSayable
domains_are_sayable table bytes d after known is =
    let within = domain_within table bytes d after known is in
    let sound = readings_are_well_formed table bytes d after is in
    record {
      constants = All-weaker (IsParamOf (length after)) (λ (c : Param). IsOf (length after) c.name) (λ c h. h.0) d.constants within.constants;
      actions = λ k a below. record { name = (within.actions k a below).name; few = (sound.actions k a below).params.few };
    }

pub plans_are_sayable : PlansAreSayable
plans_are_sayable table bytes steps after is =
    subst (λ (x : List PlanStep × Table). All (IsStepOf (length x.1)) x.0) is.steps_are (planned-within table [] (said_by bytes) (All-nil (IsStepOf (length table))))
