-- Effects that aren't refused, and those that are.
use Rattle.std.proofs.Common.{◌≡◌, ◌↔◌, Option, Some, None, Ok, Err, refl, subst}
use Rattle.ps_action.specs.Effects.{fault_of_effects, flat, made, values_set}
use Rattle.ps_action.specs.Refusals.{unless}
use Rattle.ps_action.specs.Laws.{AreMade, EffectsChange, EffectsAreAtFault}
use Rattle.ps_action.proofs.FirstFault.{first_fault}
use Rattle.ps_action.proofs.MadeFacts.{facts_after, facts_rise}
use Rattle.ps_action.proofs.MadeValues.{values_given, values_stay, values_rise}

accepted : {R A : Type 0} (o : Option R) (a new : A) → unless o a ≡ Ok new → (o ≡ None) × (a ≡ new)
accepted None a new e = (refl, cc)
accepted (Some r) a new e = absurd (cc)

refused : {R A : Type 0} (o : Option R) (a : A) (r : R) → (unless o a ≡ Err r) ↔ (o ≡ Some r)
refused None a r = (λ e. absurd (cc), λ e. absurd (cc))
refused (Some q) a r = (λ e. (cc), λ e. (cc))

pub effects_change : EffectsChange
effects_change d old es new e =
    let all = flat d old es in
    let ready = values_set d old es in
    let w = accepted (fault_of_effects d old es) (made old all ready) new e in
    subst (λ k. AreMade old all k) w.1 (
    record {
      facts = facts_after all old.facts;
      values = λ how l x c. values_given old all how l x w.0 c;
      others = λ f n. values_stay old all f n old.values;
      instances = refl;
      goal = refl;
      facts_rise = facts_rise all old.facts;
      values_rise = values_rise old.values ready;
    }
    )

pub effects_are_at_fault : EffectsAreAtFault
effects_are_at_fault d k es r =
    let same = refused (fault_of_effects d k es) (made k (flat d k es) (values_set d k es)) r in
    (same, λ e. first_fault k (flat d k es) r (same.0 e))
