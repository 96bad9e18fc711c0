-- Effects and plans leave the instances as they are.
use Rattle.std.proofs.Common.{◌≡◌, ℕ, Bool, true, false, Option, Some, None, Result, Ok, Err, List, refl, ◌∙◌}
use Rattle.std.specs.Result.{IfOk}
use Rattle.ps_world.specs.declared.actions.Spread.{Spread}
use Rattle.ps_world.specs.declared.domains.Domain.{Domain}
use Rattle.ps_world.specs.declared.known.Knowledge.{Knowledge}
use Rattle.ps_action.specs.Effects.{effect, flat, fault_of_flat, made, values_of_flat}
use Rattle.ps_action.specs.Refusals.{unless}
use Rattle.ps_action.specs.Grounding.{ground_act}
use Rattle.ps_action.specs.Plans.{and_then, step, step_of, where_true}
use Rattle.ps_action.specs.Truth.{all_true}
use Rattle.ps_action.specs.declared.acts.Act.{Act}
use Rattle.ps_action.specs.declared.acts.GroundAction.{GroundAction}
use Rattle.ps_action.specs.declared.refusals.PlanRefusal.TheVariants.{Ground, StartFalse, StartEffect, OverAllFalse, EndFalse, EndEffect}

-- ---- what follows where nothing fails

pub any-ok : {A E : Type 0} (r : Result A E) → IfOk r (λ a. Unit {0})
any-ok (Ok a) = tt
any-ok (Err e) = tt

pub unless-then : {R A : Type 0} (P : A → Type 0) (fault : Option R) (new : A) → P new → IfOk (unless fault new) P
unless-then P None new h = h
unless-then P (Some r) new h = tt

pub and_then-then : {A B E F : Type 0} (P : A → Type 0) (Q : B → Type 0) (why : E → F) (r : Result A E) (next : A → Result B F)
    → IfOk r P → ((a : A) → P a → IfOk (next a) Q) → IfOk (and_then why r next) Q
and_then-then P Q why (Ok a) next h step = step a h
and_then-then P Q why (Err e) next h step = tt

pub where_true-then : {A E : Type 0} (Q : A → Type 0) (holds : Bool) (why : E) (next : Result A E) → IfOk next Q → IfOk (where_true holds why next) Q
where_true-then Q true why next h = h
where_true-then Q false why next h = tt

-- ---- effects and steps

-- this knowledge has the instances of that one
abbrev pub HasInstancesOf : Knowledge → Knowledge → Type 0
HasInstancesOf k new = new.instances ≡ k.instances

pub effect-keeps : (d : Domain) (k : Knowledge) (es : List Spread) → IfOk (effect d k es) (HasInstancesOf k)
effect-keeps d k es = unless-then (HasInstancesOf k) (fault_of_flat k (flat d k es)) (made k (flat d k es) (values_of_flat k (flat d k es))) refl

step_of-keeps : (d : Domain) (k : Knowledge) (i : ℕ) (g : GroundAction) → IfOk (step_of d k i g) (HasInstancesOf k)
step_of-keeps d k i g =
    where_true-then (HasInstancesOf k) (all_true d k g.conditions.at_start) (StartFalse i)
    (and_then (StartEffect i) (effect d k g.effects.at_start) (λ during.
    where_true (all_true d during g.conditions.over_all) (OverAllFalse i)
    (where_true (all_true d during g.conditions.at_end) (EndFalse i)
    (and_then (EndEffect i) (effect d during g.effects.at_end) Ok))))
    (and_then-then (HasInstancesOf k) (HasInstancesOf k) (StartEffect i) (effect d k g.effects.at_start)
    (λ during.
    where_true (all_true d during g.conditions.over_all) (OverAllFalse i)
    (where_true (all_true d during g.conditions.at_end) (EndFalse i)
    (and_then (EndEffect i) (effect d during g.effects.at_end) Ok)))
    (effect-keeps d k g.effects.at_start)
    (λ during same.
    where_true-then (HasInstancesOf k) (all_true d during g.conditions.over_all) (OverAllFalse i)
    (where_true (all_true d during g.conditions.at_end) (EndFalse i) (and_then (EndEffect i) (effect d during g.effects.at_end) Ok))
    (where_true-then (HasInstancesOf k) (all_true d during g.conditions.at_end) (EndFalse i) (and_then (EndEffect i) (effect d during g.effects.at_end) Ok)
    (and_then-then (HasInstancesOf during) (HasInstancesOf k) (EndEffect i) (effect d during g.effects.at_end) Ok (effect-keeps d during g.effects.at_end) (λ last e. e ∙ same)))))

pub step-keeps : (d : Domain) (k : Knowledge) (i : ℕ) (act : Act) → IfOk (step d k i act) (HasInstancesOf k)
step-keeps d k i act = and_then-then (λ g. Unit {0}) (HasInstancesOf k) (Ground i) (ground_act d k.instances act) (step_of d k i) (any-ok (ground_act d k.instances act)) (λ g h. step_of-keeps d k i g)
