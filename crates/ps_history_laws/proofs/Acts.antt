-- The acts of a good plan can be said, and why a plan isn't good has such names alone as the plan has.
use Rattle.std.proofs.Common.{◌≡◌, ℕ, ◌+◌, ◌≤◌, ◌==◌, Bool, true, false, Option, Some, None, IfSome, is_ok, Result, Ok, Err, List, [], ◌∷◌, All, if◌then◌else◌, length, refl, sym, subst, arith}
use Rattle.std.specs.Map.{keys_of, lookup}
use Rattle.std.specs.Option.{IsSome, option_or}
use Rattle.std.specs.Result.{IfErr, IfOk}
use Rattle.std.proofs.lemmas.Bool.{eqb-true, true≢false}
use Rattle.std.proofs.lemmas.Option.{IfSome_then}
use Rattle.std.proofs.lemmas.List.Elements.{All-nil, All-cons, All-contains, All-head, All-tail}
use Rattle.std.proofs.lemmas.Map.Views.{Contains-keys_from_lookup}
use Rattle.ps_world.specs.Names.{same_name}
use Rattle.ps_world.specs.Knowledge.{action_of, is_below}
use Rattle.ps_world.specs.CondViews.{cond_tree}
use Rattle.ps_world.specs.Tables.{IsOf}
use Rattle.ps_world.specs.declared.actions.ActionDef.{ActionDef}
use Rattle.ps_world.specs.declared.conditions.Cond.{Cond}
use Rattle.ps_world.specs.declared.domains.Domain.{Domain}
use Rattle.ps_world.specs.declared.domains.Param.{Param}
use Rattle.ps_world.specs.declared.known.Knowledge.{Knowledge}
use Rattle.ps_world.specs.declared.names.Name.{Name}
use Rattle.ps_world.proofs.Optionals.{or_none}
use Rattle.ps_action.specs.Effects.{effect}
use Rattle.ps_action.specs.Refusals.{unless}
use Rattle.ps_action.specs.Grounding.{first_unfit, ground_act, ground_by, grounded, unfit}
use Rattle.ps_action.specs.Plans.{after_steps, and_then, judged, judged_by, step, step_of, where_true}
use Rattle.ps_action.specs.Truth.{all_true, is_true}
use Rattle.ps_action.specs.declared.acts.Act.{Act}
use Rattle.ps_action.specs.declared.acts.GroundAction.{GroundAction}
use Rattle.ps_action.specs.declared.refusals.GroundRefusal.{GroundRefusal}
use Rattle.ps_action.specs.declared.refusals.GroundRefusal.TheVariants as ground
use Rattle.ps_action.specs.declared.refusals.PlanRefusal.{PlanRefusal}
use Rattle.ps_action.specs.declared.refusals.PlanRefusal.TheVariants as plan
use Rattle.ps_action.proofs.Facts.{same_name-is}
use Rattle.ps_machine.specs.Tables.{IsActOf as HasNamesOf, IsGroundRefusalOf, IsPlanRefusalOf}
use Rattle.ps_script_laws.specs.Sayable.{IsActOf}
use Rattle.ps_history_laws.specs.Inputs.{IsSayableAction, IsSayableDomain}
use Rattle.ps_history_laws.proofs.Faults.{AreInstancesOf}
use Rattle.ps_history_laws.proofs.Found.{found-has}
use Rattle.ps_history_laws.proofs.Instances.{any-ok, HasInstancesOf, step-keeps}

-- ---- where nothing fails

unless-ok : {R A : Type 0} (fault : Option R) (new : A) → is_ok (unless fault new) ≡ true → fault ≡ None
unless-ok None new h = refl
unless-ok (Some r) new h = absurd (cc)

if-ok : {A E : Type 0} (b : Bool) (r : Result A E) (why : E) → is_ok (if b then r else Err why) ≡ true → (b ≡ true) × (is_ok r ≡ true)
if-ok true r why h = (refl, h)
if-ok false r why h = absurd (true≢false (sym h))

and_then-ok : {A B E F : Type 0} (P : A → Type 0) (why : E → F) (r : Result A E) (next : A → Result B F) → IfOk r P → is_ok (and_then why r next) ≡ true
    → (is_ok r ≡ true) × ((a : A) × P a × (is_ok (next a) ≡ true))
and_then-ok P why (Ok a) next h well = (refl, (a, h, well))
and_then-ok P why (Err e) next h well = absurd (true≢false (sym well))

-- ---- acts that are grounded

module _ (count : ℕ) (d : Domain) (sayable : IsSayableDomain count d) where
  -- a declared action's name is of the table, and it has 6 parameters at most
  abbrev IsDeclaredAs : Name → ActionDef → Type 0
  IsDeclaredAs n a = IsOf count n × (length a.params ≤ 6)

  declared : (n : Name) → IfSome (action_of d n) (IsDeclaredAs n)
  declared n =
      IfSome_then (action_of d n) (found-has (IsSayableAction count) (λ a. same_name n a.name) d.actions sayable.actions)
      (λ a h. (subst (IsOf count) (sym (same_name-is n a.name h.1)) h.0.name, h.0.few))

  there : (kind : Option Name) (want n : Name) (at : ℕ) → unfit d kind want n at ≡ None → IsSome kind
  there None want n at h = absurd (cc)
  there (Some kind) want n at h = refl

  -- arguments that fit are instances
  args-named : (instances : List (Name × Name)) → AreInstancesOf count instances → (ps : List Param) (ns : List Name) (at : ℕ)
      → length ps ≡ length ns → first_unfit d instances ps ns at ≡ None → All (IsOf count) ns
  args-named instances named [] [] at same fits = All-nil (IsOf count)
  args-named instances named [] (n ∷ ns) at same fits = absurd (omega (arith, same))
  args-named instances named (p ∷ ps) [] at same fits = All-nil (IsOf count)
  args-named instances named (p ∷ ps) (n ∷ ns) at same fits =
      let none = or_none (unfit d (lookup (same_name n) instances) p.kind n at) (first_unfit d instances ps ns (at + 1)) fits in
      let some = there (lookup (same_name n) instances) p.kind n at none.0 in
      let one : IsOf count n = All-contains (IsOf count) (keys_of instances) n named (Contains-keys_from_lookup same_name-is n instances some) in
      let fewer : length ps ≡ length ns = omega (arith, same) in
      All-cons (IsOf count) n ns one (args-named instances named ps ns (at + 1) fewer none.1)

  ground-said : (instances : List (Name × Name)) → AreInstancesOf count instances → (o : Option ActionDef) (act : Act) → IfSome o (IsDeclaredAs act.action)
      → is_ok (ground_by d instances o act) ≡ true → IsActOf count act
  ground-said instances named None act h well = absurd (true≢false (sym well))
  ground-said instances named (Some a) act h well =
      let fits = if-ok (length a.params == length act.args) (unless (first_unfit d instances a.params act.args 0) (grounded a act)) (ground.Arity (length a.params) (length act.args)) well in
      let same : length a.params ≡ length act.args = eqb-true (length a.params) (length act.args) fits.0 in
      let none = unless-ok (first_unfit d instances a.params act.args 0) (grounded a act) fits.1 in
      record {
        head = h.0;
        args = args-named instances named a.params act.args 0 same none;
        few = omega (arith, same, h.1);
      }

  -- an act that can be grounded can be said
  pub act-said : (instances : List (Name × Name)) → AreInstancesOf count instances → (act : Act) → is_ok (ground_act d instances act) ≡ true → IsActOf count act
  act-said instances named act well = ground-said instances named (action_of d act.action) act (declared act.action) well

  -- so can those of steps that go well
  steps-said : (acts : List Act) (k : Knowledge) (i : ℕ) → AreInstancesOf count k.instances → is_ok (after_steps d k i acts) ≡ true → All (IsActOf count) acts
  steps-said [] k i named well = All-nil (IsActOf count)
  steps-said (act ∷ acts) k i named well =
      let first = and_then-ok (HasInstancesOf k) (λ r. r) (step d k i act) (λ next. after_steps d next (i + 1) acts) (step-keeps d k i act) well in
      let grounds = and_then-ok (λ g. Unit {0}) (plan.Ground i) (ground_act d k.instances act) (step_of d k i) (any-ok (ground_act d k.instances act)) first.0 in
      let next = first.1.0 in
      let still : AreInstancesOf count next.instances = subst (AreInstancesOf count) (sym first.1.1) named in
      All-cons (IsActOf count) act acts (act-said k.instances named act grounds.0) (steps-said acts next (i + 1) still first.1.2)

  judged-said : (goal : Option Cond) (k : Knowledge) (acts : List Act) → AreInstancesOf count k.instances → is_ok (judged_by d k goal acts) ≡ true → All (IsActOf count) acts
  judged-said None k acts named well = absurd (true≢false (sym well))
  judged-said (Some goal) k acts named well =
      let first = and_then-ok (λ last. Unit {0}) (λ r. r) (after_steps d k 0 acts) (λ last. where_true (is_true d last (cond_tree goal)) plan.GoalFalse (Ok last)) (any-ok (after_steps d k 0 acts)) well in
      steps-said acts k 0 named first.0

  -- the acts of a good plan can be said
  pub plan-said : (k : Knowledge) (acts : List Act) → AreInstancesOf count k.instances → is_ok (judged d k acts) ≡ true → All (IsActOf count) acts
  plan-said k acts named well = judged-said k.goal k acts named well

-- ---- refusals

unless-err : {R A : Type 0} (P : R → Type 0) (fault : Option R) (new : A) → IfSome fault P → IfErr (unless fault new) P
unless-err P None new h = tt
unless-err P (Some r) new h = h

and_then-err : {A B E F : Type 0} (P : E → Type 0) (Q : F → Type 0) (why : E → F) (r : Result A E) (next : A → Result B F)
    → IfErr r P → ((e : E) → P e → Q (why e)) → ((a : A) → IfErr (next a) Q) → IfErr (and_then why r next) Q
and_then-err P Q why (Ok a) next h turn step = step a
and_then-err P Q why (Err e) next h turn step = turn e h

where_true-err : {A E : Type 0} (Q : E → Type 0) (holds : Bool) (why : E) (next : Result A E) → Q why → IfErr next Q → IfErr (where_true holds why next) Q
where_true-err Q true why next q h = h
where_true-err Q false why next q h = q

any-err : {A E : Type 0} (r : Result A E) → IfErr r (λ e. Unit {0})
any-err (Ok a) = tt
any-err (Err e) = tt

module _ (count : ℕ) (d : Domain) where
  unfit-named : (kind : Option Name) (want n : Name) (at : ℕ) → IsOf count n → IfSome (unfit d kind want n at) (IsGroundRefusalOf count)
  unfit-named None want n at h = h
  unfit-named (Some kind) want n at h =
      elim (is_below d kind want) as (λ b. IfSome (if b then None else Some (ground.WrongType at)) (IsGroundRefusalOf count)) [ true ↦ tt | false ↦ tt ]

  or-named : (a b : Option GroundRefusal) → IfSome a (IsGroundRefusalOf count) → IfSome b (IsGroundRefusalOf count) → IfSome (option_or a b) (IsGroundRefusalOf count)
  or-named None b p q = q
  or-named (Some r) b p q = p

  first_unfit-named : (instances : List (Name × Name)) (ps : List Param) (ns : List Name) (at : ℕ) → All (IsOf count) ns → IfSome (first_unfit d instances ps ns at) (IsGroundRefusalOf count)
  first_unfit-named instances [] ns at h = tt
  first_unfit-named instances (p ∷ ps) [] at h = tt
  first_unfit-named instances (p ∷ ps) (n ∷ ns) at h =
      or-named (unfit d (lookup (same_name n) instances) p.kind n at) (first_unfit d instances ps ns (at + 1))
      (unfit-named (lookup (same_name n) instances) p.kind n at (All-head (IsOf count) n ns h))
      (first_unfit-named instances ps ns (at + 1) (All-tail (IsOf count) n ns h))

  ground-refused : (instances : List (Name × Name)) (o : Option ActionDef) (act : Act) → All (IsOf count) act.args → IfErr (ground_by d instances o act) (IsGroundRefusalOf count)
  ground-refused instances None act h = tt
  ground-refused instances (Some a) act h =
      elim (length a.params == length act.args) as (λ b. IfErr (if b then unless (first_unfit d instances a.params act.args 0) (grounded a act) else Err (ground.Arity (length a.params) (length act.args))) (IsGroundRefusalOf count)) [
        | true ↦ unless-err (IsGroundRefusalOf count) (first_unfit d instances a.params act.args 0) (grounded a act) (first_unfit-named instances a.params act.args 0 h)
        | false ↦ tt
      ]

  -- why an act can't be grounded has such names alone as the act has
  pub act-refused : (instances : List (Name × Name)) (act : Act) → HasNamesOf count act → IfErr (ground_act d instances act) (IsGroundRefusalOf count)
  act-refused instances act h = ground-refused instances (action_of d act.action) act h.1

  step_of-refused : (k : Knowledge) (i : ℕ) (g : GroundAction) → IfErr (step_of d k i g) (IsPlanRefusalOf count)
  step_of-refused k i g =
      let Q : PlanRefusal → Type 0 = IsPlanRefusalOf count in
      where_true-err Q (all_true d k g.conditions.at_start) (plan.StartFalse i) _ tt
      (and_then-err (λ e. Unit {0}) Q (plan.StartEffect i) (effect d k g.effects.at_start) _ (any-err (effect d k g.effects.at_start)) (λ e h. tt)
      (λ during.
      where_true-err Q (all_true d during g.conditions.over_all) (plan.OverAllFalse i) _ tt
      (where_true-err Q (all_true d during g.conditions.at_end) (plan.EndFalse i) _ tt
      (and_then-err (λ e. Unit {0}) Q (plan.EndEffect i) (effect d during g.effects.at_end) _ (any-err (effect d during g.effects.at_end)) (λ e h. tt) (λ last. tt)))))

  steps-refused : (acts : List Act) (k : Knowledge) (i : ℕ) → All (HasNamesOf count) acts → IfErr (after_steps d k i acts) (IsPlanRefusalOf count)
  steps-refused [] k i h = tt
  steps-refused (act ∷ acts) k i h =
      let one : IfErr (step d k i act) (IsPlanRefusalOf count) =
      and_then-err (IsGroundRefusalOf count) (IsPlanRefusalOf count) (plan.Ground i) (ground_act d k.instances act) (step_of d k i)
      (act-refused k.instances act (All-head (HasNamesOf count) act acts h)) (λ e g. g) (step_of-refused k i) in
      and_then-err (IsPlanRefusalOf count) (IsPlanRefusalOf count) (λ r. r) (step d k i act) (λ next. after_steps d next (i + 1) acts) one (λ e g. g)
      (λ next. steps-refused acts next (i + 1) (All-tail (HasNamesOf count) act acts h))

  judged-refused : (goal : Option Cond) (k : Knowledge) (acts : List Act) → All (HasNamesOf count) acts → IfErr (judged_by d k goal acts) (IsPlanRefusalOf count)
  judged-refused None k acts h = tt
  judged-refused (Some goal) k acts h =
      and_then-err (IsPlanRefusalOf count) (IsPlanRefusalOf count) (λ r. r) (after_steps d k 0 acts) (λ last. where_true (is_true d last (cond_tree goal)) plan.GoalFalse (Ok last))
      (steps-refused acts k 0 h) (λ e g. g) (λ last. where_true-err (IsPlanRefusalOf count) (is_true d last (cond_tree goal)) plan.GoalFalse (Ok last) tt tt)

  -- why a plan isn't good has such names alone as the plan has
  pub plan-refused : (k : Knowledge) (acts : List Act) → All (HasNamesOf count) acts → IfErr (judged d k acts) (IsPlanRefusalOf count)
  plan-refused k acts h = judged-refused k.goal k acts h
