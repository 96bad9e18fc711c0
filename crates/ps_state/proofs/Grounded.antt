-- Acts that can be grounded, and their ground actions.
use Rattle.std.proofs.Common.{◌≡◌, ℕ, suc, ◌+◌, ◌≤◌, ◌<◌, ◌==◌, Bool, true, false, Option, Some, None, Result, Ok, Err, is_ok, IsOk, if◌then◌else◌, List, [], ◌∷◌, ◌++◌, All, filter_map, get_or, length, map, take, refl, ap, sym, ◌∙◌, subst, arith}
use Rattle.std.specs.List.{cons_option}
use Rattle.std.specs.Option.{option_map}
use Rattle.std.proofs.lemmas.List.{take_more}
use Rattle.std.proofs.lemmas.List.Elements.{All-cons, All-head, All-nil, All-tail, filter_map-append}
use Rattle.ps_world.specs.Knowledge.{action_of}
use Rattle.ps_world.specs.declared.actions.ActionDef.{ActionDef}
use Rattle.ps_world.specs.declared.domains.Domain.{Domain}
use Rattle.ps_world.specs.declared.known.Knowledge.{Knowledge}
use Rattle.ps_world.specs.declared.names.Name.{Name}
use Rattle.ps_action.specs.Refusals.{unless}
use Rattle.ps_action.specs.Grounding.{ground_act, ground_by, grounded}
use Rattle.ps_action.specs.Plans.{judged}
use Rattle.ps_action.specs.declared.acts.Act.{Act}
use Rattle.ps_action.specs.declared.acts.GroundAction.{GroundAction}
use Rattle.ps_action.specs.declared.refusals.GroundRefusal.{GroundRefusal}
use Rattle.ps_action.specs.declared.refusals.PlanRefusal.{PlanRefusal}
use Rattle.ps_arcs.specs.Commuting.{AreGrounded}
use Rattle.ps_arcs.proofs.Judged.{judged_is_grounded}
use Rattle.ps_rules.specs.Known.{ground_of, grounds}
use Rattle.ps_rules.specs.Same.{same_acts}
use Rattle.ps_rules.proofs.SameThings.{sameness_decides}
use Rattle.ps_state.specs.Awaiting.{MayBePlan}

unless-ok : {R A : Type 0} (o : Option R) (a b : A) → unless o a ≡ Ok b → a ≡ b
unless-ok (Some r) a b e = absurd (cc)
unless-ok None a b e = cc

arity-ok : (b : Bool) (o : Option GroundRefusal) (a g : GroundAction) (r : GroundRefusal) → (if b then unless o a else Err r) ≡ Ok g → a ≡ g
arity-ok true o a g r e = unless-ok o a g e
arity-ok false o a g r e = absurd (cc)

by-ok : (d : Domain) (is : List (Name × Name)) (o : Option ActionDef) (act : Act) (g : GroundAction) → ground_by d is o act ≡ Ok g → option_map (λ a. grounded a act) o ≡ Some g
by-ok d is None act g e = absurd (cc)
by-ok d is (Some a) act g e = ap Some (arity-ok (length a.params == length act.args) _ (grounded a act) g _ e)

-- the ground action of an act that can be grounded is what it is grounded to
pub ground-is : (d : Domain) (is : List (Name × Name)) (act : Act) (g : GroundAction) → ground_act d is act ≡ Ok g → ground_of d act ≡ Some g
ground-is d is act g e = by-ok d is (action_of d act.action) act g e

one-more : (f : Act → Option GroundAction) (act : Act) (g : GroundAction) → f act ≡ Some g → filter_map f (act ∷ []) ≡ g ∷ []
one-more f act g e = rw e refl

-- the ground actions of one act
pub grounds-one : (d : Domain) (is : List (Name × Name)) (act : Act) (g : GroundAction) → ground_act d is act ≡ Ok g → grounds d (act ∷ []) ≡ g ∷ []
grounds-one d is act g e = one-more (ground_of d) act g (ground-is d is act g e)

-- the ground actions of the first so many acts, and of one more
pub grounds-more : (d : Domain) (acts : List Act) (k : ℕ) (act : Act) → k < length acts → grounds d (take (k + 1) acts) ≡ grounds d (take k acts) ++ grounds d (get_or acts k act ∷ [])
grounds-more d acts k act h = ap (grounds d) (take_more acts k act h) ∙ filter_map-append (ground_of d) (take k acts) (get_or acts k act ∷ [])

each-ok : (d : Domain) (is : List (Name × Name)) (acts : List Act) (gs : List GroundAction) → AreGrounded d is acts gs → All (λ act. IsOk (ground_act d is act)) acts
each-ok d is [] gs e = All-nil (λ act. IsOk (ground_act d is act))
each-ok d is (act ∷ acts) [] e = absurd (cc)
each-ok d is (act ∷ acts) (g ∷ gs) e =
    let first : ground_act d is act ≡ Ok g = cc in
    let rest : AreGrounded d is acts gs = cc in
    All-cons (λ a. IsOk (ground_act d is a)) act acts (ap is_ok first) (each-ok d is acts gs rest)

judged-each : (d : Domain) (k : Knowledge) (acts : List Act) (r : Result Knowledge PlanRefusal) → judged d k acts ≡ r → is_ok r ≡ true → All (λ act. IsOk (ground_act d k.instances act)) acts
judged-each d k acts (Ok last) e h = let w = judged_is_grounded d k last acts e in each-ok d k.instances acts w.0 w.1
judged-each d k acts (Err why) e h = absurd (cc)

-- the acts of a good plan can be grounded
pub good-each : (d : Domain) (k : Knowledge) (acts : List Act) → is_ok (judged d k acts) ≡ true → All (λ act. IsOk (ground_act d k.instances act)) acts
good-each d k acts h = judged-each d k acts (judged d k acts) refl h

-- one act that can be grounded
pub one-each : (d : Domain) (k : Knowledge) (act : Act) → IsOk (ground_act d k.instances act) → All (λ a. IsOk (ground_act d k.instances a)) (act ∷ [])
one-each d k act h = All-cons (λ a. IsOk (ground_act d k.instances a)) act [] h (All-nil (λ a. IsOk (ground_act d k.instances a)))

ok-ground : (d : Domain) (is : List (Name × Name)) (act : Act) (r : Result GroundAction GroundRefusal) → ground_act d is act ≡ r → is_ok r ≡ true → (g : GroundAction) × (ground_of d act ≡ Some g)
ok-ground d is act (Ok g) e h = (g, ground-is d is act g e)
ok-ground d is act (Err why) e h = absurd (cc)

-- acts that can be grounded have as many ground actions
pub as-many : (d : Domain) (is : List (Name × Name)) (acts : List Act) → All (λ act. IsOk (ground_act d is act)) acts → length (grounds d acts) ≡ length acts
as-many d is [] h = refl
as-many d is (act ∷ acts) h =
    let one = ok-ground d is act (ground_act d is act) refl (All-head (λ a. IsOk (ground_act d is a)) act acts h) in
    ap (λ o. length (cons_option o (grounds d acts))) one.1 ∙ ap (λ (n : ℕ). suc n) (as-many d is acts (All-tail (λ a. IsOk (ground_act d is a)) act acts h))

few-case : (o : Option GroundAction) (gs : List GroundAction) (n : ℕ) → length gs ≤ n → length (cons_option o gs) ≤ suc n
few-case None gs n h = omega (arith, h)
few-case (Some g) gs n h = omega (arith, h)

few-of : (f : Act → Option GroundAction) (acts : List Act) → length (filter_map f acts) ≤ length acts
few-of f [] = omega arith
few-of f (act ∷ acts) = few-case (f act) (filter_map f acts) (length acts) (few-of f acts)

-- there are no more ground actions than acts
pub few-grounds : (d : Domain) (acts : List Act) (n : ℕ) → length acts ≤ n → length (grounds d acts) ≤ n
few-grounds d acts n h = omega (arith, h, few-of (ground_of d) acts)

one-may : (d : Domain) (k : Knowledge) (acts : List Act) (act : Act) → acts ≡ act ∷ [] → IsOk (ground_act d k.instances act) → MayBePlan d k acts
one-may d k acts act e h = subst (MayBePlan d k) (sym e) (record { few = omega arith; grounded = one-each d k act h })

-- acts that are this one alone, which can be grounded, may be a plan
pub may-one : (d : Domain) (k : Knowledge) (acts : List Act) (act : Act) → same_acts acts (act ∷ []) ≡ true → is_ok (ground_act d k.instances act) ≡ true → MayBePlan d k acts
may-one d k acts act e h = one-may d k acts act ((sameness_decides.plans acts (act ∷ [])).0 e) h

-- where the ground actions of one more act were put at the end
pub grounds-step : (d : Domain) (acts : List Act) (k : ℕ) (act : Act) (old new : List GroundAction) → k < length acts → get_or acts k act ≡ act → old ≡ grounds d (take k acts)
    → new ≡ old ++ grounds d (act ∷ []) → new ≡ grounds d (take (k + 1) acts)
grounds-step d acts k act old new h same e f =
    f ∙ ap (λ gs. gs ++ grounds d (act ∷ [])) e ∙ ap (λ a. grounds d (take k acts) ++ grounds d (a ∷ [])) (sym same) ∙ sym (grounds-more d acts k act h)
