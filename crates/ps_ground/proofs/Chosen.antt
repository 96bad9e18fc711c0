-- Acts with the names that may stand for their parameters fit, where no action and no instance stands twice.
use Rattle.std.proofs.Common.{◌≡◌, ℕ, suc, ◌≤◌, inl, inr, Bool, true, false, cond, Some, find, List, [], ◌∷◌, ◌++◌, filter, length, map, refl, ap, sym, ◌∙◌, subst, arith}
use Rattle.std.specs.List.{AllByRecursion, list_any}
use Rattle.std.specs.Map.{lookup}
use Rattle.std.proofs.lemmas.Bool.{and_from, or_parts}
use Rattle.ps_world.specs.Knowledge.{action_of, is_below, kind_of}
use Rattle.ps_world.specs.Names.{same_name}
use Rattle.ps_world.specs.declared.actions.ActionDef.{ActionDef}
use Rattle.ps_world.specs.declared.domains.Domain.{Domain}
use Rattle.ps_world.specs.declared.domains.Param.{Param}
use Rattle.ps_world.specs.declared.known.Knowledge.{Knowledge}
use Rattle.ps_world.specs.declared.names.Name.{Name}
use Rattle.ps_action.specs.Grounding.{by_name, picks}
use Rattle.ps_action.specs.Search.{possible_acts}
use Rattle.ps_action.specs.Truth.{fits}
use Rattle.ps_action.specs.declared.acts.Act.{Act}
use Rattle.ps_domain.specs.Listing.{choices_in}
use Rattle.ps_domain.proofs.Counts.{apart, tied}
use Rattle.ps_domain.proofs.Indexes.{same_turned}
use Rattle.ps_domain.proofs.Pairs.{each_mapped, each_piece, each_weaker}
use Rattle.ps_ground.specs.Acts.{act_with, acts_with}
use Rattle.ps_ground.specs.Fitting.{AreFirstActions, AreFirstInstances, AreFit, IsFit, all_fit}
use Rattle.ps_ground.specs.Thinned.{IsThinned}
use Rattle.ps_ground.proofs.Fitted.{are_fit}
use Rattle.ps_ground.proofs.Listing.{acts_are}
use Rattle.ps_ground.proofs.Rising.{AreUnder}

-- ---- what stands once is found

-- an instance is found behind those whose names are below it
pub found_instance : (n : ℕ) (i : Name × Name) (before after : List (Name × Name)) → n ≤ i.0.0 → AreUnder n before → lookup (same_name i.0) (before ++ i ∷ after) ≡ Some i.1
found_instance n i [] after up h = ap (λ (b : Bool). cond b (Some i.1) (lookup (same_name i.0) after)) (tied i.0 i.0 refl)
found_instance n i (j ∷ before) after up h =
    ap (λ (b : Bool). cond b (Some j.1) (lookup (same_name i.0) (before ++ i ∷ after))) (same_turned i.0 j.0 ∙ apart j.0 i.0 (omega (arith, up, h.0))) ∙ found_instance n i before after up h.1

-- an action is found behind those with other names
pub found_action : (a : ActionDef) (before after : List ActionDef) → list_any (λ b. same_name a.name b.name) before ≡ false → find (λ b. same_name a.name b.name) (before ++ a ∷ after) ≡ Some a
found_action a [] after h = ap (λ (t : Bool). cond t (Some a) (find (λ b. same_name a.name b.name) after)) (tied a.name a.name refl)
found_action a (b ∷ before) after h =
    let w = or_parts (same_name a.name b.name) (list_any (λ c. same_name a.name c.name) before) h in
    ap (λ (t : Bool). cond t (Some b) (find (λ c. same_name a.name c.name) (before ++ a ∷ after))) w.0 ∙ found_action a before after w.1

-- ---- what is chosen fits

module _ (d : Domain) (k : Knowledge) where
  chosen_at : (p : Param) (i : Name × Name) (is : List (Name × Name)) (b : Bool) → is_below d i.1 p.kind ≡ b → kind_of k i.0 ≡ Some i.1 → AllByRecursion (λ j. fits d (kind_of k j.0) p.kind ≡ true) is
      → AllByRecursion (λ j. fits d (kind_of k j.0) p.kind ≡ true) (cond b (i ∷ is) is)
  chosen_at p i is true e there rest = (ap (λ o. fits d o p.kind) there ∙ e, rest)
  chosen_at p i is false e there rest = rest

  chosen_of : (p : Param) (is : List (Name × Name)) → AllByRecursion (λ i. kind_of k i.0 ≡ Some i.1) is → AllByRecursion (λ i. fits d (kind_of k i.0) p.kind ≡ true) (filter (λ i. is_below d i.1 p.kind) is)
  chosen_of p [] a = tt
  chosen_of p (i ∷ is) a = chosen_at p i (filter (λ j. is_below d j.1 p.kind) is) (is_below d i.1 p.kind) refl a.0 (chosen_of p is a.1)

  -- the arguments are as many as the parameters, and fit them
  abbrev Fit : List Param → List Name → Type 0
  Fit ps args = (length ps ≡ length args) × (all_fit d k ps args ≡ true)

  -- what is left of acts that fit
  pub fit_left : (P : Act → Type 0) (kept acts : List Act) → IsThinned P kept acts → AllByRecursion (IsFit d k) acts → AreFit d k kept
  fit_left P kept [] e a = subst (AreFit d k) (sym e) tt
  fit_left P [] (act ∷ acts) w a = tt
  fit_left P (other ∷ kept) (act ∷ acts) w a =
      elim w [
        | inl h ↦ (subst (IsFit d k) (sym h.0) a.0, fit_left P kept acts h.1 a.1)
        | inr h ↦ fit_left P (other ∷ kept) acts h.1 a.1
      ]

  module _ (once : AreFirstInstances k.instances) where
    chosen : (p : Param) → AllByRecursion (λ n. fits d (kind_of k n) p.kind ≡ true) (choices_in d k.instances p)
    chosen p = each_mapped (λ n. fits d (kind_of k n) p.kind ≡ true) (λ i. i.0) (filter (λ i. is_below d i.1 p.kind) k.instances) (chosen_of p k.instances once)

    picked : (ps : List Param) → AllByRecursion (Fit ps) (picks (map (choices_in d k.instances) ps))
    picked [] = ((refl, refl), tt)
    picked (p ∷ ps) =
        let rest = picks (map (choices_in d k.instances) ps) in
        let longer : Name → List (List Name) = λ n. map (λ args. n ∷ args) rest in
        let one : (n : Name) → fits d (kind_of k n) p.kind ≡ true → AllByRecursion (Fit (p ∷ ps)) (longer n) =
        λ n h. each_mapped (Fit (p ∷ ps)) (λ args. n ∷ args) rest (each_weaker (Fit ps) (λ args. Fit (p ∷ ps) (n ∷ args)) (λ args f. (ap suc f.0, and_from (fits d (kind_of k n) p.kind) (all_fit d k ps args) h f.1)) rest (picked ps)) in
        each_piece (Fit (p ∷ ps)) longer (choices_in d k.instances p) (each_weaker (λ n. fits d (kind_of k n) p.kind ≡ true) (λ n. AllByRecursion (Fit (p ∷ ps)) (longer n)) one (choices_in d k.instances p) (chosen p))

    -- each act of an action
    acts_fit : (a : ActionDef) → action_of d a.name ≡ Some a → AllByRecursion (IsFit d k) (acts_with d k.instances a)
    acts_fit a is =
        let lists = picks (map (choices_in d k.instances) a.params) in
        each_mapped (IsFit d k) (act_with a) lists (each_weaker (Fit a.params) (λ args. IsFit d k (act_with a args)) (λ args f. are_fit d k (act_with a args) a is f.0 f.1) lists (picked a.params))

    -- each possible act
    pub all_acts_fit : by_name k.instances ≡ k.instances → AreFirstActions d.actions → AllByRecursion (IsFit d k) (possible_acts d k)
    all_acts_fit same first =
        subst (AllByRecursion (IsFit d k)) (acts_are d k.instances k.instances (sym same))
        (each_piece (IsFit d k) (acts_with d k.instances) d.actions (each_weaker (λ a. action_of d a.name ≡ Some a) (λ a. AllByRecursion (IsFit d k) (acts_with d k.instances a)) acts_fit d.actions first))
