-- Acts whose arguments fit can be grounded, and their arguments fit in every state.
use Rattle.std.proofs.Common.{◌≡◌, ℕ, ◌+◌, Bool, true, false, ◌&&◌, List, [], ◌∷◌, ◌++◌, Option, Some, None, Err, cond, length, refl, ap, sym, ◌∙◌, eq-eqb}
use Rattle.std.specs.Option.{option_or}
use Rattle.std.specs.Result.{result_ok}
use Rattle.std.proofs.lemmas.Bool.{and_from, and_parts}
use Rattle.ps_world.specs.Knowledge.{action_of, is_below, kind_of}
use Rattle.ps_world.specs.declared.actions.ActionDef.{ActionDef}
use Rattle.ps_world.specs.declared.domains.Domain.{Domain}
use Rattle.ps_world.specs.declared.domains.Param.{Param}
use Rattle.ps_world.specs.declared.known.Knowledge.{Knowledge}
use Rattle.ps_world.specs.declared.names.Name.{Name}
use Rattle.ps_action.specs.Refusals.{unless}
use Rattle.ps_action.specs.Grounding.{first_unfit, fitting, ground_act, ground_by, grounded, unfit}
use Rattle.ps_action.specs.Truth.{all_true, fits}
use Rattle.ps_action.specs.declared.acts.Act.{Act}
use Rattle.ps_action.specs.declared.acts.GroundAction.{GroundAction}
use Rattle.ps_action.specs.declared.refusals.GroundRefusal.{GroundRefusal}
use Rattle.ps_action.specs.declared.refusals.GroundRefusal.TheVariants.{Arity, WrongType}
use Rattle.ps_ground.specs.Fitting.{AreFit, IsFit, all_fit}
use Rattle.ps_ground.specs.States.{State, at}

module _ (d : Domain) (k : Knowledge) where
  -- what fits does so in every state
  fit_always : (ps : List Param) (ns : List Name) → all_fit d k ps ns ≡ true → (s : State) → all_true d (at k s) (fitting ps ns) ≡ true
  fit_always [] ns e s = refl
  fit_always (p ∷ ps) [] e s = refl
  fit_always (p ∷ ps) (n ∷ ns) e s =
      let w = and_parts (fits d (kind_of k n) p.kind) (all_fit d k ps ns) e in
      and_from (fits d (kind_of k n) p.kind) (all_true d (at k s) (fitting ps ns)) w.0 (fit_always ps ns w.1 s)

  fits_one : (o : Option Name) (want n : Name) (i : ℕ) (rest : Option GroundRefusal) → fits d o want ≡ true → option_or (unfit d o want n i) rest ≡ rest
  fits_one None want n i rest e = absurd (cc)
  fits_one (Some kind) want n i rest e = ap (λ b. option_or (cond b None (Some (WrongType i))) rest) e

  none_unfit : (ps : List Param) (ns : List Name) (i : ℕ) → all_fit d k ps ns ≡ true → first_unfit d k.instances ps ns i ≡ None
  none_unfit [] ns i e = refl
  none_unfit (p ∷ ps) [] i e = refl
  none_unfit (p ∷ ps) (n ∷ ns) i e =
      let w = and_parts (fits d (kind_of k n) p.kind) (all_fit d k ps ns) e in
      fits_one (kind_of k n) p.kind n i (first_unfit d k.instances ps ns (i + 1)) w.0 ∙ none_unfit ps ns (i + 1) w.1

  module _ (g : GroundAction) where
    by_test : (b c : Bool) (why : GroundRefusal) (rest : Option GroundRefusal) → (b && c) ≡ false → (c ≡ false → result_ok (unless rest g) ≡ None) → result_ok (unless (option_or (cond b None (Some why)) rest) g) ≡ None
    by_test true c why rest e h = h e
    by_test false c why rest e h = refl

    unfit_first : (o : Option Name) (want n : Name) (i : ℕ) (c : Bool) (rest : Option GroundRefusal) → (fits d o want && c) ≡ false → (c ≡ false → result_ok (unless rest g) ≡ None) → result_ok (unless (option_or (unfit d o want n i) rest) g) ≡ None
    unfit_first None want n i c rest e h = refl
    unfit_first (Some kind) want n i c rest e h = by_test (is_below d kind want) c _ rest e h

    one_unfit : (ps : List Param) (ns : List Name) (i : ℕ) → all_fit d k ps ns ≡ false → result_ok (unless (first_unfit d k.instances ps ns i) g) ≡ None
    one_unfit [] ns i e = absurd (cc)
    one_unfit (p ∷ ps) [] i e = absurd (cc)
    one_unfit (p ∷ ps) (n ∷ ns) i e = unfit_first (kind_of k n) p.kind n i (all_fit d k ps ns) (first_unfit d k.instances ps ns (i + 1)) e (one_unfit ps ns (i + 1))

  module _ (act : Act) (a : ActionDef) (is : action_of d act.action ≡ Some a) (same : length a.params ≡ length act.args) where
    by_fit : ground_act d k.instances act ≡ unless (first_unfit d k.instances a.params act.args 0) (grounded a act)
    by_fit =
        ap (λ o. ground_by d k.instances o act) is
        ∙ ap (λ b. cond b (unless (first_unfit d k.instances a.params act.args 0) (grounded a act)) (Err (Arity (length a.params) (length act.args)))) (eq-eqb (length a.params) (length act.args) same)

    -- an act whose arguments fit
    pub are_fit : all_fit d k a.params act.args ≡ true → IsFit d k act
    are_fit e = record {
      action = a;
      declared = is;
      made = by_fit ∙ ap (λ o. unless o (grounded a act)) (none_unfit a.params act.args 0 e);
      fit = fit_always a.params act.args e;
    }

    -- an act of which one doesn't
    pub are_unfit : all_fit d k a.params act.args ≡ false → result_ok (ground_act d k.instances act) ≡ None
    are_unfit e = ap result_ok by_fit ∙ one_unfit (grounded a act) a.params act.args 0 e

-- the ground action of an act that fits is of the action that its name means
pub fit_grounds : (d : Domain) (k : Knowledge) (act : Act) (a : ActionDef) → action_of d act.action ≡ Some a → IsFit d k act → result_ok (ground_act d k.instances act) ≡ Some (grounded a act)
fit_grounds d k act a is fit =
    let same : fit.action ≡ a = cc (is, fit.declared) in
    ap result_ok fit.made ∙ ap (λ (b : ActionDef). Some (grounded b act)) same

-- and its arguments fit the parameters of that
pub fit_args : (d : Domain) (k : Knowledge) (act : Act) (a : ActionDef) → action_of d act.action ≡ Some a → IsFit d k act → (s : State) → all_true d (at k s) (fitting a.params act.args) ≡ true
fit_args d k act a is fit s =
    let same : fit.action ≡ a = cc (is, fit.declared) in
    ap (λ (b : ActionDef). all_true d (at k s) (fitting b.params act.args)) (sym same) ∙ fit.fit s

-- one more that fits
pub fit_more : (d : Domain) (k : Knowledge) (acts : List Act) (act : Act) → AreFit d k acts → IsFit d k act → AreFit d k (acts ++ act ∷ [])
fit_more d k [] act all one = (one, tt)
fit_more d k (a ∷ acts) act all one = (all.0, fit_more d k acts act all.1 one)
