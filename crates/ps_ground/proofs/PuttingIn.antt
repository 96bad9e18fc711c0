-- Conditions and effects with arguments put in.
use Rattle.std.proofs.Common.{◌≡◌, ℕ, Bool, true, false, ◌&&◌, List, [], ◌∷◌, ◌++◌, Some, length, map, nat_eq, refl, ap, sym, ◌∙◌, arith, eqb-true}
use Rattle.std.specs.Prelude.{slice_get}
use Rattle.std.specs.List.{list_all, list_any}
use Rattle.std.specs.Option.{option_map_or}
use Rattle.std.proofs.lemmas.List.Folds.{list_all-append}
use Rattle.ps_world.specs.Bound.{ground_in}
use Rattle.ps_world.specs.Knowledge.{same_fact}
use Rattle.ps_world.specs.Trees.{CondTree, CondTrees, all_of, any_of, no, implied, holds, same, compares, is_a, for_some, for_all, none, more}
use Rattle.ps_world.specs.declared.actions.ActionDef.{ActionDef}
use Rattle.ps_world.specs.declared.actions.Guarded.{Guarded}
use Rattle.ps_world.specs.declared.actions.Guarded.TheVariants.{Plain, When}
use Rattle.ps_world.specs.declared.actions.Spread.{Spread}
use Rattle.ps_world.specs.declared.actions.Spread.TheVariants.{Once, ForAll}
use Rattle.ps_world.specs.declared.conditions.Cond.{Cond}
use Rattle.ps_world.specs.declared.conditions.Cond.TheVariants as to
use Rattle.ps_world.specs.declared.domains.Domain.{Domain}
use Rattle.ps_world.specs.declared.facts.Fact.{Fact}
use Rattle.ps_world.specs.declared.known.Knowledge.{Knowledge}
use Rattle.ps_world.specs.declared.names.Name.{Name}
use Rattle.ps_world.specs.declared.schemas.Lifted.{Lifted}
use Rattle.ps_action.proofs.Plainly.{no_effect, no_effects, no_lifted, no_term, no_tree}
use Rattle.ps_action.specs.Grounding.{fitting, grounded, put_cond, put_conds, put_condition, put_guarded, put_spread}
use Rattle.ps_action.specs.Truth.{all_true, is_true}
use Rattle.ps_action.specs.declared.acts.Act.{Act}
use Rattle.ps_action.specs.declared.acts.GroundAction.{GroundAction}
use Rattle.ps_ground.specs.Atoms.{AreAtoms, adds, may_add}
use Rattle.ps_ground.specs.Fitting.{parts_with}
use Rattle.ps_ground.specs.Prepared.{known_at, passes}
use Rattle.ps_ground.specs.States.{State, at, stepped}
use Rattle.ps_ground.specs.declared.prepared.Test.{Test}
use Rattle.ps_ground.proofs.Fixedness.{fact_put_in}
use Rattle.ps_ground.proofs.Settled.{alike_steps, both_true}

-- ---- no arguments

mutual
  pub no_cond : (c : CondTree) → put_cond [] c ≡ c
  no_cond (all_of cs) = ap all_of (no_conds cs)
  no_cond (any_of cs) = ap any_of (no_conds cs)
  no_cond (no c) = ap no (no_cond c)
  no_cond (implied a b) = λ i. implied (no_cond a i) (no_cond b i)
  no_cond (holds l) = ap holds (no_lifted l)
  no_cond (same s t) = λ i. same (no_term s i) (no_term t i)
  no_cond (compares rel x y) = λ i. compares rel (no_tree x i) (no_tree y i)
  no_cond (is_a t kind) = λ i. is_a (no_term t i) kind
  no_cond (for_some ps c) = ap (for_some ps) (no_cond c)
  no_cond (for_all ps c) = ap (for_all ps) (no_cond c)

  no_conds : (cs : CondTrees) → put_conds [] cs ≡ cs
  no_conds none = refl
  no_conds (more c cs) = λ i. more (no_cond c i) (no_conds cs i)

pub no_list : (cs : List CondTree) → map (put_cond []) cs ≡ cs
no_list [] = refl
no_list (c ∷ cs) = λ i. no_cond c i ∷ no_list cs i

-- an empty list is that of no items
pub none_of : {A : Type 0} (xs : List A) (b : Bool) → b ≡ nat_eq (length xs) 0 → b ≡ true → xs ≡ []
none_of [] b e h = refl
none_of (x ∷ xs) b e h =
    let none : length (x ∷ xs) ≡ 0 = eqb-true (length (x ∷ xs)) 0 (sym e ∙ h) in
    absurd (omega arith)

-- ---- tests

move_in : (a p o : Bool) → ((a && (p && true)) && o) ≡ ((a && o) && p)
move_in true true true = refl
move_in true true false = refl
move_in true false true = refl
move_in true false false = refl
move_in false p o = refl

module _ (d : Domain) (k : Knowledge) (s : State) (args : List Name) (l : Lifted) where
  -- whether a fact with arguments put in is known
  pub known_in : is_true d (at k s) (put_cond args (holds l)) ≡ list_any (same_fact (ground_in args l)) s.facts
  known_in = ap (λ f. list_any (same_fact f) s.facts) (fact_put_in args l)

  -- one more place is tested
  pub taken_fact : (atoms : List Fact) (old : Test) (others : List CondTree) (wanted : List ℕ) (i : ℕ) → wanted ≡ old.wanted.items ++ i ∷ [] → others ≡ old.others → slice_get atoms i ≡ Some (ground_in args l) → (list_all (known_at atoms s) wanted && all_true d (at k s) others) ≡ (passes d k atoms old s && is_true d (at k s) (put_cond args (holds l)))
  taken_fact atoms old others wanted i w o there =
      let known : known_at atoms s i ≡ is_true d (at k s) (put_cond args (holds l)) = ap (λ f. option_map_or (λ f. list_any (same_fact f) s.facts) f false) there ∙ sym known_in in
      (λ j. list_all (known_at atoms s) (w j) && all_true d (at k s) (o j))
      ∙ ap (λ b. b && all_true d (at k s) old.others) (list_all-append (known_at atoms s) old.wanted.items (i ∷ []))
      ∙ move_in (list_all (known_at atoms s) old.wanted.items) (known_at atoms s i) (all_true d (at k s) old.others)
      ∙ ap (λ b. passes d k atoms old s && b) known

-- ---- effects

no_condition : (c : Cond) → put_condition [] c ≡ c
no_condition (to.And cs) = ap to.And (no_list cs)
no_condition (to.Or cs) = ap to.Or (no_list cs)
no_condition (to.Not c) = ap to.Not (no_cond c)
no_condition (to.Imply a b) = λ i. to.Imply (no_cond a i) (no_cond b i)
no_condition (to.Holds l) = ap to.Holds (no_lifted l)
no_condition (to.Same s t) = λ i. to.Same (no_term s i) (no_term t i)
no_condition (to.Cmp rel x y) = λ i. to.Cmp rel (no_tree x i) (no_tree y i)
no_condition (to.IsA t kind) = λ i. to.IsA (no_term t i) kind
no_condition (to.ForSome ps c) = ap (to.ForSome ps) (no_cond c)
no_condition (to.ForAll ps c) = ap (to.ForAll ps) (no_cond c)

no_guarded : (g : Guarded) → put_guarded [] g ≡ g
no_guarded (Plain e) = ap Plain (no_effect e)
no_guarded (When c es) = λ i. When (no_condition c i) (no_effects es i)

no_parts_put : (gs : List Guarded) → map (put_guarded []) gs ≡ gs
no_parts_put [] = refl
no_parts_put (g ∷ gs) = λ i. no_guarded g i ∷ no_parts_put gs i

no_spread : (s : Spread) → put_spread [] s ≡ s
no_spread (Once g) = ap Once (no_guarded g)
no_spread (ForAll ps gs) = ap (ForAll ps) (no_parts_put gs)

pub no_spreads : (es : List Spread) → map (put_spread []) es ≡ es
no_spreads [] = refl
no_spreads (s ∷ es) = λ i. no_spread s i ∷ no_spreads es i

-- ---- ground actions

-- what a ground action may add, with nothing to put in
pub no_adds : (d : Domain) (k : Knowledge) (g : GroundAction) (atoms : List Fact) → AreAtoms atoms (adds d k g) → AreAtoms atoms (adds d k (parts_with [] g.conditions g.effects))
no_adds d k g atoms a f gone = (λ i. list_any (same_fact f) (may_add d k [] (no_spreads g.effects.at_start i) ++ may_add d k [] (no_spreads g.effects.at_end i))) ∙ a f gone

-- a ground action by its own conditions and effects, with nothing to put in
pub no_parts : (d : Domain) (k : Knowledge) (s : State) (g : GroundAction) → stepped d k s (parts_with [] g.conditions g.effects) ≡ stepped d k s g
no_parts d k s g =
    alike_steps d k (parts_with [] g.conditions g.effects) g
    (λ t. ap (all_true d (at k t)) (no_list g.conditions.at_start)) (λ t. ap (all_true d (at k t)) (no_list g.conditions.over_all)) (λ t. ap (all_true d (at k t)) (no_list g.conditions.at_end))
    (no_spreads g.effects.at_start) (no_spreads g.effects.at_end) s

module _ (d : Domain) (k : Knowledge) (a : ActionDef) (act : Act) (fit : (s : State) → all_true d (at k s) (fitting a.params act.args) ≡ true) where
  fitted : (cs : List CondTree) (s : State) → all_true d (at k s) (map (put_cond act.args) cs) ≡ all_true d (at k s) (fitting a.params act.args ++ map (put_cond act.args) cs)
  fitted cs s = ap (λ b. b && all_true d (at k s) (map (put_cond act.args) cs)) (sym (fit s)) ∙ sym (both_true d (at k s) (fitting a.params act.args) (map (put_cond act.args) cs))

  -- where the arguments fit, a ground action is its conditions and effects with arguments put in
  pub fit_parts : (s : State) → stepped d k s (parts_with act.args a.conditions a.effects) ≡ stepped d k s (grounded a act)
  fit_parts s =
      alike_steps d k (parts_with act.args a.conditions a.effects) (grounded a act)
      (fitted a.conditions.at_start) (fitted a.conditions.over_all) (fitted a.conditions.at_end) refl refl s
