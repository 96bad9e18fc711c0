-- What a list of effects may add: with arguments put in, and in each state.
use Rattle.std.proofs.Common.{◌≡◌, Bool, true, false, cond, ◌||◌, Option, Some, None, List, [], ◌∷◌, ◌++◌, filter_map, flat_map, map, refl, ap, sym, ◌∙◌}
use Rattle.std.specs.List.{cons_option, list_any}
use Rattle.std.specs.Option.{option_map_or}
use Rattle.std.proofs.lemmas.Bool.{or_from, or_parts}
use Rattle.std.proofs.lemmas.List.{append-nil}
use Rattle.std.proofs.lemmas.List.Concat.{flat_map_single}
use Rattle.std.proofs.lemmas.List.Folds.{flat_map-map, list_any-append}
use Rattle.ps_world.specs.CondViews.{cond_tree}
use Rattle.ps_world.specs.Knowledge.{same_fact}
use Rattle.ps_world.specs.declared.actions.ActionDef.{ActionDef}
use Rattle.ps_world.specs.declared.actions.Effect.{Effect}
use Rattle.ps_world.specs.declared.actions.Effect.TheVariants.{Add, Delete, Number}
use Rattle.ps_world.specs.declared.actions.Guarded.{Guarded}
use Rattle.ps_world.specs.declared.actions.Guarded.TheVariants.{Plain, When}
use Rattle.ps_world.specs.declared.actions.Spread.{Spread}
use Rattle.ps_world.specs.declared.actions.Spread.TheVariants.{Once, ForAll}
use Rattle.ps_world.specs.declared.domains.Domain.{Domain}
use Rattle.ps_world.specs.declared.facts.Fact.{Fact}
use Rattle.ps_world.specs.declared.known.Knowledge.{Knowledge}
use Rattle.ps_world.specs.declared.names.Name.{Name}
use Rattle.ps_action.specs.Bindings.{bindings}
use Rattle.ps_action.specs.Effects.{added_by, flat, flat_guarded, flat_spread}
use Rattle.ps_action.specs.Grounding.{grounded, put_effect, put_guarded, put_spread}
use Rattle.ps_action.specs.Truth.{is_true_with}
use Rattle.ps_action.specs.declared.acts.Act.{Act}
use Rattle.ps_action.proofs.Grounded.{chosen, ground_put, ground_put_in}
use Rattle.ps_ground.specs.Atoms.{AddAtoms, MayAddAtoms, added_in, adds, may_add, may_add_part, may_add_spread}
use Rattle.ps_ground.specs.States.{State, at}

-- ---- lists in which nothing passes a test

module _ {A : Type 0} (p : A → Bool) where
  pub split_none : (xs ys : List A) → list_any p (xs ++ ys) ≡ false → (list_any p xs ≡ false) × (list_any p ys ≡ false)
  split_none xs ys e = or_parts (list_any p xs) (list_any p ys) (sym (list_any-append p xs ys) ∙ e)

  pub join_none : (xs ys : List A) → list_any p xs ≡ false → list_any p ys ≡ false → list_any p (xs ++ ys) ≡ false
  join_none xs ys e h = list_any-append p xs ys ∙ or_from (list_any p xs) (list_any p ys) e h

-- what is so of each item is so of all
pub none_through : {A B C : Type 0} (p : B → Bool) (q : C → Bool) (g : A → List B) (h : A → List C) → ((x : A) → list_any p (g x) ≡ false → list_any q (h x) ≡ false) → (xs : List A) → list_any p (flat_map g xs) ≡ false → list_any q (flat_map h xs) ≡ false
none_through p q g h so [] e = refl
none_through p q g h so (x ∷ xs) e =
    let w = split_none p (g x) (flat_map g xs) e in
    join_none q (h x) (flat_map h xs) (so x w.0) (none_through p q g h so xs w.1)

-- ---- in each state

module _ (f : Fact) where
  -- whether an effect adds it
  abbrev adds_it : Effect → Bool
  adds_it e = option_map_or (same_fact f) (added_by e) false

  any_added : (es : List Effect) → list_any adds_it es ≡ list_any (same_fact f) (filter_map added_by es)
  any_added [] = refl
  any_added (e ∷ es) = by (added_by e) (any_added es)
    where
      by : (o : Option Fact) → list_any adds_it es ≡ list_any (same_fact f) (filter_map added_by es) → (option_map_or (same_fact f) o false || list_any adds_it es) ≡ list_any (same_fact f) (cons_option o (filter_map added_by es))
      by None rest = rest
      by (Some g) rest = ap (λ b. same_fact f g || b) rest

  effect_none : (env : List Name) (e : Effect) → list_any (same_fact f) (added_in env e) ≡ false → list_any adds_it (put_effect env e ∷ []) ≡ false
  effect_none env (Add l) h = ap (λ g. same_fact f g || false) (ground_put_in env l) ∙ h
  effect_none env (Delete l) h = refl
  effect_none env (Number how l x) h = refl

  effects_none : (env : List Name) (es : List Effect) → list_any (same_fact f) (flat_map (added_in env) es) ≡ false → list_any adds_it (map (put_effect env) es) ≡ false
  effects_none env es h =
      ap (list_any adds_it) (sym (flat_map_single (put_effect env) es))
      ∙ none_through (same_fact f) adds_it (added_in env) (λ e. put_effect env e ∷ []) (effect_none env) es h

  where_none : (b : Bool) (es : List Effect) → list_any adds_it es ≡ false → list_any adds_it (cond b es []) ≡ false
  where_none true es h = h
  where_none false es h = refl

  module _ (d : Domain) (k : Knowledge) where
    part_none : (env : List Name) (g : Guarded) → list_any (same_fact f) (may_add_part env g) ≡ false → list_any adds_it (flat_guarded d k env g) ≡ false
    part_none env (Plain e) h = effects_none env (e ∷ []) h
    part_none env (When c es) h = where_none (is_true_with d k env (cond_tree c)) (map (put_effect env) es) (effects_none env es h)

    spread_none : (s : Spread) → list_any (same_fact f) (may_add_spread d k [] s) ≡ false → list_any adds_it (flat_spread d k s) ≡ false
    spread_none (Once g) h = part_none [] g h
    spread_none (ForAll ps gs) h =
        none_through (same_fact f) adds_it (λ env. flat_map (may_add_part env) gs) (λ env. flat_map (flat_guarded d k env) gs)
        (λ env. none_through (same_fact f) adds_it (may_add_part env) (flat_guarded d k env) (part_none env) gs)
        (bindings d k.instances ps []) h

    list_none : (es : List Spread) → list_any (same_fact f) (may_add d k [] es) ≡ false → list_any (same_fact f) (filter_map added_by (flat d k es)) ≡ false
    list_none es h = sym (any_added (flat d k es)) ∙ none_through (same_fact f) adds_it (may_add_spread d k []) (flat_spread d k) spread_none es h

-- effects that may add atoms alone add atoms alone in each state
pub always_atoms : (d : Domain) (k : Knowledge) (atoms : List Fact) (es : List Spread) → MayAddAtoms d k atoms es → (s : State) → AddAtoms atoms (flat d (at k s) es)
always_atoms d k atoms es a s f gone = list_none f d (at k s) es (a f gone)

-- ---- arguments put in

module _ (d : Domain) (k : Knowledge) (args : List Name) where
  effect_put : (env : List Name) (e : Effect) → added_in env (put_effect args e) ≡ added_in (args ++ env) e
  effect_put env (Add l) = ap (λ f. f ∷ []) (ground_put args env l)
  effect_put env (Delete l) = refl
  effect_put env (Number how l x) = refl

  effects_put : (env : List Name) (es : List Effect) → flat_map (added_in env) (map (put_effect args) es) ≡ flat_map (added_in (args ++ env)) es
  effects_put env es = flat_map-map (added_in env) (put_effect args) es ∙ (λ i. flat_map (λ e. effect_put env e i) es)

  part_put : (env : List Name) (g : Guarded) → may_add_part env (put_guarded args g) ≡ may_add_part (args ++ env) g
  part_put env (Plain e) = effects_put env (e ∷ [])
  part_put env (When c es) = effects_put env es

  parts_put : (env : List Name) (gs : List Guarded) → flat_map (may_add_part env) (map (put_guarded args) gs) ≡ flat_map (may_add_part (args ++ env)) gs
  parts_put env gs = flat_map-map (may_add_part env) (put_guarded args) gs ∙ (λ i. flat_map (λ g. part_put env g i) gs)

  spread_put : (s : Spread) → may_add_spread d k [] (put_spread args s) ≡ may_add_spread d k args s
  spread_put (Once g) = part_put [] g ∙ ap (λ env. may_add_part env g) (append-nil args)
  spread_put (ForAll ps gs) =
      let of : List Name → List Fact = λ env. flat_map (may_add_part env) gs in
      (λ i. flat_map (λ env. parts_put env gs i) (bindings d k.instances ps []))
      ∙ sym (flat_map-map of (λ env. args ++ env) (bindings d k.instances ps []))
      ∙ ap (flat_map of) (sym (chosen d k.instances ps args []))
      ∙ ap (λ env. flat_map of (bindings d k.instances ps env)) (append-nil args)

  list_put : (es : List Spread) → may_add d k [] (map (put_spread args) es) ≡ may_add d k args es
  list_put es = flat_map-map (may_add_spread d k []) (put_spread args) es ∙ (λ i. flat_map (λ s. spread_put s i) es)

-- what the ground action of an act may add, by its action
pub adds_put : (d : Domain) (k : Knowledge) (a : ActionDef) (act : Act) → adds d k (grounded a act) ≡ may_add d k act.args a.effects.at_start ++ may_add d k act.args a.effects.at_end
adds_put d k a act = λ i. list_put d k act.args a.effects.at_start i ++ list_put d k act.args a.effects.at_end i
