-- What effects change.
use Rattle.std.specs.Prelude.{ℕ, ℤ, ◌+ℤ◌, ◌-ℤ◌, Bool, false, not, if◌then◌else◌, Option, Some, None, option_map, option_and_then, Result, List, [], ◌∷◌, ◌++◌, map, filter, filter_map, flat_map, fold, length}
use Rattle.std.specs.List.{list_any}
use Rattle.std.specs.Option.{option_or}
use Rattle.std.specs.BTreeMap.{insert_entry}
use Rattle.std.specs.BTreeSet.{insert_key}
use Rattle.ps_world.specs.Facts.{fact_cmp}
use Rattle.ps_world.specs.Failures.{Gives}
use Rattle.ps_world.specs.Trees.{ExprTree}
use Rattle.ps_world.specs.ExprViews.{expr_tree}
use Rattle.ps_world.specs.CondViews.{cond_tree}
use Rattle.ps_world.specs.Knowledge.{ground, same_fact, value_in}
use Rattle.ps_world.specs.declared.failures.Failure.{Failure}
use Rattle.ps_world.specs.declared.names.Name.{Name}
use Rattle.ps_world.specs.declared.numbers.Num.{Num}
use Rattle.ps_world.specs.declared.facts.Fact.{Fact}
use Rattle.ps_world.specs.declared.actions.NumOp.{NumOp}
use Rattle.ps_world.specs.declared.actions.NumOp.TheVariants.{Assign, Increase, Decrease, ScaleUp, ScaleDown}
use Rattle.ps_world.specs.declared.actions.Effect.{Effect}
use Rattle.ps_world.specs.declared.actions.Effect.TheVariants.{Add, Delete, Number}
use Rattle.ps_world.specs.declared.actions.Guarded.{Guarded}
use Rattle.ps_world.specs.declared.actions.Guarded.TheVariants.{Plain, When}
use Rattle.ps_world.specs.declared.actions.Spread.{Spread}
use Rattle.ps_world.specs.declared.actions.Spread.TheVariants.{Once, ForAll}
use Rattle.ps_world.specs.declared.domains.Domain.{Domain}
use Rattle.ps_world.specs.declared.known.Knowledge.{Knowledge}
use Rattle.ps_action.specs.declared.refusals.EffectRefusal.{EffectRefusal}
use Rattle.ps_action.specs.declared.refusals.EffectRefusal.TheVariants.{Clash, Undefined, Range}
use Rattle.ps_action.specs.Bindings.{bindings}
use Rattle.ps_action.specs.Grounding.{put_effect}
use Rattle.ps_action.specs.Refusals.{unless}
use Rattle.ps_action.specs.Truth.{is_true_with}
use Rattle.ps_action.specs.Values.{in_range, of_both, product, quotient, value}

-- ---- the effects of a list

-- an effect where variables stand for these names; effects under a condition, where it holds, and else none
abbrev pub flat_guarded : Domain → Knowledge → List Name → Guarded → List Effect
flat_guarded d k env (Plain e) = put_effect env e ∷ []
flat_guarded d k env (When c es) = if is_true_with d k env (cond_tree c) then map (put_effect env) es else []

-- what stands once, where no variable stands for a name; what stands for each choice of instances once for each, in the order of the choices
abbrev pub flat_spread : Domain → Knowledge → Spread → List Effect
flat_spread d k (Once g) = flat_guarded d k [] g
flat_spread d k (ForAll ps gs) = flat_map (λ env. flat_map (flat_guarded d k env) gs) (bindings d k.instances ps [])

-- the effects that a list stands for in a state
abbrev pub flat : Domain → Knowledge → List Spread → List Effect
flat d k es = flat_map (flat_spread d k) es

-- effects that stand once, with no condition, as a list of effects
abbrev pub plainly : List Effect → List Spread
plainly es = map (λ e. Once (Plain e)) es

-- ---- the new value that a numeric effect gives

-- the count of thousandths that an old value becomes by a number, where that is defined: only to be assigned it needs no old value
abbrev pub new_count : NumOp → Option Num → Option Num → Option ℤ
new_count Assign old by = by
new_count Increase old by = of_both (λ x y. Some (x +ℤ y)) old by
new_count Decrease old by = of_both (λ x y. Some (x -ℤ y)) old by
new_count ScaleUp old by = of_both (λ x y. Some (product x y)) old by
new_count ScaleDown old by = of_both quotient old by

-- the count that a numeric effect gives a function term in this knowledge, where it is defined
abbrev pub count_after : Knowledge → NumOp → Fact → ExprTree → Option ℤ
count_after k how f x = new_count how (value_in k f) (value k x)

-- the function term that an effect gives a value, with that value, where it is defined and in range
abbrev pub value_set : Knowledge → Effect → Option (Fact × Num)
value_set k (Add l) = None
value_set k (Delete l) = None
value_set k (Number how l x) = option_map (λ n. (ground l, n)) (option_and_then in_range (count_after k how (ground l) (expr_tree x)))

-- the function terms that flat effects give values, each with its value
abbrev pub values_of_flat : Knowledge → List Effect → List (Fact × Num)
values_of_flat k es = filter_map (value_set k) es

-- the function terms that a list of effects gives values, each with its value
abbrev pub values_set : Domain → Knowledge → List Spread → List (Fact × Num)
values_set d k es = values_of_flat k (flat d k es)

-- ---- what is at fault

-- why there is no new value, if there is none
abbrev pub range_fault : ℕ → Option Num → Option EffectRefusal
range_fault at None = Some (Range at)
range_fault at (Some n) = None

abbrev pub count_fault : ℕ → Option ℤ → Option EffectRefusal
count_fault at None = Some (Undefined at)
count_fault at (Some z) = range_fault at (in_range z)

-- whether an effect gives this function term a value
abbrev pub sets : Fact → Effect → Bool
sets f (Add l) = false
sets f (Delete l) = false
sets f (Number how l x) = same_fact f (ground l)

-- What is at fault with an effect at its place, after those before it: that one of them gives the same term a value, that the
-- new value isn't defined, or that it is out of range.
abbrev pub fault_of_effect : Knowledge → List Effect → ℕ → Effect → Option EffectRefusal
fault_of_effect k before at (Add l) = None
fault_of_effect k before at (Delete l) = None
fault_of_effect k before at (Number how l x) =
    if list_any (sets (ground l)) before then Some (Clash at) else count_fault at (count_after k how (ground l) (expr_tree x))

-- the first fault of these effects, after those before them
abbrev pub faults_from : Knowledge → List Effect → List Effect → Option EffectRefusal
faults_from k before [] = None
faults_from k before (e ∷ es) = option_or (fault_of_effect k before (length before) e) (faults_from k (before ++ e ∷ []) es)

-- the first fault of flat effects: all new values are those in this knowledge
abbrev pub fault_of_flat : Knowledge → List Effect → Option EffectRefusal
fault_of_flat k es = faults_from k [] es

-- the first fault of a list of effects, by its place among those that the list stands for
abbrev pub fault_of_effects : Domain → Knowledge → List Spread → Option EffectRefusal
fault_of_effects d k es = fault_of_flat k (flat d k es)

-- whether an effect gives a function term a value that one of those before it gives a value
abbrev pub clashes : List Effect → Effect → Bool
clashes before (Add l) = false
clashes before (Delete l) = false
clashes before (Number how l x) = list_any (sets (ground l)) before

-- the place of the first of these effects that clashes, after those before them
abbrev pub clash_from : List Effect → List Effect → Option ℕ
clash_from before [] = None
clash_from before (e ∷ es) = if clashes before e then Some (length before) else clash_from (before ++ e ∷ []) es

-- the place of the first of flat effects that clashes, which is the same in every state
abbrev pub first_clash : List Effect → Option ℕ
first_clash es = clash_from [] es

-- ---- the change

-- whether an effect deletes this fact
abbrev pub deletes : Fact → Effect → Bool
deletes f (Add l) = false
deletes f (Delete l) = same_fact f (ground l)
deletes f (Number how l x) = false

-- the fact that an effect adds, if it adds one
abbrev pub added_by : Effect → Option Fact
added_by (Add l) = Some (ground l)
added_by (Delete l) = None
added_by (Number how l x) = None

-- values with one more, which stands in place of an old one
abbrev pub with_value : List (Fact × Num) → Fact × Num → List (Fact × Num)
with_value values v = insert_entry fact_cmp values v.0 v.1

-- Knowledge with the deletes of flat effects made, then their adds, then these values put in.
abbrev pub made : Knowledge → List Effect → List (Fact × Num) → Knowledge
made k es ready = record k {
  facts = fold (insert_key fact_cmp) (filter (λ f. not (list_any (deletes f) es)) k.facts) (filter_map added_by es);
  values = fold with_value k.values ready;
}

-- the knowledge after flat effects, or their first fault
abbrev pub effect_flat : Knowledge → List Effect → Result Knowledge EffectRefusal
effect_flat k es = unless (fault_of_flat k es) (made k es (values_of_flat k es))

-- the knowledge after a list of effects, or its first fault
abbrev pub effect : Domain → Knowledge → List Spread → Result Knowledge EffectRefusal
effect d k es = effect_flat k (flat d k es)

-- the answer to a list of effects: the knowledge after it, or its first fault, unless memory ran out
abbrev pub Applies : Domain → Knowledge → List Spread → Result Knowledge (Failure EffectRefusal) → Type 0
Applies d k es r = Gives (λ new. new) r (effect d k es)
