-- Which values are there after effects.
use Rattle.std.proofs.Common.{◌≡◌, ℕ, ℤ, Bool, true, false, cond, ◌||◌, if◌then◌else◌, List, [], ◌∷◌, ◌++◌, Option, Some, None, option_map, option_and_then, filter_map, fold, length, inl, inr, refl, ap, sym, subst, ◌∙◌}
use Rattle.std.specs.List.{Contains, list_any, cons_option}
use Rattle.std.specs.List.Sorted.{IsStrictlySortedBy}
use Rattle.std.specs.Map.{lookup, keys_of}
use Rattle.std.specs.Option.{option_or}
use Rattle.std.proofs.lemmas.List.Folds.{list_any-append}
use Rattle.ps_world.specs.Facts.{fact_cmp}
use Rattle.ps_world.specs.ExprViews.{expr_tree}
use Rattle.ps_world.specs.Knowledge.{ground, same_fact}
use Rattle.ps_world.specs.declared.numbers.Num.{Num}
use Rattle.ps_world.specs.declared.schemas.Lifted.{Lifted}
use Rattle.ps_world.specs.declared.expressions.Expr.{Expr}
use Rattle.ps_world.specs.declared.facts.Fact.{Fact}
use Rattle.ps_world.specs.declared.actions.NumOp.{NumOp}
use Rattle.ps_world.specs.declared.actions.Effect.{Effect}
use Rattle.ps_world.specs.declared.actions.Effect.TheVariants.{Add, Delete, Number}
use Rattle.ps_world.specs.declared.known.Knowledge.{Knowledge}
use Rattle.ps_action.specs.declared.refusals.EffectRefusal.{EffectRefusal}
use Rattle.ps_action.specs.declared.refusals.EffectRefusal.TheVariants.{Clash}
use Rattle.ps_action.specs.Values.{in_range}
use Rattle.ps_action.specs.Effects.{count_after, count_fault, range_fault, fault_of_effect, faults_from, sets, value_set, with_value}
use Rattle.ps_action.specs.Laws.{IsNotSet}
use Rattle.ps_action.proofs.Facts.{facts_total}
use Rattle.ps_action.proofs.Keys.{keys-insert_entry, lookup-insert_entry, sorted-insert_key}
use Rattle.ps_action.proofs.Contained.{contains_cases, contains_first, contains_later, contains_none, fact_same, fact_itself}

-- ---- what no effect sets stays

or_first : (a b : Bool) → (a || b) ≡ false → a ≡ false
or_first true b e = e
or_first false b e = refl

pub or_rest : (a b : Bool) → (a || b) ≡ false → b ≡ false
or_rest true b e = absurd (cc)
or_rest false b e = e

-- one effect changes what is looked up only where it sets the term
stays_at : (k : Knowledge) (f : Fact) (vs : List (Fact × Num)) (g : Fact) (o : Option Num) → same_fact f g ≡ false → (rest : List (Fact × Num)) → ((ws : List (Fact × Num)) → lookup (same_fact f) (fold with_value ws rest) ≡ lookup (same_fact f) ws) → lookup (same_fact f) (fold with_value vs (cons_option (option_map (λ n. (g, n)) o) rest)) ≡ lookup (same_fact f) vs
stays_at k f vs g None s rest h = h vs
stays_at k f vs g (Some n) s rest h =
    h (with_value vs (g, n)) ∙ lookup-insert_entry facts_total f g n vs ∙ ap (λ b. cond b (Some n) (lookup (same_fact f) vs)) s

stays : (k : Knowledge) (f : Fact) (es : List Effect) → list_any (sets f) es ≡ false → (vs : List (Fact × Num)) → lookup (same_fact f) (fold with_value vs (filter_map (value_set k) es)) ≡ lookup (same_fact f) vs
stays k f [] s vs = refl
stays k f (Add l ∷ es) s vs = stays k f es s vs
stays k f (Delete l ∷ es) s vs = stays k f es s vs
stays k f (Number how l x ∷ es) s vs =
    stays_at k f vs (ground l) (option_and_then in_range (count_after k how (ground l) (expr_tree x))) (or_first (same_fact f (ground l)) (list_any (sets f) es) s) (filter_map (value_set k) es)
    (stays k f es (or_rest (same_fact f (ground l)) (list_any (sets f) es) s))

sets_so : (f : Fact) (e : Effect) (es : List Effect) → IsNotSet (e ∷ es) f → (b : Bool) → sets f e ≡ b → b ≡ false
sets_so f (Add l) es n b s = sym s
sets_so f (Delete l) es n b s = sym s
sets_so f (Number how l x) es n true s = absurd (n how l x (contains_first (Number how l x) (Number how l x) es refl) (sym (fact_same f (ground l) s)))
sets_so f (Number how l x) es n false s = refl

not_set : (f : Fact) (es : List Effect) → IsNotSet es f → list_any (sets f) es ≡ false
not_set f [] n = refl
not_set f (e ∷ es) n =
    rw (sets_so f e es n (sets f e) refl) (not_set f es (λ how l x c. n how l x (contains_later e (Number how l x) es c)))

pub values_stay : (k : Knowledge) (es : List Effect) (f : Fact) → IsNotSet es f → (vs : List (Fact × Num)) → lookup (same_fact f) (fold with_value vs (filter_map (value_set k) es)) ≡ lookup (same_fact f) vs
values_stay k es f n vs = stays k f es (not_set f es n) vs

pub or_true : (a : Bool) → (a || true) ≡ true
or_true true = refl
or_true false = refl

-- ---- where nothing is at fault

first_none : {A : Type 0} (one other : Option A) → option_or one other ≡ None → one ≡ None
first_none None other e = refl
first_none (Some a) other e = e

other_none : {A : Type 0} (one other : Option A) → option_or one other ≡ None → other ≡ None
other_none None other e = e
other_none (Some a) other e = absurd (cc)

no_clash : (b : Bool) (at : ℕ) (o : Option EffectRefusal) → (if b then Some (Clash at) else o) ≡ None → b ≡ false
no_clash true at o e = absurd (cc)
no_clash false at o e = refl

no_fault : (b : Bool) (at : ℕ) (o : Option EffectRefusal) → (if b then Some (Clash at) else o) ≡ None → o ≡ None
no_fault true at o e = absurd (cc)
no_fault false at o e = e

-- what was set stays known to be
set_before : (f : Fact) (before : List Effect) (e : Effect) → list_any (sets f) before ≡ true → list_any (sets f) (before ++ e ∷ []) ≡ true
set_before f before e s = list_any-append (sets f) before (e ∷ []) ∙ rw s refl

same_not : (f : Fact) (before : List Effect) (g : Fact) (b : Bool) → same_fact f g ≡ b → list_any (sets f) before ≡ true → list_any (sets g) before ≡ false → b ≡ false
same_not f before g true s one none =
    let other : list_any (sets g) before ≡ true = subst (λ h. list_any (sets h) before ≡ true) (fact_same f g s) one in cc
same_not f before g false s one none = refl

-- a term that an effect before sets is set by none of these
unset_after : (k : Knowledge) (f : Fact) (before es : List Effect) → faults_from k before es ≡ None → list_any (sets f) before ≡ true → list_any (sets f) es ≡ false
unset_after k f before [] e s = refl
unset_after k f before (Add l ∷ es) e s = unset_after k f (before ++ Add l ∷ []) es e (set_before f before (Add l) s)
unset_after k f before (Delete l ∷ es) e s = unset_after k f (before ++ Delete l ∷ []) es e (set_before f before (Delete l) s)
unset_after k f before (Number how l x ∷ es) e s =
    let here = fault_of_effect k before (length before) (Number how l x) in
    let rest = faults_from k (before ++ Number how l x ∷ []) es in
    let apart = no_clash (list_any (sets (ground l)) before) (length before) _ (first_none here rest e) in
    let other = same_not f before (ground l) (same_fact f (ground l)) refl s apart in
    rw other (unset_after k f (before ++ Number how l x ∷ []) es (other_none here rest e) (set_before f before (Number how l x) s))

-- ---- what an effect sets

-- the number is the value that an effect gives, and what is looked up
abbrev IsGiven : Knowledge → NumOp → Lifted → Expr → Option Num → Type 0
IsGiven k how l x found = (n : Num) × (found ≡ Some n) × (option_and_then in_range (count_after k how (ground l) (expr_tree x)) ≡ Some n)

ranged : (at : ℕ) (o : Option Num) → range_fault at o ≡ None → (n : Num) × (o ≡ Some n)
ranged at None e = absurd (cc)
ranged at (Some n) e = (n, refl)

counted : (at : ℕ) (o : Option ℤ) → count_fault at o ≡ None → (n : Num) × (option_and_then in_range o ≡ Some n)
counted at None e = absurd (cc)
counted at (Some z) e = ranged at (in_range z) e

set_last : (f : Fact) (before : List Effect) (e : Effect) → sets f e ≡ true → list_any (sets f) (before ++ e ∷ []) ≡ true
set_last f before e s = list_any-append (sets f) before (e ∷ []) ∙ ap (λ b. list_any (sets f) before || (b || false)) s ∙ or_true (list_any (sets f) before)

-- the first effect sets it, and none after it does
given_first : (k : Knowledge) (before es : List Effect) (how : NumOp) (l : Lifted) (x : Expr) → faults_from k before (Number how l x ∷ es) ≡ None → (vs : List (Fact × Num)) → IsGiven k how l x (lookup (same_fact (ground l)) (fold with_value vs (filter_map (value_set k) (Number how l x ∷ es))))
given_first k before es how l x e vs =
    let f = ground l in
    let here = fault_of_effect k before (length before) (Number how l x) in
    let rest = faults_from k (before ++ Number how l x ∷ []) es in
    let count = counted (length before) (count_after k how f (expr_tree x)) (no_fault (list_any (sets f) before) (length before) _ (first_none here rest e)) in
    let n = count.0 in
    let later = unset_after k f (before ++ Number how l x ∷ []) es (other_none here rest e) (set_last f before (Number how l x) (fact_itself f)) in
    let put : lookup (same_fact f) (with_value vs (f, n)) ≡ Some n = lookup-insert_entry facts_total f f n vs ∙ ap (λ b. cond b (Some n) (lookup (same_fact f) vs)) (fact_itself f) in
    (n, ap (λ o. lookup (same_fact f) (fold with_value vs (cons_option (option_map (λ m. (f, m)) o) (filter_map (value_set k) es)))) count.1 ∙ stays k f es later (with_value vs (f, n)) ∙ put, count.1)

given_later : (k : Knowledge) (how : NumOp) (l : Lifted) (x : Expr) (rest : List (Fact × Num)) → ((vs : List (Fact × Num)) → IsGiven k how l x (lookup (same_fact (ground l)) (fold with_value vs rest))) → (o : Option (Fact × Num)) (vs : List (Fact × Num)) → IsGiven k how l x (lookup (same_fact (ground l)) (fold with_value vs (cons_option o rest)))
given_later k how l x rest h None vs = h vs
given_later k how l x rest h (Some v) vs = h (with_value vs v)

given : (k : Knowledge) (before es : List Effect) (how : NumOp) (l : Lifted) (x : Expr) → faults_from k before es ≡ None → Contains es (Number how l x) → (vs : List (Fact × Num)) → IsGiven k how l x (lookup (same_fact (ground l)) (fold with_value vs (filter_map (value_set k) es)))
given k before [] how l x e c vs = absurd (contains_none (Number how l x) c)
given k before (first ∷ es) how l x e c vs =
    elim (contains_cases first (Number how l x) es c) [
      | inl s ↦ subst (λ one. IsGiven k how l x (lookup (same_fact (ground l)) (fold with_value vs (filter_map (value_set k) (one ∷ es))))) (sym s) (given_first k before es how l x (subst (λ one. faults_from k before (one ∷ es) ≡ None) s e) vs)
      | inr later ↦
          let rest = other_none (fault_of_effect k before (length before) first) (faults_from k (before ++ first ∷ []) es) e in
          given_later k how l x (filter_map (value_set k) es) (given k (before ++ first ∷ []) es how l x rest later) (value_set k first) vs
    ]

pub values_given : (k : Knowledge) (es : List Effect) (how : NumOp) (l : Lifted) (x : Expr) → faults_from k [] es ≡ None → Contains es (Number how l x) → IsGiven k how l x (lookup (same_fact (ground l)) (fold with_value k.values (filter_map (value_set k) es)))
values_given k es how l x e c = given k [] es how l x e c k.values

-- ---- their order

pub values_rise : (vs ready : List (Fact × Num)) → IsStrictlySortedBy fact_cmp (keys_of vs) → IsStrictlySortedBy fact_cmp (keys_of (fold with_value vs ready))
values_rise vs [] s = s
values_rise vs (v ∷ ready) s =
    values_rise (with_value vs v) ready (rw (keys-insert_entry facts_total v.0 v.1 vs) (sorted-insert_key facts_total v.0 (keys_of vs) s))
