-- Effects have no fault just where each has none of its own and is the only one that gives its term a value; and how that is counted.
use Rattle.std.proofs.Common.{◌≡◌, ◌==◌, ℕ, suc, ◌+◌, ◌≤◌, nat_le, nat_lt, Bool, true, false, not, ◌&&◌, ◌||◌, if◌then◌else◌, Option, Some, None, is_none, is_some, List, [], ◌∷◌, ◌++◌, ℤ, length, refl, ap, sym, subst, ◌∙◌, arith}
use Rattle.std.specs.Cmp.{first_so, second_so}
use Rattle.std.specs.List.{list_all, list_any}
use Rattle.std.specs.Option.{option_or}
use Rattle.std.proofs.lemmas.Bool.{and_from, false_from_ne_true, or_parts}
use Rattle.std.proofs.lemmas.Bool.Decides.{nat_tests}
use Rattle.std.proofs.lemmas.List.{append_assoc}
use Rattle.std.proofs.lemmas.List.Folds.{list_any-append}
use Rattle.ps_world.specs.Bound.{ground_in}
use Rattle.ps_world.specs.ExprViews.{expr_tree}
use Rattle.ps_world.specs.Knowledge.{ground, same_fact}
use Rattle.ps_world.specs.declared.names.Name.{Name}
use Rattle.ps_world.specs.declared.numbers.Num.{Num}
use Rattle.ps_world.specs.declared.schemas.Lifted.{Lifted}
use Rattle.ps_world.specs.declared.expressions.Expr.{Expr}
use Rattle.ps_world.specs.declared.actions.NumOp.{NumOp}
use Rattle.ps_world.specs.declared.actions.Effect.{Effect}
use Rattle.ps_world.specs.declared.actions.Effect.TheVariants.{Add, Delete, Number}
use Rattle.ps_world.specs.declared.known.Knowledge.{Knowledge}
use Rattle.ps_action.specs.Effects.{count_after, count_fault, fault_of_effect, fault_of_flat, faults_from, range_fault, sets}
use Rattle.ps_action.specs.Fine.{NoFaultWhereFine, count_of, counted, hits, is_fine, one_more}
use Rattle.ps_action.specs.Grounding.{put_effect, put_lifted, put_tree}
use Rattle.ps_action.specs.Values.{in_range}
use Rattle.ps_action.specs.declared.refusals.EffectRefusal.{EffectRefusal}
use Rattle.ps_action.specs.declared.refusals.EffectRefusal.TheVariants.{Clash}
use Rattle.ps_action.proofs.Contained.{fact_itself, fact_same}
use Rattle.ps_action.proofs.Grounded.{ground_put_in, tree_put}

-- ---- tests

both_ways : (a b : Bool) → (a ≡ true → b ≡ true) → (b ≡ true → a ≡ true) → a ≡ b
both_ways true true f g = refl
both_ways true false f g = sym (f refl)
both_ways false true f g = g refl
both_ways false false f g = refl

any_front : (p : Effect → Bool) (xs ys : List Effect) → list_any p (xs ++ ys) ≡ false → list_any p xs ≡ false
any_front p xs ys e = (or_parts (list_any p xs) (list_any p ys) (sym (list_any-append p xs ys) ∙ e)).0

any_last : (p : Effect → Bool) (xs : List Effect) (y : Effect) → list_any p (xs ++ y ∷ []) ≡ false → p y ≡ false
any_last p xs y e =
    let last = (or_parts (list_any p xs) (p y || false) (sym (list_any-append p xs (y ∷ [])) ∙ e)).1 in
    (or_parts (p y) false last).0

any_none : (p : Effect → Bool) (xs : List Effect) (y : Effect) → list_any p xs ≡ false → p y ≡ false → list_any p (xs ++ y ∷ []) ≡ false
any_none p xs y e f = list_any-append p xs (y ∷ []) ∙ (λ i. e i || (f i || false))

-- ---- effects that give one term a value

hit_back : (e f : Effect) → hits e f ≡ true → hits f e ≡ true
hit_back (Number how l x) (Number way m y) h = ap (same_fact (ground m)) (fact_same (ground l) (ground m) h) ∙ fact_itself (ground m)
hit_back e f h = absurd (cc)

hit_itself : (e f : Effect) → hits e f ≡ true → hits e e ≡ true
hit_itself (Number how l x) f h = fact_itself (ground l)
hit_itself e f h = absurd (cc)

-- ---- counts

parts_at : (b : Bool) (n m o : ℕ) → o ≡ n + m → (if b then suc o else o) ≡ (if b then suc n else n) + m
parts_at true n m o e = omega (arith, e)
parts_at false n m o e = e

count_parts : (p : Effect → Bool) (xs ys : List Effect) → count_of p (xs ++ ys) ≡ count_of p xs + count_of p ys
count_parts p [] ys = omega arith
count_parts p (x ∷ xs) ys = parts_at (p x) (count_of p xs) (count_of p ys) (count_of p (xs ++ ys)) (count_parts p xs ys)

count_no : (p : Effect → Bool) (x : Effect) (xs : List Effect) → p x ≡ false → count_of p (x ∷ xs) ≡ count_of p xs
count_no p x xs e = rw e refl

count_yes : (p : Effect → Bool) (x : Effect) (xs : List Effect) → p x ≡ true → count_of p (x ∷ xs) ≡ suc (count_of p xs)
count_yes p x xs e = rw e refl

more_at : (b : Bool) (n : ℕ) → n ≤ (if b then suc n else n)
more_at true n = omega arith
more_at false n = omega arith

count_more : (p : Effect → Bool) (x : Effect) (xs : List Effect) → count_of p xs ≤ count_of p (x ∷ xs)
count_more p x xs = more_at (p x) (count_of p xs)

one_at : (b : Bool) (n : ℕ) → n ≡ 0 → (if b then suc n else n) ≤ 1
one_at true n z = omega (arith, z)
one_at false n z = omega (arith, z)

-- ---- faults

range_none : (at other : ℕ) (o : Option Num) → range_fault at o ≡ None → range_fault other o ≡ None
range_none at other None e = absurd (cc)
range_none at other (Some n) e = refl

fault_none : (at other : ℕ) (o : Option ℤ) → count_fault at o ≡ None → count_fault other o ≡ None
fault_none at other None e = absurd (cc)
fault_none at other (Some z) e = range_none at other (in_range z) e

none_if : (b : Bool) (r : EffectRefusal) (o : Option EffectRefusal) → (if b then Some r else o) ≡ None → (b ≡ false) × (o ≡ None)
none_if true r o e = absurd (cc)
none_if false r o e = (refl, e)

module _ (k : Knowledge) where
  none_hit : (before : List Effect) → list_any (λ (f : Effect). false) before ≡ false
  none_hit [] = refl
  none_hit (f ∷ before) = none_hit before

  own_fault : (before : List Effect) (at : ℕ) (e : Effect) → fault_of_effect k before at e ≡ None → (fault_of_effect k [] 0 e ≡ None) × (list_any (hits e) before ≡ false)
  own_fault before at (Add l) h = (refl, none_hit before)
  own_fault before at (Delete l) h = (refl, none_hit before)
  own_fault before at (Number how l x) h =
      let w = none_if (list_any (sets (ground l)) before) (Clash at) (count_fault at (count_after k how (ground l) (expr_tree x))) h in
      (fault_none at 0 (count_after k how (ground l) (expr_tree x)) w.1, w.0)

  no_fault : (before : List Effect) (at : ℕ) (e : Effect) → fault_of_effect k [] 0 e ≡ None → list_any (hits e) before ≡ false → fault_of_effect k before at e ≡ None
  no_fault before at (Add l) h n = refl
  no_fault before at (Delete l) h n = refl
  no_fault before at (Number how l x) h n = rw n (fault_none 0 at (count_after k how (ground l) (expr_tree x)) h)

  -- an effect of these, after those before
  abbrev IsFineAfter : List Effect → List Effect → Effect → Type 0
  IsFineAfter before all e = (fault_of_effect k [] 0 e ≡ None) × (list_any (hits e) before ≡ false) × (count_of (hits e) all ≤ 1)

  abbrev AreFine : List Effect → List Effect → List Effect → Type 0
  AreFine before all [] = Unit {0}
  AreFine before all (e ∷ xs) = IsFineAfter before all e × AreFine before all xs

  none_later : (before : List Effect) (e : Effect) (all xs : List Effect) → AreFine (before ++ e ∷ []) all xs → count_of (hits e) xs ≡ 0
  none_later before e all [] h = refl
  none_later before e all (x ∷ xs) h =
      let away : hits x e ≡ false = any_last (hits x) before e (h.0).1 in
      let other : hits e x ≡ false = false_from_ne_true (hits e x) (λ t. let back : hits x e ≡ true = hit_back e x t in absurd (cc)) in
      count_no (hits e) x xs other ∙ none_later before e all xs h.1

  grown : (before : List Effect) (e : Effect) (all xs : List Effect) → AreFine (before ++ e ∷ []) all xs → AreFine before (e ∷ all) xs
  grown before e all [] h = tt
  grown before e all (x ∷ xs) h =
      let away : hits x e ≡ false = any_last (hits x) before e (h.0).1 in
      (((h.0).0, any_front (hits x) before (e ∷ []) (h.0).1, omega (arith, count_no (hits x) e all away, (h.0).2)), grown before e all xs h.1)

  or_none : (a b : Option EffectRefusal) → option_or a b ≡ None → (a ≡ None) × (b ≡ None)
  or_none None b e = (refl, e)
  or_none (Some r) b e = absurd (cc)

  are_fine : (before es : List Effect) → faults_from k before es ≡ None → AreFine before es es
  are_fine before [] h = tt
  are_fine before (e ∷ es) h =
      let w = or_none (fault_of_effect k before (length before) e) (faults_from k (before ++ e ∷ []) es) h in
      let own = own_fault before (length before) e w.0 in
      let later = are_fine (before ++ e ∷ []) es w.1 in
      ((own.0, own.1, one_at (hits e e) (count_of (hits e) es) (none_later before e es es later)), grown before e es es later)

  two : (x e : Effect) (pre xs : List Effect) → hits x e ≡ true → count_of (hits x) (e ∷ (pre ++ x ∷ xs)) ≤ 1 → ⊥
  two x e pre xs h le =
      omega (arith, le, count_yes (hits x) e (pre ++ x ∷ xs) h, count_parts (hits x) pre (x ∷ xs), count_yes (hits x) x xs (hit_itself x e h))

  shrunk : (before : List Effect) (e : Effect) (pre xs : List Effect) → AreFine before (e ∷ (pre ++ xs)) xs → AreFine (before ++ e ∷ []) (pre ++ xs) xs
  shrunk before e pre [] h = tt
  shrunk before e pre (x ∷ xs) h =
      let away : hits x e ≡ false = false_from_ne_true (hits x e) (λ t. two x e pre xs t (h.0).2) in
      let less = count_more (hits x) e (pre ++ x ∷ xs) in
      let rest : AreFine before (e ∷ ((pre ++ x ∷ []) ++ xs)) xs = subst (λ l. AreFine before (e ∷ l) xs) (sym (append_assoc pre (x ∷ []) xs)) h.1 in (
        ((h.0).0, any_none (hits x) before e (h.0).1 away, omega (arith, less, (h.0).2)),
        subst (λ l. AreFine (before ++ e ∷ []) l xs) (append_assoc pre (x ∷ []) xs) (shrunk before e (pre ++ x ∷ []) xs rest),
      )

  have_none : (before es : List Effect) → AreFine before es es → faults_from k before es ≡ None
  have_none before [] h = refl
  have_none before (e ∷ es) h =
      let first = no_fault before (length before) e (h.0).0 (h.0).1 in
      rw first (have_none (before ++ e ∷ []) es (shrunk before e [] es h.1))

  -- ---- as tests

  fine_so : (all xs : List Effect) → AreFine [] all xs → list_all (is_fine k all) xs ≡ true
  fine_so all [] h = refl
  fine_so all (e ∷ xs) h =
      let few : nat_le (count_of (hits e) all) 1 ≡ true = grind (arith, nat_tests, (h.0).2) in
      and_from _ _ (and_from _ _ (ap is_none (h.0).0) few) (fine_so all xs h.1)

  is_nothing : (o : Option EffectRefusal) → is_none o ≡ true → o ≡ None
  is_nothing None e = refl
  is_nothing (Some r) e = absurd (cc)

  so_fine : (all xs : List Effect) → list_all (is_fine k all) xs ≡ true → AreFine [] all xs
  so_fine all [] h = tt
  so_fine all (e ∷ xs) h =
      let here = first_so (is_fine k all e) (list_all (is_fine k all) xs) h in
      let own = first_so (is_none (fault_of_effect k [] 0 e)) (nat_le (count_of (hits e) all) 1) here in
      let few = second_so (is_none (fault_of_effect k [] 0 e)) (nat_le (count_of (hits e) all) 1) here in
      let le : count_of (hits e) all ≤ 1 = grind (arith, nat_tests, few) in
      ((is_nothing (fault_of_effect k [] 0 e) own, refl, le), so_fine all xs (second_so (is_fine k all e) (list_all (is_fine k all) xs) h))

pub no_fault_where_fine : NoFaultWhereFine
no_fault_where_fine k es =
    both_ways (is_none (fault_of_flat k es)) (list_all (is_fine k es) es)
    (λ h. fine_so k es es (are_fine k [] es (is_nothing k (fault_of_flat k es) h)))
    (λ h. ap is_none (have_none k [] es (so_fine k es es h)))

-- ---- counts up to two

full_at : (b : Bool) → one_more 2 b ≡ 2
full_at true = refl
full_at false = refl

full : (p : Effect → Bool) (xs : List Effect) → counted p 2 xs ≡ 2
full p [] = refl
full p (x ∷ xs) = ap (λ n. counted p n xs) (full_at (p x)) ∙ full p xs

none_at : (b : Bool) (f : Effect → Bool) (xs : List Effect) → (counted (λ e. not (f e)) 1 xs == 1) ≡ list_all f xs → (counted (λ e. not (f e)) (one_more 1 (not b)) xs == 1) ≡ (b && list_all f xs)
none_at true f xs rest = rest
none_at false f xs rest = ap (λ n. n == 1) (full (λ e. not (f e)) xs)

-- beside one that is counted already there is none just where none fails
none_counted : (f : Effect → Bool) (xs : List Effect) → (counted (λ e. not (f e)) 1 xs == 1) ≡ list_all f xs
none_counted f [] = refl
none_counted f (x ∷ xs) = none_at (f x) f xs (none_counted f xs)

two_more : (n : ℕ) → true ≡ not (nat_le (suc (suc n)) 1)
two_more n = grind (arith, nat_tests)

second_at : (b : Bool) (p : Effect → Bool) (xs : List Effect) → nat_lt 1 (counted p 1 xs) ≡ not (nat_le (suc (count_of p xs)) 1) → nat_lt 1 (counted p (one_more 1 b) xs) ≡ not (nat_le (suc (if b then suc (count_of p xs) else count_of p xs)) 1)
second_at true p xs rest = ap (nat_lt 1) (full p xs) ∙ two_more (count_of p xs)
second_at false p xs rest = rest

second_counted : (p : Effect → Bool) (xs : List Effect) → nat_lt 1 (counted p 1 xs) ≡ not (nat_le (suc (count_of p xs)) 1)
second_counted p [] = refl
second_counted p (x ∷ xs) = second_at (p x) p xs (second_counted p xs)

first_at : (b : Bool) (p : Effect → Bool) (xs : List Effect) → nat_lt 1 (counted p 0 xs) ≡ not (nat_le (count_of p xs) 1) → nat_lt 1 (counted p (one_more 0 b) xs) ≡ not (nat_le (if b then suc (count_of p xs) else count_of p xs) 1)
first_at true p xs rest = second_counted p xs
first_at false p xs rest = rest

-- more than one are counted just where more than one pass
more_counted : (p : Effect → Bool) (xs : List Effect) → nat_lt 1 (counted p 0 xs) ≡ not (nat_le (count_of p xs) 1)
more_counted p [] = refl
more_counted p (x ∷ xs) = first_at (p x) p xs (more_counted p xs)

-- ---- what the code counts

pub own_put : (k : Knowledge) (env : List Name) (how : NumOp) (l : Lifted) (x : Expr) → fault_of_effect k [] 0 (put_effect env (Number how l x)) ≡ count_fault 0 (count_after k how (ground_in env l) (put_tree env (expr_tree x)))
own_put k env how l x = λ i. count_fault 0 (count_after k how (ground_put_in env l i) (tree_put env x i))

fails_so : (own few more : Bool) → more ≡ not few → (not own || more) ≡ not (own && few)
fails_so true few more e = e
fails_so false few more e = refl

pub faulty_number : (k : Knowledge) (all : List Effect) (env : List Name) (how : NumOp) (l : Lifted) (x : Expr) (own more : Bool)
    → own ≡ is_none (fault_of_effect k [] 0 (put_effect env (Number how l x)))
    → more ≡ nat_lt 1 (counted (sets (ground_in env l)) 0 all)
    → (not own || more) ≡ not (is_fine k all (put_effect env (Number how l x)))
faulty_number k all env how l x own more e f =
    let counts = ap (λ t. nat_lt 1 (counted (sets t) 0 all)) (sym (ground_put_in env l)) in
    let few = nat_le (count_of (hits (put_effect env (Number how l x))) all) 1 in
    ap (λ b. not b || more) e
    ∙ fails_so (is_none (fault_of_effect k [] 0 (put_effect env (Number how l x)))) few more (f ∙ counts ∙ more_counted (sets (ground (put_lifted env l))) all)

none_of : (all : List Effect) → count_of (λ (e : Effect). false) all ≡ 0
none_of [] = refl
none_of (e ∷ all) = none_of all

few_of : (n : ℕ) → n ≡ 0 → nat_le n 1 ≡ true
few_of n e = rw e refl

pub faulty_add : (k : Knowledge) (all : List Effect) (env : List Name) (l : Lifted) (e : Effect) → e ≡ Add l → false ≡ not (is_fine k all (put_effect env e))
faulty_add k all env l e is =
    sym (ap not (few_of (count_of (hits (put_effect env (Add l))) all) (none_of all))) ∙ ap (λ f. not (is_fine k all (put_effect env f))) (sym is)

pub faulty_delete : (k : Knowledge) (all : List Effect) (env : List Name) (l : Lifted) (e : Effect) → e ≡ Delete l → false ≡ not (is_fine k all (put_effect env e))
faulty_delete k all env l e is =
    sym (ap not (few_of (count_of (hits (put_effect env (Delete l))) all) (none_of all))) ∙ ap (λ f. not (is_fine k all (put_effect env f))) (sym is)

pub faultless_counted : (k : Knowledge) (all : List Effect) → (counted (λ e. not (is_fine k all e)) 1 all == 1) ≡ is_none (fault_of_flat k all)
faultless_counted k all = none_counted (is_fine k all) all ∙ sym (no_fault_where_fine k all)
