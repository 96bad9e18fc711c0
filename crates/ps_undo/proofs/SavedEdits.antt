-- The edits that save what is known give it.
use Rattle.std.proofs.Common.{◌≡◌, ◌+◌, ◌≤◌, ◌<◌, nat_le, Bool, true, false, not, cond, ◌||◌, ◌&&◌, List, [], ◌∷◌, ◌++◌, Option, Some, None, IfSome, is_some, is_none, Result, Ok, All, filter, find, fold, map, length, inl, inr, refl, ap, sym, ◌∙◌, subst, arith}
use Rattle.std.specs.BTreeMap.{insert_entry}
use Rattle.std.specs.BTreeSet.{insert_key}
use Rattle.std.specs.List.{AllByRecursion, Contains, list_any}
use Rattle.std.specs.List.Sorted.{IsPermutation, IsStrictlySortedBy}
use Rattle.std.specs.Map.{keys_of, lookup}
use Rattle.std.specs.Ordering.{eq_by_cmp}
use Rattle.std.proofs.Math.Bool.{or-false, or-true}
use Rattle.std.proofs.lemmas.Bool.Decides.{nat_tests}
use Rattle.std.proofs.lemmas.Cmp.{eq_by_cmp_equiv}
use Rattle.std.proofs.lemmas.List.Elements.{All-contains_itself, All-filter, All-weaker, recursion_from_All}
use Rattle.std.proofs.lemmas.List.Filters.{length-filter_both}
use Rattle.std.proofs.lemmas.List.Sorted.{All-permutation, IsPermutation-map, length_permutation, list_any-IsPermutation}
use Rattle.std.proofs.lemmas.Map.Entries.{lookup-filter-keys}
use Rattle.std.proofs.lemmas.Map.Made.{is_member-filter, is_some-lookup}
use Rattle.std.proofs.lemmas.Map.Views.{tells_apart}
use Rattle.ps_world.specs.Facts.{fact_cmp}
use Rattle.ps_world.specs.CondViews.{cond_tree}
use Rattle.ps_world.specs.Knowledge.{constant_of, edited, fault_of_cond, fault_of_fact, fault_of_value, function_of, is_type, kind_of, most_instances, opening, predicate_of, same_fact, unless, value_in, with_constant}
use Rattle.ps_world.specs.Names.{name_cmp, same_name}
use Rattle.ps_world.specs.declared.conditions.Cond.{Cond}
use Rattle.ps_world.specs.declared.domains.Domain.{Domain}
use Rattle.ps_world.specs.declared.domains.Param.{Param}
use Rattle.ps_world.specs.declared.edits.Edit.{Edit}
use Rattle.ps_world.specs.declared.edits.Edit.TheVariants.{AddFact}
use Rattle.ps_world.specs.declared.edits.EditRefusal.{EditRefusal}
use Rattle.ps_world.specs.declared.edits.EditRefusal.TheVariants.{NoFunction, NoPredicate}
use Rattle.ps_world.specs.declared.facts.Fact.{Fact}
use Rattle.ps_world.specs.declared.known.Knowledge.{Knowledge}
use Rattle.ps_world.specs.declared.names.Name.{Name}
use Rattle.ps_world.specs.declared.numbers.Num.{Num}
use Rattle.ps_action.proofs.Facts.{exact_facts, exact_names, facts_total, names_total, same_name-is, same_name-refl}
use Rattle.ps_action.proofs.Keys.{keys-insert_entry, sorted-insert_key}
use Rattle.ps_action.proofs.MadeFacts.{sorted-fold}
use Rattle.ps_problem.specs.WellKnown.{IsWellKnown}
use Rattle.ps_problem.proofs.Changes.{kind_after}
use Rattle.ps_problem.proofs.Filters.{insert_entry-same, keys-filter, sorted-filter}
use Rattle.ps_problem.proofs.Opening.{kind_opened, length-insert_entry, sorted_opened}
use Rattle.ps_problem.proofs.PutFacts.{facts_same, known-inserted}
use Rattle.ps_problem.proofs.Removals.{tests_agree}
use Rattle.ps_problem.proofs.Suits.{cond_stays}
use Rattle.ps_undo.specs.Saved.{SavedGiveIt, edited_by, edited_next, is_new, set_goal, set_instance, set_value}
use Rattle.ps_undo.proofs.Entries.{put, same_entries, sorted-put}
use Rattle.ps_undo.proofs.Parts.{Are, all_found, at-put}
use Rattle.ps_undo.proofs.Faultless.{no_fault}

-- ---- edits one after another

abbrev edited_on : Domain → Result Knowledge EditRefusal → List Edit → Result Knowledge EditRefusal
edited_on d r xs = fold (edited_next d) r xs

on_join : (d : Domain) (r : Result Knowledge EditRefusal) (xs ys : List Edit) → edited_on d r (xs ++ ys) ≡ edited_on d (edited_on d r xs) ys
on_join d r [] ys = refl
on_join d r (x ∷ xs) ys = on_join d (edited_next d r x) xs ys

edits_join : (d : Domain) (k m : Knowledge) (xs ys : List Edit) → edited_by d k xs ≡ Ok m → edited_by d k (xs ++ ys) ≡ edited_by d m ys
edits_join d k m xs ys e = on_join d (Ok k) xs ys ∙ ap (λ (r : Result Knowledge EditRefusal). edited_on d r ys) e

abbrev AreUp : List (Name × Name) → Type 0
AreUp is = IsStrictlySortedBy name_cmp (keys_of is)

agree : (n : Name) → same_name n ≡ eq_by_cmp name_cmp n
agree n = λ i m. tests_agree n m i

-- the type of a name, by either test
by_order : (is : List (Name × Name)) (n : Name) → lookup (same_name n) is ≡ lookup (eq_by_cmp name_cmp n) is
by_order is n = ap (λ test. lookup test is) (agree n)

-- ---- what a session opens with

-- f: a constant that a test finds
there_at : (b : Bool) (f : Option Param) (c : Param) (t : Option Name) → (is_some f || is_some (cond b (Some c.kind) t)) ≡ (is_some (cond b (Some c) f) || is_some t)
there_at true f c t = or-true (is_some f)
there_at false f c t = refl

opened_there : (is : List (Name × Name)) (cs : List Param) (n : Name) → is_some (lookup (same_name n) (fold with_constant is cs)) ≡ (is_some (find (λ p. same_name n p.name) cs) || is_some (lookup (same_name n) is))
opened_there is [] n = refl
opened_there is (c ∷ cs) n =
    opened_there (with_constant is c) cs n
    ∙ ap (λ o. is_some (find (λ p. same_name n p.name) cs) || is_some o) (kind_after is c.name c.kind n)
    ∙ there_at (same_name n c.name) (find (λ p. same_name n p.name) cs) c (lookup (same_name n) is)

other : (o : Option Param) → is_none o ≡ not (is_some o)
other None = refl
other (Some c) = refl

-- a: the type that a name has in k, c: the constant of that name
whole_at : (a : Option Name) (c : Option Param) → cond (is_some a && is_none c) a (cond (is_some c) a None) ≡ a
whole_at None None = refl
whole_at None (Some c) = refl
whole_at (Some t) None = refl
whole_at (Some t) (Some c) = refl

all_there : (a : Option Num) → cond (is_some a) a None ≡ a
all_there None = refl
all_there (Some x) = refl

-- keys are found alike in a list and in another order of it
keys_found : {K X : Type 0} (test : K → Bool) (xs ys : List (K × X)) → IsPermutation xs ys → list_any test (keys_of ys) ≡ list_any test (keys_of xs)
keys_found test xs ys h = sym (list_any-IsPermutation test (keys_of xs) (keys_of ys) (IsPermutation-map (λ e. e.0) xs ys h))

module _ (d : Domain) (k : Knowledge) (w : IsWellKnown d k) where
  -- these are instances of k, with their types
  abbrev Within : List (Name × Name) → Type 0
  Within is = (n t : Name) → lookup (same_name n) is ≡ Some t → kind_of k n ≡ Some t

  opened_within : Within (opening d).instances
  opened_within n t e =
      elim (kind_opened [] d.constants n t e) [
        | inl none ↦ absurd (cc)
        | inr c ↦ subst (λ m. kind_of k m ≡ Some t) c.2 (w.constants c.0 c.1 ∙ ap Some c.3)
      ]

  opened_up : AreUp (opening d).instances
  unfolding IsStrictlySortedBy
  opened_up = sorted_opened [] d.constants tt

  constant_at : (n : Name) (o : Option Name) → lookup (same_name n) (opening d).instances ≡ o → is_some o ≡ is_some (constant_of d n) → o ≡ cond (is_some (constant_of d n)) (kind_of k n) None
  constant_at n None e s = ap (λ b. cond b (kind_of k n) None) s
  constant_at n (Some t) e s = sym (opened_within n t e) ∙ ap (λ b. cond b (kind_of k n) None) s

  opened_at : (n : Name) → lookup (eq_by_cmp name_cmp n) (opening d).instances ≡ cond (is_some (constant_of d n)) (lookup (eq_by_cmp name_cmp n) k.instances) None
  opened_at n =
      sym (by_order (opening d).instances n)
      ∙ constant_at n (lookup (same_name n) (opening d).instances) refl (opened_there [] d.constants n ∙ or-false (is_some (constant_of d n)))
      ∙ ap (λ o. cond (is_some (constant_of d n)) o None) (by_order k.instances n)

  -- a session opens with the instances of k that are constants
  constants_are : (opening d).instances ≡ filter (λ i. is_some (constant_of d i.0)) k.instances
  constants_are =
      same_entries names_total exact_names (opening d).instances (filter (λ i. is_some (constant_of d i.0)) k.instances) opened_up (sorted-filter name_cmp (λ n. is_some (constant_of d n)) k.instances w.rises.instances) (λ q.
      opened_at q
      ∙ sym (lookup-filter-keys (eq_by_cmp name_cmp q) (λ n. is_some (constant_of d n)) (is_some (constant_of d q)) (λ n e. ap (λ (m : Name). is_some (constant_of d m)) (sym (tells_apart exact_names q n e))) k.instances))

  -- ---- instances

  -- what is known with these instances
  abbrev with_instances : List (Name × Name) → Knowledge
  with_instances is = record { instances = is; facts = []; values = []; goal = None }

  abbrev insert : List (Name × Name) → Name × Name → List (Name × Name)
  insert is x = insert_entry name_cmp is x.0 x.1

  full : (is : List (Name × Name)) → length is < most_instances → nat_le most_instances (length is) ≡ false
  full is h = grind (arith, nat_tests)

  placed_at : (is : List (Name × Name)) (x : Name × Name) → AreUp is → Within is → kind_of k x.0 ≡ Some x.1 → length is < most_instances → (o : Option Name) → lookup (same_name x.0) is ≡ o → edited d (with_instances is) (set_instance x) ≡ Ok (with_instances (insert is x))
  placed_at is x up in_k here few None e =
      let type : is_type d x.1 ≡ true = w.types x.0 x.1 here in
      let room = full is few in
      rw (type, e, room) refl
  placed_at is x up in_k here few (Some kind) e =
      let type : is_type d x.1 ≡ true = w.types x.0 x.1 here in
      let there = in_k x.0 kind e in
      let same : kind ≡ x.1 = cc in
      let test : same_name kind x.1 ≡ true = same_name-refl kind x.1 same in
      let stays : insert is x ≡ is = insert_entry-same names_total x.0 x.1 is up (sym (by_order is x.0) ∙ e ∙ ap Some same) in
      rw (type, e, test) (ap (λ (l : List (Name × Name)). let r : Result Knowledge EditRefusal = Ok (with_instances l) in r) (sym stays))

  within_at : (is : List (Name × Name)) (x : Name × Name) (n t : Name) (b : Bool) → same_name n x.0 ≡ b → Within is → kind_of k x.0 ≡ Some x.1 → cond b (Some x.1) (lookup (same_name n) is) ≡ Some t → kind_of k n ≡ Some t
  within_at is x n t true s in_k here e = ap (kind_of k) (same_name-is n x.0 s) ∙ here ∙ e
  within_at is x n t false s in_k here e = in_k n t e

  within_more : (is : List (Name × Name)) (x : Name × Name) → Within is → kind_of k x.0 ≡ Some x.1 → Within (insert is x)
  within_more is x in_k here n t e =
      within_at is x n t (same_name n x.0) refl in_k here (sym (kind_after is x.0 x.1 n) ∙ e)

  up_more : (is : List (Name × Name)) (x : Name × Name) → AreUp is → AreUp (insert is x)
  up_more is x up =
      subst (IsStrictlySortedBy name_cmp) (sym (keys-insert_entry names_total x.0 x.1 is)) (sorted-insert_key names_total x.0 (keys_of is) up)

  abbrev put_names : List (Name × Name) → List (Name × Name) → List (Name × Name)
  put_names is xs = put names_total exact_names is xs

  placed : (xs is : List (Name × Name)) → AreUp is → Within is → AllByRecursion (λ x. kind_of k x.0 ≡ Some x.1) xs → length is + length xs ≤ length k.instances → edited_by d (with_instances is) (map set_instance xs) ≡ Ok (with_instances (put_names is xs))
  placed [] is up in_k all few = refl
  placed (x ∷ xs) is up in_k all few =
      let most = w.few in
      let longer = length-insert_entry name_cmp x.0 x.1 is in
      ap (λ (r : Result Knowledge EditRefusal). edited_on d r (map set_instance xs)) (placed_at is x up in_k all.0 (omega (arith, few, most)) (lookup (same_name x.0) is) refl)
      ∙ placed xs (insert is x) (up_more is x up) (within_more is x in_k all.0) all.1 (omega (arith, few, longer))

  module _ (xs : List (Name × Name)) (same : IsPermutation (filter (is_new d) k.instances) xs) where
    instances_are : All (λ x. kind_of k x.0 ≡ Some x.1) xs
    instances_are =
        All-permutation (λ x. kind_of k x.0 ≡ Some x.1) (filter (is_new d) k.instances) xs same (All-filter (is_new d) (λ x. kind_of k x.0 ≡ Some x.1) k.instances all_are)
      where
        all_are : All (λ x. kind_of k x.0 ≡ Some x.1) k.instances
        all_are = All-weaker (λ x. lookup (eq_by_cmp name_cmp x.0) k.instances ≡ Some x.1) (λ x. kind_of k x.0 ≡ Some x.1) (λ x e. by_order k.instances x.0 ∙ e) k.instances (all_found names_total exact_names k.instances w.rises.instances)

    are_found : Are names_total exact_names k.instances xs
    are_found =
        recursion_from_All (λ x. lookup (eq_by_cmp name_cmp x.0) k.instances ≡ Some x.1) xs (All-weaker (λ x. kind_of k x.0 ≡ Some x.1) (λ x. lookup (eq_by_cmp name_cmp x.0) k.instances ≡ Some x.1) (λ x e. sym (by_order k.instances x.0) ∙ e) xs instances_are)

    room : length (opening d).instances + length xs ≤ length k.instances
    room =
        let constants = ap length constants_are in
        let ordered = length_permutation (filter (is_new d) k.instances) xs same in
        let both = length-filter_both (λ (i : Name × Name). is_some (constant_of d i.0)) (is_new d) (λ i. other (constant_of d i.0)) k.instances in
        omega (arith, constants, ordered, both)

    new_there : (q : Name) → list_any (eq_by_cmp name_cmp q) (keys_of xs) ≡ (is_some (lookup (eq_by_cmp name_cmp q) k.instances) && is_none (constant_of d q))
    new_there q =
        keys_found (eq_by_cmp name_cmp q) (filter (is_new d) k.instances) xs same
        ∙ ap (list_any (eq_by_cmp name_cmp q)) (keys-filter (λ n. is_none (constant_of d n)) k.instances)
        ∙ is_member-filter (eq_by_cmp_equiv names_total) (λ n. is_none (constant_of d n)) q (λ n e. ap (λ (m : Name). is_none (constant_of d m)) (tells_apart exact_names q n e)) (keys_of k.instances)
        ∙ ap (λ b. b && is_none (constant_of d q)) (sym (is_some-lookup (eq_by_cmp name_cmp q) k.instances))

    all_placed : put_names (opening d).instances xs ≡ k.instances
    all_placed =
        same_entries names_total exact_names (put_names (opening d).instances xs) k.instances (sorted-put names_total exact_names (opening d).instances xs opened_up) w.rises.instances (λ q.
        at-put names_total exact_names q k.instances (opening d).instances xs are_found
        ∙ (λ i. cond (new_there q i) (lookup (eq_by_cmp name_cmp q) k.instances) (opened_at q i))
        ∙ whole_at (lookup (eq_by_cmp name_cmp q) k.instances) (constant_of d q))

    instances_made : edited_by d (opening d) (map set_instance xs) ≡ Ok (with_instances k.instances)
    instances_made =
        placed xs (opening d).instances opened_up opened_within (recursion_from_All (λ x. kind_of k x.0 ≡ Some x.1) xs instances_are) room
        ∙ ap (λ (l : List (Name × Name)). let r : Result Knowledge EditRefusal = Ok (with_instances l) in r) all_placed

  -- ---- facts

  abbrev with_facts : List Fact → Knowledge
  with_facts fs = record { instances = k.instances; facts = fs; values = []; goal = None }

  added : (xs fs : List Fact) → AllByRecursion (λ f. Contains k.facts f) xs → edited_by d (with_facts fs) (map AddFact xs) ≡ Ok (with_facts (fold (insert_key fact_cmp) fs xs))
  added [] fs all = refl
  added (x ∷ xs) fs all =
      let fine : fault_of_fact d (with_facts fs) x ≡ None = no_fault NoPredicate d (with_facts fs) (predicate_of d x.head) x.args (w.facts x all.0) in
      ap (λ (o : Option EditRefusal). edited_on d (unless o (Ok (with_facts (insert_key fact_cmp fs x)))) (map AddFact xs)) fine
      ∙ added xs (insert_key fact_cmp fs x) all.1

  facts_made : (xs : List Fact) → IsPermutation k.facts xs → edited_by d (with_facts []) (map AddFact xs) ≡ Ok (with_facts k.facts)
  unfolding IsStrictlySortedBy
  facts_made xs same =
      added xs [] (recursion_from_All (Contains k.facts) xs (All-permutation (Contains k.facts) k.facts xs same (All-contains_itself k.facts)))
      ∙ ap (λ (l : List Fact). let r : Result Knowledge EditRefusal = Ok (with_facts l) in r) (facts_same (fold (insert_key fact_cmp) [] xs) k.facts (sorted-fold [] xs tt) w.rises.facts (λ f.
      known-inserted f [] xs ∙ sym (list_any-IsPermutation (same_fact f) k.facts xs same)))

  -- ---- values

  abbrev with_values : List (Fact × Num) → Knowledge
  with_values vs = record { instances = k.instances; facts = k.facts; values = vs; goal = None }

  abbrev put_values : List (Fact × Num) → List (Fact × Num) → List (Fact × Num)
  put_values vs xs = put facts_total exact_facts vs xs

  valued : (xs vs : List (Fact × Num)) → AllByRecursion (λ v. value_in k v.0 ≡ Some v.1) xs → edited_by d (with_values vs) (map set_value xs) ≡ Ok (with_values (put_values vs xs))
  valued [] vs all = refl
  valued (x ∷ xs) vs all =
      let fine : fault_of_value d (with_values vs) x.0 ≡ None = no_fault NoFunction d (with_values vs) (function_of d x.0.head) x.0.args (w.values x.0 x.1 all.0) in
      ap (λ (o : Option EditRefusal). edited_on d (unless o (Ok (with_values (insert_entry fact_cmp vs x.0 x.1)))) (map set_value xs)) fine
      ∙ valued xs (insert_entry fact_cmp vs x.0 x.1) all.1

  values_made : (xs : List (Fact × Num)) → IsPermutation k.values xs → edited_by d (with_values []) (map set_value xs) ≡ Ok (with_values k.values)
  unfolding IsStrictlySortedBy
  values_made xs same =
      valued xs [] all
      ∙ ap (λ (l : List (Fact × Num)). let r : Result Knowledge EditRefusal = Ok (with_values l) in r) (same_entries facts_total exact_facts (put_values [] xs) k.values (sorted-put facts_total exact_facts [] xs tt) w.rises.values (λ q.
      at-put facts_total exact_facts q k.values [] xs all
      ∙ ap (λ b. cond b (lookup (same_fact q) k.values) None) (keys_found (same_fact q) k.values xs same ∙ sym (is_some-lookup (same_fact q) k.values))
      ∙ all_there (lookup (same_fact q) k.values)))
    where
      all : AllByRecursion (λ v. value_in k v.0 ≡ Some v.1) xs
      all = recursion_from_All (λ v. value_in k v.0 ≡ Some v.1) xs (All-permutation (λ v. value_in k v.0 ≡ Some v.1) k.values xs same (all_found facts_total exact_facts k.values w.rises.values))

  -- ---- the goal

  goal_made : (goal : Option Cond) → k.goal ≡ goal → edited_by d (with_values k.values) (set_goal goal) ≡ Ok k
  goal_made None e =
      let back = sym e in λ i. Ok (record { instances = k.instances; facts = k.facts; values = k.values; goal = back i })
  goal_made (Some goal) e =
      let back = sym e in
      let could : fault_of_cond d k [] (cond_tree goal) ≡ None = subst (λ g. IfSome g (λ goal. fault_of_cond d k [] (cond_tree goal) ≡ None)) e w.goal in
      let fine : fault_of_cond d (with_values k.values) [] (cond_tree goal) ≡ None = cond_stays d k (with_values k.values) (record { 0 = 0 }) (Unit {0}) (λ m t s h. h) (cond_tree goal) (inr tt) could in
      ap (λ (o : Option EditRefusal). edited_on d (unless o (Ok (record (with_values k.values) { goal = Some goal }))) []) fine
      ∙ (λ i. Ok (record { instances = k.instances; facts = k.facts; values = k.values; goal = back i }))

  all_made : (xs : List (Name × Name)) (fs : List Fact) (vs : List (Fact × Num)) → IsPermutation (filter (is_new d) k.instances) xs → IsPermutation k.facts fs → IsPermutation k.values vs → edited_by d (opening d) (map set_instance xs ++ (map AddFact fs ++ (map set_value vs ++ set_goal k.goal))) ≡ Ok k
  all_made xs fs vs a b c =
      edits_join d (opening d) (with_instances k.instances) (map set_instance xs) (map AddFact fs ++ (map set_value vs ++ set_goal k.goal)) (instances_made xs a)
      ∙ edits_join d (with_facts []) (with_facts k.facts) (map AddFact fs) (map set_value vs ++ set_goal k.goal) (facts_made fs b)
      ∙ edits_join d (with_values []) (with_values k.values) (map set_value vs) (set_goal k.goal) (values_made vs c)
      ∙ goal_made k.goal refl

pub saved_give_it : SavedGiveIt
saved_give_it names d k edits w s =
    ap (edited_by d (opening d)) s.are
    ∙ all_made d k w s.instances s.facts s.values s.instances_rise.same s.facts_rise.same s.values_rise.same
