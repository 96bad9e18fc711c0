-- States kept as differences are the nodes of what is searched.
use Rattle.std.proofs.Common.{◌≡◌, ℕ, zero, suc, ◌<◌, ◌≤◌, Bool, true, false, cond, nat_le, ◌||◌, Option, Some, None, option_map, List, [], ◌∷◌, ◌++◌, drop, filter_map, length, map, slice_index_or, take, refl, ap, sym, ◌∙◌, subst, arith}
use Rattle.std.specs.Cmp.{IsTotalOrder, both_tied, on_total, then_total}
use Rattle.std.specs.Cmp.Lexicographic.{lists_ties, lists_total}
use Rattle.std.specs.FinMap.{slice_cmp-IsAntisymmetric}
use Rattle.std.specs.List.{list_any}
use Rattle.std.specs.Ordering.{eq_by_cmp, on, then_cmp}
use Rattle.std.specs.Result.{result_ok}
use Rattle.std.specs.declared.cmp.Ordering.{Ordering}
use Rattle.std.proofs.lemmas.Bool.Decides.{nat_tests}
use Rattle.std.proofs.lemmas.Cmp.{eq_by_cmp_equiv}
use Rattle.std.proofs.lemmas.List.{append-nil, length-append, length-map}
use Rattle.std.proofs.lemmas.Map.Lookups.{CmpEqualImpliesEq, exact_pairs}
use Rattle.std.proofs.lemmas.Map.Views.{tells_apart}
use Rattle.ps_world.specs.Facts.{fact_cmp}
use Rattle.ps_world.specs.declared.conditions.Cond.{Cond}
use Rattle.ps_world.specs.declared.domains.Domain.{Domain}
use Rattle.ps_world.specs.declared.known.Knowledge.{Knowledge}
use Rattle.ps_action.specs.Plans.{step_of}
use Rattle.ps_action.specs.Search.{same_known}
use Rattle.ps_action.specs.declared.acts.Act.{Act}
use Rattle.ps_action.specs.declared.acts.GroundAction.{GroundAction}
use Rattle.ps_action.proofs.Facts.{exact_facts, facts_total}
use Rattle.ps_ground.specs.Moves.{Node, grounds, moves}
use Rattle.ps_ground.specs.States.{State, at, state_of, stepped}
use Rattle.ps_levels.specs.Levels.{Space, fresh, is_met}
use Rattle.ps_problem.specs.Patches.{changed}
use Rattle.ps_expand.specs.Children.{AreChildren, child_of, success}
use Rattle.ps_expand.specs.Differences.{IsBeside, Rise, difference, forth}
use Rattle.ps_expand.specs.Orders.{difference_is, differences_total, exact_values, facts_cmp, same_difference, value_cmp, values_cmp, values_total}
use Rattle.ps_expand.specs.Reached.{keys_in, path_in, with_difference}
use Rattle.ps_expand.specs.Trees.{AreBeside, AreOf, IsOf, child_node, node_in, nodes_in, tree_space}
use Rattle.ps_expand.specs.declared.differences.Difference.{Difference}
use Rattle.ps_expand.specs.declared.expanding.Child.{Child}
use Rattle.ps_expand.proofs.Differing.{alike, leads_forth}
use Rattle.ps_ground.proofs.Stepping.{stepped_at}

-- ---- the same state

abbrev state_cmp : State → State → Ordering
state_cmp = then_cmp (on (λ s. s.facts) facts_cmp) (on (λ s. s.values) values_cmp)

states_total : IsTotalOrder state_cmp
states_total = then_total (on_total (λ s. s.facts) (lists_total facts_total)) (on_total (λ s. s.values) values_total)

exact_states : CmpEqualImpliesEq state_cmp
exact_states s t e =
    let same = exact_pairs facts_cmp values_cmp (slice_cmp-IsAntisymmetric exact_facts) exact_values (s.facts, s.values) (t.facts, t.values) e in
    λ i. record { facts = (same i).0; values = (same i).1 }

same_at : (k : Knowledge) (s t : State) → same_known (at k s) (at k t) ≡ eq_by_cmp state_cmp s t
same_at k s t =
    both_tied _ _ _ _ (lists_ties fact_cmp (λ f g. refl) s.facts t.facts) (lists_ties value_cmp (λ v w. both_tied _ _ _ _ refl refl) s.values t.values)

pub known_is : (k : Knowledge) (s t : State) → same_known (at k s) (at k t) ≡ true → s ≡ t
known_is k s t e = tells_apart exact_states s t (sym (same_at k s t) ∙ e)

known_itself : (k : Knowledge) (s : State) → same_known (at k s) (at k s) ≡ true
known_itself k s = same_at k s s ∙ (eq_by_cmp_equiv states_total).refl s

bools : (a b : Bool) → (a ≡ true → b ≡ true) → (b ≡ true → a ≡ true) → a ≡ b
bools true true f g = refl
bools true false f g = absurd (let no = f refl in cc)
bools false true f g = absurd (let no = g refl in cc)
bools false false f g = refl

module _ (k : Knowledge) (up : Rise k) where
  beside : (s : State) → IsBeside k (at k s)
  beside s = record { instances = refl; goal = refl }

  -- what a difference leads to
  pub state_is : (x : Difference) (o : IsOf k x) → changed k (forth x) ≡ at k o.state
  state_is x o = ap (λ y. changed k (forth y)) o.is ∙ leads_forth k (at k o.state) up o.rise (beside o.state)

  same_both : (s t : State) → Rise (at k s) → Rise (at k t) → same_difference (difference k (at k s)) (difference k (at k t)) ≡ same_known (at k s) (at k t)
  same_both s t r u =
      bools (same_difference (difference k (at k s)) (difference k (at k t))) (same_known (at k s) (at k t)) (λ e.
      let same : at k s ≡ at k t = alike k (at k s) (at k t) up r u (beside s) (beside t) (difference_is (difference k (at k s)) (difference k (at k t)) e) in
      ap (same_known (at k s)) (sym same) ∙ known_itself k s) (λ e.
      let same = known_is k s t e in
      ap (λ (v : State). same_difference (difference k (at k s)) (difference k (at k v))) (sym same)
      ∙ (eq_by_cmp_equiv differences_total).refl (difference k (at k s)))

  met_one : (s : State) → Rise (at k s) → (x : Difference) → IsOf k x → same_difference (difference k (at k s)) x ≡ same_known (at k s) (at k (state_of (changed k (forth x))))
  met_one s r x o =
      ap (same_difference (difference k (at k s))) o.is ∙ same_both s o.state r o.rise
      ∙ ap (λ (l : Knowledge). same_known (at k s) (at k (state_of l))) (sym (state_is x o))

  -- a difference was reached where its state was met
  met_same : (s : State) → Rise (at k s) → (rs : List (Difference × List Act)) → AreOf k (keys_in rs) → list_any (same_difference (difference k (at k s))) (keys_in rs) ≡ list_any (λ (n : Node). same_known (at k s) (at k n.state)) (nodes_in k rs)
  met_same s r [] a = refl
  met_same s r (x ∷ rs) a = λ i. met_one s r x.0 a.0 i || met_same s r rs a.1 i

-- ---- one more difference

take_whole : {A : Type 0} (m : ℕ) (xs : List A) → length xs ≤ m → take m xs ≡ xs
take_whole zero [] h = refl
take_whole zero (x ∷ xs) h = absurd (omega (arith, h))
take_whole (suc m) [] h = refl
take_whole (suc m) (x ∷ xs) h = ap (λ ys. x ∷ ys) (take_whole m xs (omega (arith, h)))

take_before : {A : Type 0} (m : ℕ) (xs ys : List A) → m ≡ length xs → take m (xs ++ ys) ≡ xs
take_before zero [] ys h = refl
take_before zero (x ∷ xs) ys h = absurd (omega (arith, h))
take_before (suc m) [] ys h = absurd (omega (arith, h))
take_before (suc m) (x ∷ xs) ys h = ap (λ zs. x ∷ zs) (take_before m xs ys (omega (arith, h)))

map-one : {A B : Type 0} (f : A → B) (xs : List A) (x : A) → map f (xs ++ x ∷ []) ≡ map f xs ++ f x ∷ []
map-one f [] x = refl
map-one f (y ∷ xs) x = ap (λ ys. f y ∷ ys) (map-one f xs x)

index-one : {A : Type 0} (xs : List A) (x z : A) (i : ℕ) → i < length xs → slice_index_or (xs ++ x ∷ []) i z ≡ slice_index_or xs i z
index-one [] x z i h = absurd (omega (arith, h))
index-one (y ∷ xs) x z zero h = refl
index-one (y ∷ xs) x z (suc i) h = index-one xs x z i (omega (arith, h))

module _ (d : Domain) (k : Knowledge) (goal : Cond) (most : ℕ) (rs : List (Difference × List Act)) (few : length rs ≤ most) where
  abbrev p : Space Node State
  p = tree_space d k goal

  many : length (nodes_in k rs) ≡ length rs
  many = length-map rs (node_in k)

  kept_at : (r : Difference × List Act) (n : Node) (full met : Bool) → nat_le most (length rs) ≡ full → is_met p (nodes_in k rs) n.state ≡ met → node_in k r ≡ n → nodes_in k (cond (full || met) rs (rs ++ r ∷ [])) ≡ take most (nodes_in k rs ++ fresh p (nodes_in k rs) (n ∷ []))
  kept_at r n true true is m e =
      rw m (sym (ap (take most) (append-nil (nodes_in k rs)) ∙ take_whole most (nodes_in k rs) (omega (arith, many, few))))
  kept_at r n false true is m e =
      rw m (sym (ap (take most) (append-nil (nodes_in k rs)) ∙ take_whole most (nodes_in k rs) (omega (arith, many, few))))
  kept_at r n true false is m e =
      let low : most ≤ length rs = grind (arith, nat_tests) in
      rw m (sym (take_before most (nodes_in k rs) (n ∷ []) (omega (arith, many, few, low))))
  kept_at r n false false is m e =
      let high : length rs < most = grind (arith, nat_tests) in
      let long = length-append (nodes_in k rs) (n ∷ []) in
      rw m (map-one (node_in k) rs r ∙ ap (λ (o : Node). nodes_in k rs ++ o ∷ []) e ∙ sym (take_whole most (nodes_in k rs ++ n ∷ []) (omega (arith, long, many, high))))

  module _ (up : Rise k) (all : AreOf k (keys_in rs)) (s : State) (r : Rise (at k s)) (from : ℕ) (act : Act) where
    abbrev x : Difference
    x = difference k (at k s)

    abbrev n : Node
    n = record { state = s; path = path_in rs from ++ act ∷ [] }

    here : node_in k (x, path_in rs from ++ act ∷ []) ≡ n
    here = ap (λ (l : Knowledge). let m : Node = record { state = state_of l; path = path_in rs from ++ act ∷ [] } in m) (leads_forth k (at k s) up r (record { instances = refl; goal = refl }))

    -- the nodes after one more difference
    pub kept_one : nodes_in k (with_difference most rs x from act) ≡ take most (nodes_in k rs ++ fresh p (nodes_in k rs) (n ∷ []))
    kept_one =
        ap (λ b. nodes_in k (cond (nat_le most (length rs) || b) rs (rs ++ (x, path_in rs from ++ act ∷ []) ∷ []))) (met_same k up s r rs all)
        ∙ kept_at (x, path_in rs from ++ act ∷ []) n (nat_le most (length rs)) (is_met p (nodes_in k rs) s) refl refl here

of_one : (k : Knowledge) (xs : List Difference) (x : Difference) → AreOf k xs → IsOf k x → AreOf k (xs ++ x ∷ [])
of_one k [] x a o = (o, tt)
of_one k (y ∷ xs) x a o = (a.0, of_one k xs x a.1 o)

of_at : (k : Knowledge) (rs : List (Difference × List Act)) (r : Difference × List Act) (b : Bool) → AreOf k (keys_in rs) → IsOf k r.0 → AreOf k (keys_in (cond b rs (rs ++ r ∷ [])))
of_at k rs r true a o = a
of_at k rs r false a o = subst (AreOf k) (sym (map-one (λ (q : Difference × List Act). q.0) rs r)) (of_one k (keys_in rs) r.0 a o)

-- all are still differences
pub all_of : (k : Knowledge) (most : ℕ) (rs : List (Difference × List Act)) (x : Difference) (from : ℕ) (act : Act) → AreOf k (keys_in rs) → IsOf k x → AreOf k (keys_in (with_difference most rs x from act))
all_of k most rs x from act a o =
    of_at k rs (x, path_in rs from ++ act ∷ []) (nat_le most (length rs) || list_any (same_difference x) (keys_in rs)) a o

path_at : (rs : List (Difference × List Act)) (r : Difference × List Act) (i : ℕ) (b : Bool) → i < length rs → path_in (cond b rs (rs ++ r ∷ [])) i ≡ path_in rs i
path_at rs r i true h = refl
path_at rs r i false h =
    let long = length-map rs (λ (q : Difference × List Act). q.1) in
    ap (λ (l : List (List Act)). slice_index_or l i []) (map-one (λ (q : Difference × List Act). q.1) rs r)
    ∙ index-one (map (λ (q : Difference × List Act). q.1) rs) r.1 [] i (omega (arith, long, h))

-- a path that is there stays
pub path_stays : (most : ℕ) (rs : List (Difference × List Act)) (x : Difference) (from : ℕ) (act : Act) (i : ℕ) → i < length rs → path_in (with_difference most rs x from act) i ≡ path_in rs i
path_stays most rs x from act i h =
    path_at rs (x, path_in rs from ++ act ∷ []) i (nat_le most (length rs) || list_any (same_difference x) (keys_in rs)) h

long_at : (most : ℕ) (rs : List (Difference × List Act)) (r : Difference × List Act) (a b : Bool) → nat_le most (length rs) ≡ a → length rs ≤ most → (length rs ≤ length (cond (a || b) rs (rs ++ r ∷ []))) × (length (cond (a || b) rs (rs ++ r ∷ [])) ≤ most)
long_at most rs r true b is h = (omega arith, h)
long_at most rs r false true is h = (omega arith, h)
long_at most rs r false false is h =
    let high : length rs < most = grind (arith, nat_tests) in
    let long = length-append rs (r ∷ []) in
    (omega (arith, long), omega (arith, long, high))

-- there are no fewer, and no more than may be kept
pub long_with : (most : ℕ) (rs : List (Difference × List Act)) (x : Difference) (from : ℕ) (act : Act) → length rs ≤ most → (length rs ≤ length (with_difference most rs x from act)) × (length (with_difference most rs x from act) ≤ most)
long_with most rs x from act h =
    long_at most rs (x, path_in rs from ++ act ∷ []) (nat_le most (length rs)) (list_any (same_difference x) (keys_in rs)) refl h

-- ---- children

filtered_one : {A B C : Type 0} (g : B → C) (f : A → Option B) (h : A → Option C) (a : A) (rest_of : List A) (o : Option B) → f a ≡ o → option_map g (f a) ≡ h a → map g (filter_map f rest_of) ≡ filter_map h rest_of → map g (filter_map f (a ∷ rest_of)) ≡ filter_map h (a ∷ rest_of)
filtered_one g f h a rest_of None q e rest = let none : h a ≡ None = sym e ∙ ap (option_map g) q in rw (q, none) rest
filtered_one g f h a rest_of (Some y) q e rest = let some : h a ≡ Some (g y) = sym e ∙ ap (option_map g) q in rw (q, some) (ap (λ ys. g y ∷ ys) rest)

map_filtered : {A B C : Type 0} (g : B → C) (f : A → Option B) (h : A → Option C) → ((a : A) → option_map g (f a) ≡ h a) → (xs : List A) → map g (filter_map f xs) ≡ filter_map h xs
map_filtered g f h e [] = refl
map_filtered g f h e (a ∷ rest_of) = filtered_one g f h a rest_of (f a) refl (e a) (map_filtered g f h e rest_of)

abbrev AllBeside : Knowledge → List (Act × Knowledge) → Type 0
AllBeside k [] = Unit {0}
AllBeside k (c ∷ cs) = IsBeside k c.1 × AllBeside k cs

unmapped : (k l : Knowledge) (cs : List Child) → AllBeside k (map (child_of l) cs) → AreBeside k l cs
unmapped k l [] a = tt
unmapped k l (c ∷ cs) a = (a.0, unmapped k l cs a.1)

module _ (d : Domain) (k : Knowledge) (s : State) (path : List Act) where
  abbrev node_of : Act × Knowledge → Node
  node_of c = record { state = state_of c.1; path = path ++ c.0 ∷ [] }

  moved_one : (g : GroundAction) (o : Option State) → option_map node_of (option_map (λ l. (g.act, l)) (option_map (at k) o)) ≡ option_map (λ (t : State). let m : Node = record { state = t; path = path ++ g.act ∷ [] } in m) o
  moved_one g None = refl
  moved_one g (Some t) = refl

  moved : (gs : List GroundAction) → map node_of (filter_map (success d (at k s)) gs) ≡ moves d k gs (record { state = s; path = path })
  moved gs =
      map_filtered node_of (success d (at k s)) _ (λ g. ap (λ o. option_map node_of (option_map (λ l. (g.act, l)) o)) (stepped_at d k s 0 g) ∙ moved_one g (stepped d k s g)) gs

  child_nodes : (cs : List Child) → map (child_node (at k s) path) cs ≡ map node_of (map (child_of (at k s)) cs)
  child_nodes [] = refl
  child_nodes (c ∷ cs) = ap (λ ns. child_node (at k s) path c ∷ ns) (child_nodes cs)

  -- children are where a node leads
  pub children_moved : (cs : List Child) → AreChildren d (at k s) cs → map (child_node (at k s) path) cs ≡ moves d k (grounds d k) (record { state = s; path = path })
  children_moved cs are = child_nodes cs ∙ ap (map node_of) are ∙ moved (grounds d k)

  beside_one : (g : GroundAction) (gs : List GroundAction) (o : Option State) → result_ok (step_of d (at k s) 0 g) ≡ option_map (at k) o → AllBeside k (filter_map (success d (at k s)) gs) → AllBeside k (filter_map (success d (at k s)) (g ∷ gs))
  beside_one g gs None e rest = rw e rest
  beside_one g gs (Some t) e rest = rw e (record { instances = refl; goal = refl }, rest)

  all_beside : (gs : List GroundAction) → AllBeside k (filter_map (success d (at k s)) gs)
  all_beside [] = tt
  all_beside (g ∷ gs) = beside_one g gs (stepped d k s g) (stepped_at d k s 0 g) (all_beside gs)

  -- and have its instances and its goal
  pub children_beside : (cs : List Child) → AreChildren d (at k s) cs → AreBeside k (at k s) cs
  children_beside cs are = unmapped k (at k s) cs (subst (AllBeside k) (sym are) (all_beside (grounds d k)))

-- one child of all
pub beside_at : (k l : Knowledge) (i : ℕ) (cs rest : List Child) (c : Child) → drop i cs ≡ c ∷ rest → AreBeside k l cs → IsBeside k (changed l c.change)
beside_at k l zero [] rest c e a = absurd (cc)
beside_at k l zero (b ∷ cs) rest c e a = let same : b ≡ c = cc in subst (λ (x : Child). IsBeside k (changed l x.change)) same a.0
beside_at k l (suc i) [] rest c e a = absurd (cc)
beside_at k l (suc i) (b ∷ cs) rest c e a = beside_at k l i cs rest c e a.1
