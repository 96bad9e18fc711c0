-- How many names may stand for a parameter, and how many ground actions there are.
use Rattle.std.proofs.Common.{◌≡◌, ℕ, ◌+◌, ◌*◌, ◌<◌, ◌≤◌, min, Bool, true, false, not, ◌&&◌, ◌||◌, if◌then◌else◌, List, [], ◌∷◌, length, get_or, map, drop, filter, fold, refl, ap, sym, ◌∙◌, arith, mul_assoc, inl, inr, ◌⊎◌, suc, zero, length-append, cond}
use Rattle.std.specs.List.{AllByRecursion, list_any, flat_map}
use Rattle.std.specs.Ordering.{match_ordering}
use Rattle.std.specs.BTreeMap.{insert_entry}
use Rattle.std.specs.declared.cmp.Ordering.{Ordering}
use Rattle.std.specs.declared.cmp.Ordering.TheVariants.{Less, Equal, Greater}
use Rattle.std.proofs.lemmas.List.{at_drop_more, drop_more, length-map}
use Rattle.std.proofs.lemmas.Nat.{mul-le}
use Rattle.std.proofs.lemmas.Bool.{cases_lt}
use Rattle.std.proofs.lemmas.Bool.Decides.{nat_tests}
use Rattle.std.proofs.lemmas.Cmp.{ranked}
use Rattle.ps_world.specs.Names.{same_name, name_cmp}
use Rattle.ps_world.specs.Knowledge.{is_below}
use Rattle.ps_world.specs.declared.names.Name.{Name}
use Rattle.ps_world.specs.declared.domains.Domain.{Domain}
use Rattle.ps_world.specs.declared.domains.Param.{Param}
use Rattle.ps_action.specs.Grounding.{with_named, by_name, choices, picks}
use Rattle.ps_domain.proofs.Indexes.{same_turned}
use Rattle.ps_domain.proofs.Pairs.{Pairs}

-- ---- instances in the order of their names

-- each of these instances has a name above this one
abbrev pub Above : Name → List (Name × Name) → Type 0
Above n es = AllByRecursion (λ e. n.0 < e.0.0) es

-- the names of these instances rise
abbrev pub Rises : List (Name × Name) → Type 0
Rises es = Pairs (λ a b. a.0.0 < b.0.0) es

above_higher : (n m : Name) (es : List (Name × Name)) → n.0 < m.0 → Above m es → Above n es
above_higher n m [] lt h = tt
above_higher n m (e ∷ es) lt h = (omega (arith, h.0), above_higher n m es lt h.1)

above_same : (n m : Name) (es : List (Name × Name)) → n.0 ≡ m.0 → Above m es → Above n es
above_same n m [] e h = tt
above_same n m (x ∷ es) e h = (omega (arith, h.0), above_same n m es e h.1)

above-insert : (n k v : Name) (es : List (Name × Name)) → n.0 < k.0 → Above n es → Above n (insert_entry name_cmp es k v)
above-insert n k v [] lt h = (lt, tt)
above-insert n k v (e ∷ es) lt h =
    elim (name_cmp k e.0) as (λ r. Above n (match_ordering r ((k, v) ∷ e ∷ es) ((e.0, v) ∷ es) (e ∷ insert_entry name_cmp es k v))) [
      | Less ↦ (lt, h)
      | Equal ↦ h
      | Greater ↦ (h.0, above-insert n k v es lt h.1)
    ]

rises-at : (k v : Name) (e : Name × Name) (es : List (Name × Name)) (r : Ordering) → r ≡ name_cmp k e.0 → Rises (e ∷ es) → Rises (insert_entry name_cmp es k v)
    → Rises (match_ordering r ((k, v) ∷ e ∷ es) ((e.0, v) ∷ es) (e ∷ insert_entry name_cmp es k v))
rises-at k v e es Less is h more = let lt : k.0 < e.0.0 = ranked k.0 e.0.0 Less is in ((lt, above_higher k e.0 es lt h.0), h)
rises-at k v e es Equal is h more = h
rises-at k v e es Greater is h more = (above-insert e.0 k v es (ranked k.0 e.0.0 Greater is) h.0, more)

pub rises-insert : (k v : Name) (es : List (Name × Name)) → Rises es → Rises (insert_entry name_cmp es k v)
rises-insert k v [] h = (tt, tt)
rises-insert k v (e ∷ es) h = rises-at k v e es (name_cmp k e.0) refl h (rises-insert k v es h.1)

-- ---- a count of instances, as one more is put in

-- the weight of several instances, by that of each
abbrev pub weight : (Name × Name → ℕ) → List (Name × Name) → ℕ
weight W [] = 0
weight W (e ∷ es) = W e + weight W es

-- this weight of an instance, where it hasn't this name
abbrev but : Name → (Name × Name → ℕ) → Name × Name → ℕ
but k W e = if same_name k e.0 then 0 else W e

sum_same : (V W : Name × Name → ℕ) (es : List (Name × Name)) → ((e : Name × Name) → V e ≡ W e) → weight V es ≡ weight W es
sum_same V W [] h = refl
sum_same V W (e ∷ es) h = rw (h e, sum_same V W es h) refl

pub apart : (k n : Name) → k.0 < n.0 → same_name k n ≡ false
apart k n lt = grind (arith, nat_tests)

apart_back : (k n : Name) → n.0 < k.0 → same_name k n ≡ false
apart_back k n lt = grind (arith, nat_tests)

pub tied : (k n : Name) → k.0 ≡ n.0 → same_name k n ≡ true
tied k n e = grind (arith, nat_tests)

sum-above : (k : Name) (W : Name × Name → ℕ) (es : List (Name × Name)) → Above k es → weight (but k W) es ≡ weight W es
sum-above k W [] h = refl
sum-above k W (e ∷ es) h = rw (apart k e.0 h.0, sum-above k W es h.1) refl

sum-at : (k v : Name) (W : Name × Name → ℕ) (e : Name × Name) (es : List (Name × Name)) (r : Ordering) → r ≡ name_cmp k e.0 → Rises (e ∷ es)
    → weight W (insert_entry name_cmp es k v) ≡ weight (but k W) es + W (k, v)
    → weight W (match_ordering r ((k, v) ∷ e ∷ es) ((e.0, v) ∷ es) (e ∷ insert_entry name_cmp es k v)) ≡ weight (but k W) (e ∷ es) + W (k, v)
sum-at k v W e es Less is h more =
    let lt : k.0 < e.0.0 = ranked k.0 e.0.0 Less is in
    let same : weight (but k W) (e ∷ es) ≡ weight W (e ∷ es) = sum-above k W (e ∷ es) (lt, above_higher k e.0 es lt h.0) in
    omega (arith, same)
sum-at k v W e es Equal is h more =
    let eq : k.0 ≡ e.0.0 = ranked k.0 e.0.0 Equal is in
    let name : k ≡ e.0 = λ i. record { 0 = eq i } in
    let same : weight (but k W) es ≡ weight W es = sum-above k W es (above_same k e.0 es eq h.0) in
    let gone : but k W e ≡ 0 = rw (tied k e.0 eq) refl in
    let there : W (e.0, v) ≡ W (k, v) = ap (λ (n : Name). W (n, v)) (sym name) in
    omega (arith, same, gone, there)
sum-at k v W e es Greater is h more =
    let kept : but k W e ≡ W e = rw (apart_back k e.0 (ranked k.0 e.0.0 Greater is)) refl in
    omega (arith, kept, more)

pub sum-insert : (k v : Name) (W : Name × Name → ℕ) (es : List (Name × Name)) → Rises es → weight W (insert_entry name_cmp es k v) ≡ weight (but k W) es + W (k, v)
sum-insert k v W [] h = omega arith
sum-insert k v W (e ∷ es) h = sum-at k v W e es (name_cmp k e.0) refl h (sum-insert k v W es h.1)

-- ---- the names that may stand for a parameter

-- whether one of these instances has the name
abbrev pub is_named : List (Name × Name) → Name → Bool
is_named instances n = list_any (λ i. same_name n i.0) instances

-- one for what is so
abbrev pub one_if : Bool → ℕ
one_if true = 1
one_if false = 0

module _ (d : Domain) (want : Name) where
  -- one for an instance whose type is this one or below it
  abbrev pub one : Name × Name → ℕ
  one i = one_if (is_below d i.1 want)

  -- one for such an instance that none of the others has the name of
  abbrev pub one_more : Name × Name → List (Name × Name) → ℕ
  one_more i is = one_if (is_below d i.1 want && not (is_named is i.0))

  -- how many instances have such a type, each counted at its last place
  abbrev pub last_count : List (Name × Name) → ℕ
  last_count [] = 0
  last_count (i ∷ is) = one_more i is + last_count is

  -- the weight of an instance that may still be replaced by one of these
  abbrev kept_one : List (Name × Name) → Name × Name → ℕ
  kept_one is e = if is_named is e.0 then 0 else one e

  either_way : (a b : Bool) (n : ℕ) → (if a then 0 else (if b then 0 else n)) ≡ (if a || b then 0 else n)
  either_way true b n = refl
  either_way false b n = refl

  kept-but : (x : Name × Name) (xs : List (Name × Name)) (e : Name × Name) → but x.0 (kept_one xs) e ≡ kept_one (x ∷ xs) e
  kept-but x xs e = either_way (same_name x.0 e.0) (is_named xs e.0) (one e) ∙ ap (λ (b : Bool). if b || is_named xs e.0 then 0 else one e) (same_turned x.0 e.0)

  one-both : (a b : Bool) → (if a then 0 else one_if b) ≡ one_if (b && not a)
  one-both true true = refl
  one-both true false = refl
  one-both false true = refl
  one-both false false = refl

  sum-with_named : (xs es : List (Name × Name)) → Rises es → weight one (fold with_named es xs) ≡ weight (kept_one xs) es + last_count xs
  sum-with_named [] es h = omega arith
  sum-with_named (x ∷ xs) es h =
      let rest : weight one (fold with_named (with_named es x) xs) ≡ weight (kept_one xs) (with_named es x) + last_count xs =
      sum-with_named xs (with_named es x) (rises-insert x.0 x.1 es h) in
      let put : weight (kept_one xs) (with_named es x) ≡ weight (but x.0 (kept_one xs)) es + kept_one xs (x.0, x.1) = sum-insert x.0 x.1 (kept_one xs) es h in
      let same : weight (but x.0 (kept_one xs)) es ≡ weight (kept_one (x ∷ xs)) es = sum_same (but x.0 (kept_one xs)) (kept_one (x ∷ xs)) es (kept-but x xs) in
      let here : kept_one xs (x.0, x.1) ≡ one_more x xs = one-both (is_named xs x.0) (is_below d x.1 want) in
      omega (arith, rest, put, same, here)

  kept-at : (e : Name × Name) (es : List (Name × Name)) (b : Bool) → length (filter (λ i. is_below d i.1 want) es) ≡ weight one es
      → length (cond b (e ∷ filter (λ i. is_below d i.1 want) es) (filter (λ i. is_below d i.1 want) es)) ≡ one_if b + weight one es
  kept-at e es true h = omega arith
  kept-at e es false h = omega arith

  length-kept : (es : List (Name × Name)) → length (filter (λ i. is_below d i.1 want) es) ≡ weight one es
  length-kept [] = refl
  length-kept (e ∷ es) = kept-at e es (is_below d e.1 want) (length-kept es)

  pub count_at : (xs : List (Name × Name)) (i : ℕ) (none : Name × Name) → i < length xs → last_count (drop i xs) ≡ one_more (get_or xs i none) (drop (i + 1) xs) + last_count (drop (i + 1) xs)
  count_at xs i none within = at_drop_more last_count xs i none within

-- an instance counts where its type fits and its name comes no more
pub counts_yes : (below named : Bool) → below ≡ true → named ≡ false → one_if (below && not named) ≡ 1
counts_yes below named e h = rw (e, h) refl

pub counts_named : (below named : Bool) → named ≡ true → one_if (below && not named) ≡ 0
counts_named true named h = rw h refl
counts_named false named h = refl

pub counts_unfit : (below named : Bool) → below ≡ false → one_if (below && not named) ≡ 0
counts_unfit below named h = rw h refl

-- as many names may stand for a parameter as are counted
pub length-choices : (d : Domain) (instances : List (Name × Name)) (p : Param) → length (choices d instances p) ≡ last_count d p.kind instances
length-choices d instances p =
    let sorted : List (Name × Name) = by_name instances in
    let names : length (choices d instances p) ≡ length (filter (λ i. is_below d i.1 p.kind) sorted) = length-map (filter (λ i. is_below d i.1 p.kind) sorted) (λ i. i.0) in
    let kept = length-kept d p.kind sorted in
    let summed = sum-with_named d p.kind instances [] tt in
    omega (arith, names, kept, summed)

-- ---- lists of arguments

pub length-picked : (ns : List Name) (lists : List (List Name)) → length (flat_map (λ n. map (λ args. n ∷ args) lists) ns) ≡ length ns * length lists
length-picked [] lists = omega arith
length-picked (n ∷ ns) lists =
    let pieces = length-append (map (λ (args : List Name). n ∷ args) lists) (flat_map (λ n. map (λ args. n ∷ args) lists) ns) in
    let first = length-map lists (λ (args : List Name). n ∷ args) in
    let rest = length-picked ns lists in
    omega (arith, pieces, first, rest)

pub capped-by : (top x y : ℕ) → 50001 ≤ top → (x < 50002) ⊎ (50002 ≤ x) → min 50001 (min (min x top) 50001 * y) ≡ min 50001 (x * y)
capped-by top x y high (inl few) = let same : min (min x top) 50001 ≡ x = omega arith in rw same refl
capped-by top x zero high (inr many) = omega arith
capped-by top x (suc y) high (inr many) =
    let most : min (min x top) 50001 ≡ 50001 = omega arith in
    let left : 50001 * 1 ≤ 50001 * suc y = mul-le 50001 1 50001 (suc y) (omega arith) (omega arith) in
    let right : 50001 * 1 ≤ x * suc y = mul-le 50001 1 x (suc y) (omega arith) (omega arith) in
    rw most (omega arith)

-- a product stops where its first factor is stopped
pub capped : (top x y : ℕ) → 50001 ≤ top → min 50001 (min (min x top) 50001 * y) ≡ min 50001 (x * y)
capped top x y high = capped-by top x y high (cases_lt x 50002)

-- the count so far, with the choices of one more parameter
pub count_more : (f : Param → List Name) (ps : List Param) (i : ℕ) (none : Param) (top was n : ℕ) → 50001 ≤ top → i < length ps → n ≡ length (f (get_or ps i none))
    → min 50001 (min (min (was * n) top) 50001 * length (picks (map f (drop (i + 1) ps)))) ≡ min 50001 (was * length (picks (map f (drop i ps))))
count_more f ps i none top was n high within is =
    let later = length (picks (map f (drop (i + 1) ps))) in
    let split : length (picks (map f (drop i ps))) ≡ length (f (get_or ps i none)) * later =
    ap (λ (l : List Param). length (picks (map f l))) (drop_more ps i none within) ∙ length-picked (f (get_or ps i none)) (picks (map f (drop (i + 1) ps))) in
    let turned : was * n * later ≡ was * (length (f (get_or ps i none)) * later) = rw (is, mul_assoc) refl in
    capped top (was * n) later high ∙ ap (min 50001) (turned ∙ ap (λ (k : ℕ). was * k) (sym split))
