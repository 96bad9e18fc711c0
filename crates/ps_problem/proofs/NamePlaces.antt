-- Where a name stands in a list that rises.
use Rattle.std.proofs.Common.{◌≡◌, ℕ, zero, suc, ◌≤◌, ◌<◌, true, false, true≢false, cond, List, [], ◌∷◌, Some, None, length, refl, ap, sym, ◌∙◌, arith}
use Rattle.std.specs.Prelude.{slice_get, slice_index_or, slice_set, filter, insert, not, remove}
use Rattle.std.specs.List.{AllByRecursion}
use Rattle.std.specs.List.Sorted.{IsPartitionedBy, IsPartitionPoint, IsStrictlySortedBy}
use Rattle.std.specs.Map.{keys_of, lookup}
use Rattle.std.specs.BTreeMap.{insert_entry}
use Rattle.std.specs.Ordering.{is_gt, match_ordering}
use Rattle.std.specs.declared.cmp.Ordering.{Ordering}
use Rattle.std.specs.declared.cmp.Ordering.TheVariants.{Less, Equal, Greater}
use Rattle.std.proofs.lemmas.Bool.Decides.{nat_tests}
use Rattle.ps_world.specs.Names.{name_cmp, same_name}
use Rattle.ps_world.specs.declared.names.Name.{Name}
use Rattle.ps_action.proofs.Facts.{names_total}
use Rattle.ps_action.proofs.Keys.{keys-insert_entry, sorted-insert_key}
use Rattle.ps_problem.specs.KindLists.{is_named, place_of}
use Rattle.ps_problem.proofs.Filters.{sorted-filter}

same-Less : (n m : Name) → name_cmp n m ≡ Less → same_name n m ≡ false
same-Less n m h = grind (arith, nat_tests)

is-Equal : (n m : Name) → name_cmp n m ≡ Equal → same_name n m ≡ true
is-Equal n m h = grind (arith, nat_tests)

same-Equal : (n m : Name) → name_cmp n m ≡ Equal → n ≡ m
same-Equal n m h = grind (arith, nat_tests)

same-Greater : (n m : Name) → name_cmp n m ≡ Greater → same_name n m ≡ false
same-Greater n m h = grind (arith, nat_tests)

-- a name above a second is above what the second is above
above : (n a b : Name) → name_cmp a b ≡ Less → is_gt (name_cmp n b) ≡ true → is_gt (name_cmp n a) ≡ true
above n a b h g = grind (arith, nat_tests)

all_at : (P : Name → Type 0) (es : List (Name × Name)) (j : ℕ) (d : Name × Name) → AllByRecursion P (keys_of es) → j < length es → P (slice_index_or es j d).0
all_at P [] j d a h = absurd (omega arith)
all_at P (e ∷ es) zero d a h = a.0
all_at P (e ∷ es) (suc j) d a h =
    let less : j < length es = omega arith in
    all_at P es j d a.1 less

-- in a list that rises the names below this one come first
pub parted : (n : Name) (es : List (Name × Name)) → IsStrictlySortedBy name_cmp (keys_of es) → IsPartitionedBy (λ e. is_gt (name_cmp n e.0)) es
unfolding IsStrictlySortedBy
parted n [] s i j d h k g = absurd (omega arith)
parted n (e ∷ es) s zero zero d h k g = g
parted n (e ∷ es) s zero (suc j) d h k g =
    let less : j < length es = omega arith in
    above n e.0 (slice_index_or es j d).0 (all_at (λ y. name_cmp e.0 y ≡ Less) es j d s.0 less) g
parted n (e ∷ es) s (suc i) zero d h k g = absurd (omega arith)
parted n (e ∷ es) s (suc i) (suc j) d h k g =
    let below : i ≤ j = omega arith in
    let less : j < length es = omega arith in
    parted n es s.1 i j d below less g

-- the place of a name is where the names below it end
pub place_is : (n : Name) (es : List (Name × Name)) (i : ℕ) → i ≤ length es → IsPartitionPoint (λ e. is_gt (name_cmp n e.0) ≡ true) (λ e. is_gt (name_cmp n e.0) ≡ false) es i → place_of n es ≡ i
place_is n [] i h p = omega arith
place_is n (e ∷ es) zero h p =
    let first : is_gt (name_cmp n e.0) ≡ false = p.1 zero e (omega arith) (omega arith) in
    ap (λ b. cond b (suc (place_of n es)) 0) first
place_is n (e ∷ es) (suc i) h p =
    let first : is_gt (name_cmp n e.0) ≡ true = p.0 zero e (omega arith) (omega arith) in
    let less : i ≤ length es = omega arith in
    let rest = place_is n es i less (λ j d low up. p.0 (suc j) d (omega arith) (omega arith), λ j d low up. p.1 (suc j) d (omega arith) (omega arith)) in
    ap (λ b. cond b (suc (place_of n es)) 0) first ∙ ap suc rest

pub place_within : (n : Name) (es : List (Name × Name)) → place_of n es ≤ length es
place_within n [] = omega arith
place_within n (e ∷ es) = elim (is_gt (name_cmp n e.0)) as (λ b. cond b (suc (place_of n es)) 0 ≤ suc (length es)) [
  | true ↦ omega (arith, place_within n es)
  | false ↦ omega arith
]

-- ---- what is put in

over_at : (n k : Name) (e : Name × Name) (es : List (Name × Name)) (r : Ordering) → name_cmp n e.0 ≡ r →
    (is_named n (slice_get es (place_of n es)) ≡ true → slice_set es (place_of n es) (n, k) ≡ insert_entry name_cmp es n k) →
    is_named n (slice_get (e ∷ es) (cond (is_gt r) (suc (place_of n es)) 0)) ≡ true →
    slice_set (e ∷ es) (cond (is_gt r) (suc (place_of n es)) 0) (n, k) ≡ match_ordering r ((n, k) ∷ e ∷ es) ((e.0, k) ∷ es) (e ∷ insert_entry name_cmp es n k)
over_at n k e es Less p rest s = let other = same-Less n e.0 p in absurd (true≢false (sym s ∙ other))
over_at n k e es Equal p rest s = ap (λ (m : Name). (m, k) ∷ es) (same-Equal n e.0 p)
over_at n k e es Greater p rest s = ap (λ l. e ∷ l) (rest s)

-- the type of a name that stands in its place is written there
pub put_over : (n k : Name) (es : List (Name × Name)) → is_named n (slice_get es (place_of n es)) ≡ true → slice_set es (place_of n es) (n, k) ≡ insert_entry name_cmp es n k
put_over n k [] s = absurd (true≢false (sym s))
put_over n k (e ∷ es) s = over_at n k e es (name_cmp n e.0) refl (put_over n k es) s

between_at : (n k : Name) (e : Name × Name) (es : List (Name × Name)) (r : Ordering) → name_cmp n e.0 ≡ r →
    (is_named n (slice_get es (place_of n es)) ≡ false → insert es (place_of n es) (n, k) ≡ insert_entry name_cmp es n k) →
    is_named n (slice_get (e ∷ es) (cond (is_gt r) (suc (place_of n es)) 0)) ≡ false →
    insert (e ∷ es) (cond (is_gt r) (suc (place_of n es)) 0) (n, k) ≡ match_ordering r ((n, k) ∷ e ∷ es) ((e.0, k) ∷ es) (e ∷ insert_entry name_cmp es n k)
between_at n k e es Less p rest s = refl
between_at n k e es Equal p rest s = absurd (true≢false (sym (is-Equal n e.0 p) ∙ s))
between_at n k e es Greater p rest s = ap (λ l. e ∷ l) (rest s)

-- a name that isn't there comes into its place
pub put_between : (n k : Name) (es : List (Name × Name)) → is_named n (slice_get es (place_of n es)) ≡ false → insert es (place_of n es) (n, k) ≡ insert_entry name_cmp es n k
put_between n k [] s = refl
put_between n k (e ∷ es) s = between_at n k e es (name_cmp n e.0) refl (put_between n k es) s

-- ---- what is found

found_at : (n : Name) (e d : Name × Name) (es : List (Name × Name)) (r : Ordering) → name_cmp n e.0 ≡ r →
    (is_named n (slice_get es (place_of n es)) ≡ true → lookup (same_name n) es ≡ Some (slice_index_or es (place_of n es) d).1) →
    is_named n (slice_get (e ∷ es) (cond (is_gt r) (suc (place_of n es)) 0)) ≡ true → lookup (same_name n) (e ∷ es) ≡ Some (slice_index_or (e ∷ es) (cond (is_gt r) (suc (place_of n es)) 0) d).1
found_at n e d es Less p rest s = absurd (true≢false (sym s ∙ same-Less n e.0 p))
found_at n e d es Equal p rest s = rw (is-Equal n e.0 p) refl
found_at n e d es Greater p rest s = rw (same-Greater n e.0 p) (rest s)

-- the type that stands at the place of a name
pub found : (n : Name) (d : Name × Name) (es : List (Name × Name)) → is_named n (slice_get es (place_of n es)) ≡ true → lookup (same_name n) es ≡ Some (slice_index_or es (place_of n es) d).1
found n d [] s = absurd (true≢false (sym s))
found n d (e ∷ es) s = found_at n e d es (name_cmp n e.0) refl (found n d es) s

below_all : (n m y : Name) → name_cmp n m ≡ Less → name_cmp m y ≡ Less → same_name n y ≡ false
below_all n m y h k = grind (arith, nat_tests)

nowhere : (n m : Name) (es : List (Name × Name)) → name_cmp n m ≡ Less → AllByRecursion (λ y. name_cmp m y ≡ Less) (keys_of es) → lookup (same_name n) es ≡ None
nowhere n m [] h a = refl
nowhere n m (e ∷ es) h a = rw (below_all n m e.0 h a.0) (nowhere n m es h a.1)

missed_at : (n : Name) (e : Name × Name) (es : List (Name × Name)) (r : Ordering) → name_cmp n e.0 ≡ r → AllByRecursion (λ y. name_cmp e.0 y ≡ Less) (keys_of es) →
    (is_named n (slice_get es (place_of n es)) ≡ false → lookup (same_name n) es ≡ None) →
    is_named n (slice_get (e ∷ es) (cond (is_gt r) (suc (place_of n es)) 0)) ≡ false → lookup (same_name n) (e ∷ es) ≡ None
missed_at n e es Less p a rest s = rw (same-Less n e.0 p) (nowhere n e.0 es p a)
missed_at n e es Equal p a rest s = absurd (true≢false (sym (is-Equal n e.0 p) ∙ s))
missed_at n e es Greater p a rest s = rw (same-Greater n e.0 p) (rest s)

-- a name that doesn't stand at its place is nowhere
pub missed : (n : Name) (es : List (Name × Name)) → IsStrictlySortedBy name_cmp (keys_of es) → is_named n (slice_get es (place_of n es)) ≡ false → lookup (same_name n) es ≡ None
unfolding IsStrictlySortedBy
missed n [] a s = refl
missed n (e ∷ es) a s = missed_at n e es (name_cmp n e.0) refl a.0 (missed n es a.1) s

-- where a name stands, there is a place
pub within : (n : Name) (es : List (Name × Name)) (i : ℕ) → is_named n (slice_get es i) ≡ true → i < length es
within n [] i s = absurd (true≢false (sym s))
within n (e ∷ es) zero s = omega arith
within n (e ∷ es) (suc i) s = omega (arith, within n es i s)

-- ---- what is taken out

not_above : (n m y : Name) → is_gt (name_cmp n m) ≡ false → name_cmp m y ≡ Less → same_name n y ≡ false
not_above n m y h k = grind (arith, nat_tests)

-- all that stands after a name that isn't below this one is kept
kept_after : (n m : Name) (es : List (Name × Name)) → is_gt (name_cmp n m) ≡ false → AllByRecursion (λ y. name_cmp m y ≡ Less) (keys_of es) → filter (λ i. not (same_name n i.0)) es ≡ es
kept_after n m [] h a = refl
kept_after n m (e ∷ es) h a = rw (not_above n m e.0 h a.0) (ap (λ l. e ∷ l) (kept_after n m es h a.1))

taken_at : (n : Name) (e : Name × Name) (es : List (Name × Name)) (r : Ordering) → name_cmp n e.0 ≡ r → AllByRecursion (λ y. name_cmp e.0 y ≡ Less) (keys_of es) →
    (is_named n (slice_get es (place_of n es)) ≡ true → remove es (place_of n es) ≡ filter (λ i. not (same_name n i.0)) es) →
    is_named n (slice_get (e ∷ es) (cond (is_gt r) (suc (place_of n es)) 0)) ≡ true → remove (e ∷ es) (cond (is_gt r) (suc (place_of n es)) 0) ≡ filter (λ i. not (same_name n i.0)) (e ∷ es)
taken_at n e es Less p a rest s = absurd (true≢false (sym s ∙ same-Less n e.0 p))
taken_at n e es Equal p a rest s = rw (is-Equal n e.0 p) (sym (kept_after n e.0 es (ap is_gt p) a))
taken_at n e es Greater p a rest s = rw (same-Greater n e.0 p) (ap (λ l. e ∷ l) (rest s))

-- a name that stands in its place is taken out there
pub taken : (n : Name) (es : List (Name × Name)) → IsStrictlySortedBy name_cmp (keys_of es) → is_named n (slice_get es (place_of n es)) ≡ true → remove es (place_of n es) ≡ filter (λ i. not (same_name n i.0)) es
unfolding IsStrictlySortedBy
taken n [] a s = absurd (true≢false (sym s))
taken n (e ∷ es) a s = taken_at n e es (name_cmp n e.0) refl a.0 (taken n es a.1) s

left_at : (n : Name) (e : Name × Name) (es : List (Name × Name)) (r : Ordering) → name_cmp n e.0 ≡ r → AllByRecursion (λ y. name_cmp e.0 y ≡ Less) (keys_of es) →
    (is_named n (slice_get es (place_of n es)) ≡ false → es ≡ filter (λ i. not (same_name n i.0)) es) →
    is_named n (slice_get (e ∷ es) (cond (is_gt r) (suc (place_of n es)) 0)) ≡ false → e ∷ es ≡ filter (λ i. not (same_name n i.0)) (e ∷ es)
left_at n e es Less p a rest s = rw (same-Less n e.0 p) (sym (ap (λ l. e ∷ l) (kept_after n e.0 es (ap is_gt p) a)))
left_at n e es Equal p a rest s = absurd (true≢false (sym (is-Equal n e.0 p) ∙ s))
left_at n e es Greater p a rest s = rw (same-Greater n e.0 p) (ap (λ l. e ∷ l) (rest s))

-- where a name doesn't stand at its place, nothing is to be taken out
pub left : (n : Name) (es : List (Name × Name)) → IsStrictlySortedBy name_cmp (keys_of es) → is_named n (slice_get es (place_of n es)) ≡ false → es ≡ filter (λ i. not (same_name n i.0)) es
unfolding IsStrictlySortedBy
left n [] a s = refl
left n (e ∷ es) a s = left_at n e es (name_cmp n e.0) refl a.0 (left n es a.1) s

-- ---- an edit keeps the order

-- the names of a list rise
abbrev pub Rises : List (Name × Name) → Type 0
Rises es = IsStrictlySortedBy name_cmp (keys_of es)

pub rises_put : (n k : Name) (es : List (Name × Name)) → Rises es → Rises (insert_entry name_cmp es n k)
rises_put n k es s = rw (keys-insert_entry names_total n k es) (sorted-insert_key names_total n (keys_of es) s)

pub rises_without : (n : Name) (es : List (Name × Name)) → Rises es → Rises (filter (λ i. not (same_name n i.0)) es)
rises_without n es s = sorted-filter name_cmp (λ m. not (same_name n m)) es s
