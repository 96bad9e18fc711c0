-- Children in parallel.
use Rattle.std.proofs.Common.{◌≡◌, ◌≢◌, ℕ, zero, suc, ◌+◌, ◌<◌, ◌≤◌, Bool, true, false, ◌&&◌, ◌||◌, if◌then◌else◌, List, [], ◌∷◌, ◌++◌, map, refl, ap, sym, ◌∙◌, arith}
use Rattle.std.specs.List.{list_all, list_any, range_with_len}
use Rattle.std.proofs.lemmas.List.Folds.{list_all-append, list_any-append}
use Rattle.std.proofs.lemmas.List.FromFn.{map-range_with_len_more}
use Rattle.ps_action.specs.declared.states.Status.{Status}
use Rattle.ps_action.specs.declared.states.Status.TheVariants.{Idle, Running, Success, Failure}
use Rattle.ps_action.specs.Trees.{in_parallel, is_failure, is_success}

-- the status of children in parallel, by whether one is a failure and whether all are successes
abbrev by_tests : Bool → Bool → Status
by_tests one all = if one then Failure else (if all then Success else Running)

tests_more : (one all : Bool) (s : Status) → by_tests (one || (is_failure s || false)) (all && (is_success s && true)) ≡ in_parallel (by_tests one all ∷ s ∷ [])
tests_more true true s = refl
tests_more true false s = refl
tests_more false true Idle = refl
tests_more false true Running = refl
tests_more false true Success = refl
tests_more false true Failure = refl
tests_more false false Idle = refl
tests_more false false Running = refl
tests_more false false Success = refl
tests_more false false Failure = refl

-- one child more is a second child of what all others are
parallel_more : (ss : List Status) (s : Status) → in_parallel (ss ++ s ∷ []) ≡ in_parallel (in_parallel ss ∷ s ∷ [])
parallel_more ss s =
    (λ i. by_tests (list_any-append is_failure ss (s ∷ []) i) (list_all-append is_success ss (s ∷ []) i))
    ∙ tests_more (list_any is_failure ss) (list_all is_success ss) s

-- the same of children at the first so many places
pub parallel_place_more : (f : ℕ → Status) (n : ℕ) → in_parallel (map f (range_with_len 0 (n + 1))) ≡ in_parallel (in_parallel (map f (range_with_len 0 n)) ∷ f n ∷ [])
parallel_place_more f n =
    ap in_parallel (map-range_with_len_more f 0 n n (omega arith)) ∙ parallel_more (map f (range_with_len 0 n)) (f n)

-- ---- all children alike

none_fails : (f : ℕ → Status) → ((j : ℕ) → is_failure (f j) ≡ false) → (js : List ℕ) → list_any is_failure (map f js) ≡ false
none_fails f h [] = refl
none_fails f h (j ∷ js) = λ i. h j i || none_fails f h js i

not_failure : (all : Bool) → by_tests false all ≢ Failure
not_failure true e = cc
not_failure false e = cc

-- where no child is a failure, all of them are none
pub no_failure : (f : ℕ → Status) → ((j : ℕ) → is_failure (f j) ≡ false) → (js : List ℕ) → in_parallel (map f js) ≢ Failure
no_failure f h js e =
    let all = list_all is_success (map f js) in
    not_failure all (ap (λ (one : Bool). by_tests one all) (sym (none_fails f h js)) ∙ e)

none_fails_below : (f : ℕ → Status) (a n b : ℕ) → a + n ≤ b → ((j : ℕ) → j < b → f j ≡ Success) → list_any is_failure (map f (range_with_len a n)) ≡ false
none_fails_below f a zero b h s = refl
none_fails_below f a (suc n) b h s =
    let here : f a ≡ Success = s a (omega (arith, h)) in
    let rest = none_fails_below f (a + 1) n b (omega (arith, h)) s in
    λ i. is_failure (here i) || rest i

all_succeed_below : (f : ℕ → Status) (a n b : ℕ) → a + n ≤ b → ((j : ℕ) → j < b → f j ≡ Success) → list_all is_success (map f (range_with_len a n)) ≡ true
all_succeed_below f a zero b h s = refl
all_succeed_below f a (suc n) b h s =
    let here : f a ≡ Success = s a (omega (arith, h)) in
    let rest = all_succeed_below f (a + 1) n b (omega (arith, h)) s in
    λ i. is_success (here i) && rest i

-- where each child is a success, all of them are
pub all_succeed : (f : ℕ → Status) (n : ℕ) → ((j : ℕ) → j < n → f j ≡ Success) → in_parallel (map f (range_with_len 0 n)) ≡ Success
all_succeed f n h =
    let one = none_fails_below f 0 n n (omega arith) h in
    let all = all_succeed_below f 0 n n (omega arith) h in
    λ i. by_tests (one i) (all i)
