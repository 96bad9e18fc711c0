-- Walks back along the steps of a search.
use Rattle.std.proofs.Common.{◌≡◌, ℕ, zero, suc, ◌+◌, ◌<◌, List, [], ◌∷◌, ◌++◌, Option, Some, length, slice_index_or, refl, ap, sym, ◌∙◌, arith}
use Rattle.std.specs.List.{last_or}
use Rattle.std.proofs.lemmas.List.{length-append}
use Rattle.ps_levels.specs.Paths.{IsTrail, paths, paths_after}

abbrev Steps : Type 0
Steps = List (ℕ × ℕ)

abbrev at : List (List ℕ) → ℕ → List ℕ
at ps i = slice_index_or ps i []

-- ---- one more step

pub after-push : (done : List (List ℕ)) (steps : Steps) (s : ℕ × ℕ) → paths_after done (steps ++ s ∷ []) ≡ paths_after done steps ++ (at (paths_after done steps) s.0 ++ s.1 ∷ []) ∷ []
after-push done [] s = refl
after-push done (t ∷ steps) s = after-push (done ++ (at done t.0 ++ t.1 ∷ []) ∷ []) steps s

-- ---- where paths stand

get-first : (xs ys : List (List ℕ)) (j : ℕ) → j < length xs → at (xs ++ ys) j ≡ at xs j
get-first [] ys j h = absurd (omega (arith, h))
get-first (x ∷ xs) ys zero h = refl
get-first (x ∷ xs) ys (suc j) h = get-first xs ys j (omega (arith, h))

get-next : (xs : List (List ℕ)) (x : List ℕ) → at (xs ++ x ∷ []) (length xs) ≡ x
get-next [] x = refl
get-next (y ∷ xs) x = get-next xs x

one_longer : (xs : List (List ℕ)) (x : List ℕ) → length (xs ++ x ∷ []) ≡ length xs + 1
one_longer xs x = length-append xs (x ∷ [])

-- paths that are there stay
stay : (done : List (List ℕ)) (steps : Steps) (j : ℕ) → j < length done → at (paths_after done steps) j ≡ at done j
stay done [] j h = refl
stay done (s ∷ steps) j h =
    let x = at done s.0 ++ s.1 ∷ [] in
    let long = one_longer done x in
    stay (done ++ x ∷ []) steps j (omega (arith, h, long)) ∙ get-first done (x ∷ []) j h

-- the path after a step is the path before it with what led on
led : (done : List (List ℕ)) (steps : Steps) (i n : ℕ) (s : ℕ × ℕ) → i < length steps → slice_index_or steps i (0, 0) ≡ s → n ≡ length done + i → s.0 < n → at (paths_after done steps) n ≡ at (paths_after done steps) s.0 ++ s.1 ∷ []
led done [] i n s h e is low = absurd (omega (arith, h))
led done (t ∷ steps) zero n s h e is low =
    let x = at done t.0 ++ t.1 ∷ [] in
    let long = one_longer done x in
    let here : n ≡ length done = omega (arith, is) in
    let before : t.0 < length done = omega (arith, low, is, ap (λ (p : ℕ × ℕ). p.0) e) in
    ap (at (paths_after (done ++ x ∷ []) steps)) here
    ∙ stay (done ++ x ∷ []) steps (length done) (omega (arith, long))
    ∙ get-next done x
    ∙ ap (λ l. l ++ t.1 ∷ []) (sym (stay (done ++ x ∷ []) steps t.0 (omega (arith, long, before)) ∙ get-first done (x ∷ []) t.0 before))
    ∙ (λ k. at (paths_after (done ++ x ∷ []) steps) (e k).0 ++ (e k).1 ∷ [])
led done (t ∷ steps) (suc i) n s h e is low =
    let x = at done t.0 ++ t.1 ∷ [] in
    let long = one_longer done x in
    led (done ++ x ∷ []) steps i n s (omega (arith, h)) e (omega (arith, is, long)) low

-- one step back
pub step_back : (steps : Steps) (n i : ℕ) (s : ℕ × ℕ) → IsTrail steps → i < length steps → n ≡ i + 1 → slice_index_or steps i (0, 0) ≡ s → at (paths steps) n ≡ at (paths steps) s.0 ++ s.1 ∷ []
step_back steps n i s trail h is e =
    let low = trail i h in
    led ([] ∷ []) steps i n s h e (omega (arith, is)) (omega (arith, low, is, ap (λ (p : ℕ × ℕ). p.0) e))

-- the first path is empty
pub begins : (steps : Steps) → at (paths steps) 0 ≡ []
begins steps = stay ([] ∷ []) steps 0 (omega arith)

pub any_default : {A : Type 0} (xs : List A) (i : ℕ) (a b : A) → i < length xs → slice_index_or xs i a ≡ slice_index_or xs i b
any_default [] i a b h = absurd (omega (arith, h))
any_default (x ∷ xs) zero a b h = refl
any_default (x ∷ xs) (suc i) a b h = any_default xs i a b (omega (arith, h))

-- the last of a list with one more at its end
pub last-push : (o : Option ℕ) (xs : List ℕ) (x : ℕ) → last_or o (xs ++ x ∷ []) ≡ Some x
last-push o [] x = refl
last-push o (y ∷ xs) x = last-push (Some y) xs x

-- ---- how many nodes there are

length-paths_after : (done : List (List ℕ)) (steps : Steps) → length (paths_after done steps) ≡ length done + length steps
length-paths_after done [] = omega arith
length-paths_after done (s ∷ steps) =
    let x = at done s.0 ++ s.1 ∷ [] in
    let more = length-paths_after (done ++ x ∷ []) steps in
    let long = one_longer done x in
    omega (arith, more, long)

-- one more than there are steps
pub length-paths : (steps : Steps) → length (paths steps) ≡ suc (length steps)
length-paths steps = let more = length-paths_after ([] ∷ []) steps in omega (arith, more)

-- the first steps are a trail
pub trail-first : (steps : Steps) (s : ℕ × ℕ) → IsTrail (steps ++ s ∷ []) → IsTrail steps
trail-first steps s trail i h =
    let long = length-append steps (s ∷ []) in
    let low = trail i (omega (arith, h, long)) in
    let same = ap (λ (p : ℕ × ℕ). p.0) (first_there steps i (s ∷ []) h) in
    omega (arith, low, same)
  where
    first_there : (xs : Steps) (i : ℕ) (ys : Steps) → i < length xs → slice_index_or (xs ++ ys) i (0, 0) ≡ slice_index_or xs i (0, 0)
    first_there [] i ys h = absurd (omega (arith, h))
    first_there (x ∷ xs) zero ys h = refl
    first_there (x ∷ xs) (suc i) ys h = first_there xs i ys (omega (arith, h))
