-- Differences with the trail and the acts by which they were reached, as one list.
use Rattle.std.proofs.Common.{◌≡◌, ℕ, zero, suc, ◌<◌, ◌≤◌, List, [], ◌∷◌, ◌++◌, Some, length, map, slice_index_or, refl, ap, sym, ◌∙◌, subst, arith}
use Rattle.std.specs.Prelude.{slice_get}
use Rattle.std.specs.List.{cons_option, zip}
use Rattle.std.proofs.lemmas.List.{length-append, length-map}
use Rattle.std.proofs.lemmas.List.Elements.{filter_map-append}
use Rattle.ps_action.specs.declared.acts.Act.{Act}
use Rattle.ps_levels.specs.Paths.{paths}
use Rattle.ps_levels.proofs.Walks.{length-paths}
use Rattle.ps_expand.specs.Reached.{AreReached, AreWithin, IsWithin, act_paths, acts_at, keys_in, path_in}
use Rattle.ps_expand.specs.declared.differences.Difference.{Difference}
use Rattle.ps_ground.proofs.Zipped.{length-zip, zip-push, zip_firsts, zip_seconds}

pub one_longer : {A : Type 0} (xs : List A) (x : A) → length (xs ++ x ∷ []) ≡ suc (length xs)
one_longer xs x = let l = length-append xs (x ∷ []) in omega (arith, l)

-- ---- places

within_more : (n m : ℕ) (is : List ℕ) → n ≤ m → IsWithin n is → IsWithin m is
within_more n m [] h w = tt
within_more n m (i ∷ is) h w = let low = w.0 in (omega (arith, low, h), within_more n m is h w.1)

within_one : (n i : ℕ) (is : List ℕ) → i < n → IsWithin n is → IsWithin n (is ++ i ∷ [])
within_one n i [] h w = (h, tt)
within_one n i (j ∷ is) h w = (w.0, within_one n i is h w.1)

are_within_more : (n m : ℕ) (iss : List (List ℕ)) (is : List ℕ) → n ≤ m → AreWithin n iss → IsWithin m is → AreWithin m (iss ++ is ∷ [])
are_within_more n m [] is h w more = (more, tt)
are_within_more n m (js ∷ iss) is h w more = (within_more n m js h w.0, are_within_more n m iss is h w.1 more)

within_at : (n i : ℕ) (iss : List (List ℕ)) → AreWithin n iss → IsWithin n (slice_index_or iss i [])
within_at n i [] w = tt
within_at n zero (is ∷ iss) w = w.0
within_at n (suc i) (is ∷ iss) w = within_at n i iss w.1

-- ---- acts

get_before : (acts : List Act) (act : Act) (i : ℕ) → i < length acts → slice_get (acts ++ act ∷ []) i ≡ slice_get acts i
get_before [] act i h = absurd (omega (arith, h))
get_before (a ∷ acts) act zero h = refl
get_before (a ∷ acts) act (suc i) h = get_before acts act i (omega (arith, h))

get_last : (acts : List Act) (act : Act) → slice_get (acts ++ act ∷ []) (length acts) ≡ Some act
get_last [] act = refl
get_last (a ∷ acts) act = get_last acts act

-- acts at places that were there stay
acts_stay : (acts : List Act) (act : Act) (is : List ℕ) → IsWithin (length acts) is → acts_at (acts ++ act ∷ []) is ≡ acts_at acts is
acts_stay acts act [] w = refl
acts_stay acts act (i ∷ is) w =
    rw (get_before acts act i w.0) (ap (cons_option (slice_get acts i)) (acts_stay acts act is w.1))

paths_stay : (acts : List Act) (act : Act) (iss : List (List ℕ)) → AreWithin (length acts) iss → map (acts_at (acts ++ act ∷ [])) iss ≡ map (acts_at acts) iss
paths_stay acts act [] w = refl
paths_stay acts act (is ∷ iss) w = λ j. acts_stay acts act is w.0 j ∷ paths_stay acts act iss w.1 j

acts_one : (acts : List Act) (act : Act) (is : List ℕ) → IsWithin (length acts) is → acts_at (acts ++ act ∷ []) (is ++ length acts ∷ []) ≡ acts_at acts is ++ act ∷ []
acts_one acts act is w =
    filter_map-append (slice_get (acts ++ act ∷ [])) is (length acts ∷ [])
    ∙ (λ j. acts_stay acts act is w j ++ one j)
  where
    one : acts_at (acts ++ act ∷ []) (length acts ∷ []) ≡ act ∷ []
    one = rw (get_last acts act) refl

map-one : {A B : Type 0} (f : A → B) (xs : List A) (x : A) → map f (xs ++ x ∷ []) ≡ map f xs ++ f x ∷ []
map-one f [] x = refl
map-one f (y ∷ xs) x = ap (λ ys. f y ∷ ys) (map-one f xs x)

index_acts : (acts : List Act) (i : ℕ) (iss : List (List ℕ)) → slice_index_or (map (acts_at acts) iss) i [] ≡ acts_at acts (slice_index_or iss i [])
index_acts acts i [] = refl
index_acts acts zero (is ∷ iss) = refl
index_acts acts (suc i) (is ∷ iss) = index_acts acts i iss

-- ---- the list

module _ (keys : List Difference) (steps : List (ℕ × ℕ)) (acts : List Act) (are : AreReached keys steps acts) where
  both : length keys ≡ length (act_paths acts steps)
  both = are.even ∙ sym (length-paths steps) ∙ sym (length-map (paths steps) (acts_at acts))

  abbrev reached : List (Difference × List Act)
  reached = zip keys (act_paths acts steps)

  pub keys_are : keys_in reached ≡ keys
  keys_are = zip_firsts keys (act_paths acts steps) both

  pub path_is : (i : ℕ) → path_in reached i ≡ acts_at acts (slice_index_or (paths steps) i [])
  path_is i = ap (λ (l : List (List Act)). slice_index_or l i []) (zip_seconds keys (act_paths acts steps) both) ∙ index_acts acts i (paths steps)

  pub count : length reached ≡ suc (length steps)
  count = length-zip keys (act_paths acts steps) both ∙ are.even

  module _ (x : Difference) (act : Act) (from : ℕ) (more : List (ℕ × ℕ)) (is : paths more ≡ paths steps ++ (slice_index_or (paths steps) from [] ++ length acts ∷ []) ∷ []) (long : length more ≡ suc (length steps)) where
    -- one more difference
    pub pushed : zip (keys ++ x ∷ []) (act_paths (acts ++ act ∷ []) more) ≡ reached ++ (x, path_in reached from ++ act ∷ []) ∷ []
    pushed =
        ap (λ (l : List (List ℕ)). zip (keys ++ x ∷ []) (map (acts_at (acts ++ act ∷ [])) l)) is
        ∙ ap (zip (keys ++ x ∷ [])) (map-one (acts_at (acts ++ act ∷ [])) (paths steps) (slice_index_or (paths steps) from [] ++ length acts ∷ [])
        ∙ (λ j. paths_stay acts act (paths steps) are.within j ++ acts_one acts act (slice_index_or (paths steps) from []) (within_at (length acts) from (paths steps) are.within) j ∷ []))
        ∙ zip-push keys (act_paths acts steps) x (acts_at acts (slice_index_or (paths steps) from []) ++ act ∷ []) both
        ∙ ap (λ (path : List Act). reached ++ (x, path ++ act ∷ []) ∷ []) (sym (path_is from))

    -- as many as before and one more of each
    pub still_reached : AreReached (keys ++ x ∷ []) more (acts ++ act ∷ [])
    still_reached = record {
      even = one_longer keys x ∙ ap suc (are.even ∙ sym long);
      whole = one_longer acts act ∙ ap suc are.whole ∙ sym long;
      within =
          let w = within_at (length acts) from (paths steps) are.within in
          let l = one_longer acts act in
          let n : ℕ = length (acts ++ act ∷ []) in
          let P : List (List ℕ) → Type 0 = AreWithin n in
          subst P (sym is) (are_within_more (length acts) n (paths steps) (slice_index_or (paths steps) from [] ++ length acts ∷ []) (omega (arith, l)) are.within (within_one n (length acts) (slice_index_or (paths steps) from []) (omega (arith, l)) (within_more (length acts) n (slice_index_or (paths steps) from []) (omega (arith, l)) w)));
    }
