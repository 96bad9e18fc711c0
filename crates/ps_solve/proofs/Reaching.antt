-- Rows and the trail by which they were reached, as one list.
use Rattle.std.proofs.Common.{◌≡◌, ℕ, zero, suc, ◌≤◌, List, [], ◌∷◌, ◌++◌, None, length, slice_index_or, ap, sym, ◌∙◌, arith}
use Rattle.std.specs.Prelude.{slice_get}
use Rattle.std.specs.List.{zip}
use Rattle.std.proofs.lemmas.List.{length-append}
use Rattle.ps_levels.specs.Paths.{paths}
use Rattle.ps_levels.proofs.Walks.{length-paths}
use Rattle.ps_solve.specs.Reached.{places_of, rows_of}
use Rattle.ps_solve.specs.declared.rows.Row.{Row}
use Rattle.ps_ground.proofs.Zipped.{length-zip, zip-push, zip_firsts, zip_seconds}

-- what is pushed onto a list is one more
pub one_longer : {A : Type 0} (xs : List A) (x : A) → length (xs ++ x ∷ []) ≡ suc (length xs)
one_longer xs x = let l = length-append xs (x ∷ []) in omega (arith, l)

-- where none is there, the place is past the end
pub is_past : {A : Type 0} (i : ℕ) (xs : List A) → slice_get xs i ≡ None → length xs ≤ i
is_past i [] e = omega arith
is_past zero (x ∷ xs) e = absurd (cc)
is_past (suc i) (x ∷ xs) e = let rest = is_past i xs e in omega (arith, rest)

module _ (keys : List Row) (steps : List (ℕ × ℕ)) (even : length keys ≡ suc (length steps)) where
  both : length keys ≡ length (paths steps)
  both = even ∙ sym (length-paths steps)

  abbrev reached : List (Row × List ℕ)
  reached = zip keys (paths steps)

  pub rows_are : rows_of reached ≡ keys
  rows_are = zip_firsts keys (paths steps) both

  pub places_are : (i : ℕ) → places_of reached i ≡ slice_index_or (paths steps) i []
  places_are i = ap (λ l. slice_index_or l i []) (zip_seconds keys (paths steps) both)

  pub count : length reached ≡ suc (length steps)
  count = length-zip keys (paths steps) both ∙ even

  pub pushed : (r : Row) (from act : ℕ) (more : List (ℕ × ℕ)) → paths more ≡ paths steps ++ (slice_index_or (paths steps) from [] ++ act ∷ []) ∷ [] → zip (keys ++ r ∷ []) (paths more) ≡ reached ++ (r, places_of reached from ++ act ∷ []) ∷ []
  pushed r from act more is =
      ap (zip (keys ++ r ∷ [])) is
      ∙ zip-push keys (paths steps) r (slice_index_or (paths steps) from [] ++ act ∷ []) both
      ∙ ap (λ places. reached ++ (r, places ++ act ∷ []) ∷ []) (sym (places_are from))
