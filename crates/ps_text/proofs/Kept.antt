-- Tables that keep their names.
use Rattle.std.proofs.Common.{◌≡◌, ℕ, zero, suc, ◌<◌, true, false, if◌then◌else◌, List, [], ◌∷◌, ◌++◌, length, slice_get, take, Result, Ok, Err, OnErr, ◌∙◌, refl, ap, arith}
use Rattle.std.specs.List.{list_any}
use Rattle.std.proofs.lemmas.Option.{slice_get_within, slice_get-get_or}
use Rattle.ps_world.specs.Lines.{same_text}
use Rattle.ps_world.specs.Names.{Table}
use Rattle.ps_text.specs.Names.{Keeps, interned}

pub kept_same : (t u : Table) → u ≡ t → Keeps t u
kept_same t u e n lt = ap (λ x. slice_get x n) e

pub kept_along : (t u v : Table) → Keeps t u → Keeps u v → Keeps t v
kept_along t u v p q n lt =
    let here = p n lt ∙ slice_get-get_or t n [] lt in
    q n (slice_get_within u n _ here) ∙ p n lt

-- a table that keeps the names of another begins with them
pub kept_front : (t u : Table) → Keeps t u → take (length t) u ≡ t
kept_front [] u keeps = refl
kept_front (x ∷ t) [] keeps = let none = keeps 0 (omega arith) in absurd (cc)
kept_front (x ∷ t) (y ∷ u) keeps =
    let first = keeps 0 (omega arith) in
    let same : y ≡ x = cc in
    rw (same, kept_front t u (λ n lt. keeps (suc n) (omega (arith, lt)))) refl

-- a table that is cut back to its old names is the old one
pub cut_read : {A E : Type 0} (answer : Result A E) (table now after : Table) (n : ℕ) → n ≡ length table → after ≡ take n now → OnErr answer (Keeps table now) → OnErr answer (after ≡ table)
cut_read (Ok value) table now after n count cut kept = tt
cut_read (Err error) table now after n count cut kept = cut ∙ ap (λ k. take k now) count ∙ kept_front table now kept

-- the same, where it keeps its names whatever is answered
pub cut_kept : {A E : Type 0} (answer : Result A E) (table now after : Table) (n : ℕ) → n ≡ length table → after ≡ take n now → Keeps table now → OnErr answer (after ≡ table)
cut_kept (Ok value) table now after n count cut kept = tt
cut_kept (Err error) table now after n count cut kept = cut_read {A = ⊥} (Err error) table now after n count cut kept

get-append : (t u : Table) (n : ℕ) → n < length t → slice_get (t ++ u) n ≡ slice_get t n
get-append [] u n lt = absurd (omega (arith, lt))
get-append (x ∷ t) u zero lt = refl
get-append (x ∷ t) u (suc n) lt = get-append t u n (omega (arith, lt))

pub kept_interned : (t : Table) (name : List ℕ) → Keeps t (interned t name)
kept_interned t name n lt =
    elim (list_any (same_text name) t) as (λ b. slice_get (if b then t else t ++ name ∷ []) n ≡ slice_get t n) [ true ↦ refl | false ↦ get-append t (name ∷ []) n lt ]
