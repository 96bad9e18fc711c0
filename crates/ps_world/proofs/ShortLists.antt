-- Items that are written over the first of six blank places.
use Rattle.std.proofs.Common.{◌≡◌, ℕ, ◌-◌, ◌≤◌, ◌++◌, [], ◌∷◌, List, suc, zero, length, drop, replicate, refl, arith, length-append}
use Rattle.std.proofs.Math.Seq.{drop-append_seam}
use Rattle.std.proofs.lemmas.List.{length-replicate}
use Rattle.ps_world.specs.ShortLists.{IsFilled}

module _ {A : Type 0} (blank : A) where
  abbrev six : List A
  six = blank ∷ blank ∷ blank ∷ blank ∷ blank ∷ blank ∷ []

  drop-blanks : (n : ℕ) → n ≤ 6 → drop n six ≡ replicate (6 - n) blank
  drop-blanks zero h = refl
  drop-blanks (suc zero) h = refl
  drop-blanks (suc (suc zero)) h = refl
  drop-blanks (suc (suc (suc zero))) h = refl
  drop-blanks (suc (suc (suc (suc zero)))) h = refl
  drop-blanks (suc (suc (suc (suc (suc zero))))) h = refl
  drop-blanks (suc (suc (suc (suc (suc (suc zero)))))) h = refl
  drop-blanks (suc (suc (suc (suc (suc (suc (suc n))))))) h = absurd (omega arith)

  pub IsFilled-written : (xs cs : List A) → cs ≡ xs → length xs ≤ 6 → IsFilled blank (cs ++ drop (length xs) (blank ∷ blank ∷ blank ∷ blank ∷ blank ∷ blank ∷ [])) (length xs)
  IsFilled-written xs cs e h =
      rw (e, drop-blanks (length xs) h) (record {
        room = simp (length-append, length-replicate) (omega arith);
        within = h;
        blank_after = drop-append_seam xs (replicate (6 - length xs) blank);
      })
