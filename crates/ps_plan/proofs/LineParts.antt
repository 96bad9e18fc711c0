-- The names among the parts of a line.
use Rattle.std.proofs.Common.{◌≡◌, ℕ, ◌+◌, ◌-◌, ◌<◌, ◌≤◌, false, if◌then◌else◌, nat_le, None, List, [], ◌∷◌, length, take, ap, ◌∙◌, arith}
use Rattle.std.proofs.lemmas.List.{drop_more, drop_all, get_or-take, length-take}
use Rattle.std.proofs.lemmas.Bool.{and_left, and_right, lt-leb}
use Rattle.std.specs.Option.{option_zip}
use Rattle.ps_text.specs.Words.{word_at}
use Rattle.ps_plan.specs.PlanText.{amount_of, fits, most_parts, names_from, times_of}

module _ (parts : List (List ℕ)) (i : ℕ) where
  -- one more part before the last four
  pub names_from-more : i < length parts - 4 → names_from parts i ≡ word_at parts i ∷ names_from parts (i + 1)
  names_from-more h =
      drop_more (take (length parts - 4) parts) i [] (omega (arith, length-take (length parts - 4) parts))
      ∙ ap (λ w. w ∷ names_from parts (i + 1)) (get_or-take (length parts - 4) parts i [] h)

  pub names_from-all : length parts - 4 ≤ i → names_from parts i ≡ []
  names_from-all h = drop_all i (take (length parts - 4) parts) (omega (arith, length-take (length parts - 4) parts))

-- ---- parts that don't fit

-- parts that are too many say nothing
pub times_of-many : (parts : List (List ℕ)) → (length parts ≤ most_parts → ⊥) → times_of parts ≡ None
unfolding times_of
times_of-many parts h =
    let many : nat_le (length parts) most_parts ≡ false = lt-leb (length parts) most_parts (omega arith) in
    let misfit : fits parts ≡ false = and_left _ _ (and_right (nat_le 8 (length parts)) _ many) in
    ap (λ b. if b then option_zip (amount_of (word_at parts 0)) (amount_of (word_at parts (length parts - 2))) else None) misfit
