-- Short lists: at most six items at the front of six places.
use Rattle.std.specs.Prelude.{◌≡◌, ℕ, ◌-◌, ◌≤◌, List, ◌++◌, length, take, drop, replicate}
use Rattle.std.proofs.Common.{arith}
use Rattle.std.proofs.lemmas.List.{length-take-le, take-append-drop}

-- there are six places, and those after the first so many are blank
pub record IsFilled {A : Type 0} (blank : A) (places : List A) (count : ℕ) : Type 0 where
  pub room : length places ≡ 6
  pub within : count ≤ 6
  pub blank_after : drop count places ≡ replicate (6 - count) blank

-- the six places that hold these items
abbrev pub filled : {A : Type 0} → A → List A → List A
filled blank xs = xs ++ replicate (6 - length xs) blank

module _ {A : Type 0} (blank : A) (places : List A) (count : ℕ) (h : IsFilled blank places count) where
  pub length-taken : length (take count places) ≡ count
  length-taken = length-take-le count places (omega arith)

  pub filled-taken : filled blank (take count places) ≡ places
  filled-taken = rw (length-taken, ← h.blank_after) (take-append-drop count places)
