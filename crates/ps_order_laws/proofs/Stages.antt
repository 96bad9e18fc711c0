-- The stages of acts, and how one act comes to another stage.
use Rattle.std.proofs.Common.{◌≡◌, ℕ, ◌≤◌, ◌<◌, true, false, cond, nat_eq, ap, inl, inr, ◌⊎◌, arith}
use Rattle.std.proofs.lemmas.Bool.Decides.{nat_tests}
use Rattle.ps_order_laws.specs.Orders.{Stage, moved}

-- a number is less than another, the same or more
pub data Place (i j : ℕ) : Type 0 where
  less : j < i → Place i j
  here : i ≡ j → Place i j
  more : i < j → Place i j

pub place : (i j : ℕ) → Place i j
place i j = elim (below_or i j) [ inl l ↦ less l | inr m ↦ elim (same_or i j m) [ inl e ↦ here e | inr l ↦ more l ] ]
  where
    below_or : (i j : ℕ) → (j < i) ⊎ (i ≤ j)
    below_or i j = grind arith

    same_or : (i j : ℕ) → i ≤ j → (i ≡ j) ⊎ (i < j)
    same_or i j m = grind arith

pub alike : (i j : ℕ) → i ≡ j → nat_eq i j ≡ true
alike i j e = grind (arith, nat_tests)

pub unlike : (i j : ℕ) → (i ≡ j → ⊥) → nat_eq i j ≡ false
unlike i j e = grind (arith, nat_tests)

pub moved_here : (now : ℕ → Stage) (i j : ℕ) (s : Stage) → i ≡ j → moved now i s j ≡ s
moved_here now i j s e = ap (λ b. cond b s (now j)) (alike i j e)

pub moved_other : (now : ℕ → Stage) (i j : ℕ) (s : Stage) → (i ≡ j → ⊥) → moved now i s j ≡ now j
moved_other now i j s e = ap (λ b. cond b s (now j)) (unlike i j e)
