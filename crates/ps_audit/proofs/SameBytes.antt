-- How many bytes of two texts are the same where one of them is empty.
use Rattle.std.proofs.Common.{◌≡◌, ◌⊎◌, inl, inr, ℕ, nat_eq, List, [], ◌∷◌, refl}
use Rattle.std.specs.List.{common_prefix_len}

nothing-due : (text : List ℕ) → common_prefix_len nat_eq text [] ≡ 0
nothing-due [] = refl
nothing-due (b ∷ text) = refl

pub none-same : (text due : List ℕ) → (text ≡ []) ⊎ (due ≡ []) → common_prefix_len nat_eq text due ≡ 0
none-same text due (inl e) = rw e refl
none-same text due (inr e) = rw e (nothing-due text)
