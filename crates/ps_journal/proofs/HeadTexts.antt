-- What is added piece by piece.
use Rattle.std.proofs.Common.{◌≡◌, ℕ, List, ◌++◌, Result, Ok, Err, OnOk, append_assoc}
use Rattle.std.specs.Fmt.{decimal}

-- what follows from what is so on a good answer, is so on one
pub ok-weaker : {A E P Q : Type 0} (r : Result A E) → (P → Q) → OnOk r P → OnOk r Q
ok-weaker (Ok x) f p = f p
ok-weaker (Err e) f p = tt

-- two texts with a number after each
pub numbers-joined : (old p q x y z new : List ℕ) (a b c d : ℕ) → x ≡ old ++ p → y ≡ x ++ decimal a → a ≡ c → z ≡ y ++ q → new ≡ z ++ decimal b → b ≡ d
    → new ≡ old ++ (p ++ (decimal c ++ (q ++ decimal d)))
numbers-joined old p q x y z new a b c d ex ey ea ez e eb = rw (e, eb, ez, ey, ea, ex) (simp append_assoc)

-- three texts
pub three-joined : (old p q r x y new : List ℕ) → x ≡ old ++ p → y ≡ x ++ q → new ≡ y ++ r → new ≡ old ++ (p ++ (q ++ r))
three-joined old p q r x y new ex ey e = rw (e, ey, ex) (simp append_assoc)
