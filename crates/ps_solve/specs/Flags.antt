-- Flags, packed 64 in a word: the bits of one number.
use Rattle.std.specs.Prelude.{◌≡◌, ℕ, zero, suc, ◌+◌, ◌*◌, ◌/◌, ◌%◌, ◌^◌, ◌<◌, ◌≤◌, Bool, true, false, cond, nat_eq, bit_xor, List, [], ◌∷◌, fold, length, IsTrue, refl}
use Rattle.std.proofs.Math.Bool.{beq}
use Rattle.std.specs.Hash as fed
use Rattle.std.specs.Int.{bit_at, div_ceil}
use Rattle.std.specs.List.{AllByRecursion}
use Rattle.std.specs.Cmp.{first_so, second_so}
use Rattle.std.specs.Cmp.Lexicographic.{pointwise}

-- the number whose digits are words, the first the lowest
abbrev pub joined : List ℕ → ℕ
joined [] = 0
joined (w ∷ ws) = joined ws * 2 ^ 64 + w

-- that many of the lowest bits of a number, as flags
abbrev pub flags_in : ℕ → ℕ → List Bool
flags_in zero n = []
flags_in (suc k) n = nat_eq (n % 2) 1 ∷ flags_in k (n / 2)

-- these words have that many flags: there are enough of them, and no bit past the flags is set
pub record ArePacked (words : List ℕ) (len : ℕ) : Type 0 where
  pub count : length words ≡ div_ceil len 64
  pub small : AllByRecursion (λ w. w < 2 ^ 64) words
  pub clear : (i : ℕ) → len ≤ i → bit_at (joined words) i ≡ 0

-- the number whose lowest bits are flags
abbrev pub number_of : List Bool → ℕ
number_of [] = 0
number_of (f ∷ fs) = number_of fs * 2 + cond f 1 0

-- that many of the lowest words of a number
abbrev pub words_in : ℕ → ℕ → List ℕ
words_in zero n = []
words_in (suc k) n = n % 2 ^ 64 ∷ words_in k (n / 2 ^ 64)

-- the words of flags
abbrev pub words_of : List Bool → List ℕ
words_of flags = words_in (div_ceil (length flags) 64) (number_of flags)

-- a number with its high half put into the low one too
abbrev pub spread : ℕ → ℕ
spread n = bit_xor n (n / 2 ^ 32)

-- a number made of one more word
abbrev pub with_word : ℕ → ℕ → ℕ
with_word key w = spread (bit_xor key w * 11400714819323198485 % 2 ^ 64)

-- a number made of flags, for a hash
abbrev pub flags_key : List Bool → ℕ
flags_key flags = fold with_word 0 (words_of flags)

same_bool : (a b : Bool) → beq a b ≡ true → a ≡ b
same_bool true true e = refl
same_bool true false e = absurd (cc)
same_bool false true e = absurd (cc)
same_bool false false e = refl

pub same_flags : (fs gs : List Bool) → pointwise beq fs gs ≡ true → fs ≡ gs
same_flags [] [] e = refl
same_flags [] (g ∷ gs) e = absurd (cc)
same_flags (f ∷ fs) [] e = absurd (cc)
same_flags (f ∷ fs) (g ∷ gs) e = λ i. same_bool f g (first_so (beq f g) (pointwise beq fs gs) e) i ∷ same_flags fs gs (second_so (beq f g) (pointwise beq fs gs) e) i

-- flags that are the same are fed alike
pub flags_fed_alike : (fs gs : List Bool) → IsTrue (pointwise beq fs gs) → fed.u64 (flags_key fs) ≡ fed.u64 (flags_key gs)
flags_fed_alike fs gs e = λ i. fed.u64 (flags_key (same_flags fs gs e i))
