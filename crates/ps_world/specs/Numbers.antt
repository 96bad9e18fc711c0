-- Numbers, by their counts of thousandths.
use Rattle.std.specs.Prelude.{ℕ, ◌+◌, ◌/◌, ◌%◌, ◌^◌, ◌≤◌, suc, ℤ, pos, negsuc, unsigned_abs, List, [], ◌∷◌, ◌++◌, decimal}

-- the absolute value of a count is at most 10^15
abbrev pub IsCount : ℤ → Type 0
IsCount z = unsigned_abs z ≤ 10 ^ 15

-- `.` and the last three digits of a count
abbrev pub decimals_text : ℕ → List ℕ
decimals_text n = 46 ∷ (48 + n / 100 % 10) ∷ (48 + n / 10 % 10) ∷ (48 + n % 10) ∷ []

-- a count of thousandths, with three decimals
abbrev pub magnitude_text : ℕ → List ℕ
magnitude_text n = decimal (n / 1000) ++ decimals_text n

-- a count of thousandths, with a `-` where it is negative and with three decimals
abbrev pub number_text : ℤ → List ℕ
number_text (pos n) = magnitude_text n
number_text (negsuc n) = 45 ∷ magnitude_text (suc n)
