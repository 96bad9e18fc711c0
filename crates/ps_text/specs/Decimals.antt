-- Numbers as texts, and back.
use Rattle.std.specs.Prelude.{◌≡◌, ℕ, ◌^◌, Bool, not, ◌&&◌, ◌||◌, ◌==◌, nat_le, ℤ, pos, neg_ℤ, List, [], ◌∷◌, ◌++◌, length, take, drop, codes, if◌then◌else◌, Result, Ok, Err}
use Rattle.std.specs.Char.{is_ascii_digit}
use Rattle.std.specs.List.{list_all, before_first, after_first}
use Rattle.std.specs.Result.{result_map_both}
use Rattle.std.specs.Str.Parse.{digits_value}
use Rattle.ps_world.specs.Numbers.{IsCount, number_text}
use Rattle.ps_text.specs.declared.decimals.NumRefusal.{NumRefusal}
use Rattle.ps_text.specs.declared.decimals.NumRefusal.TheVariants.{NotNumber, TooFine, TooLarge}

-- whether a text is digits, and at least one
abbrev pub are_digits : List ℕ → Bool
are_digits text = not (length text == 0) && list_all is_ascii_digit text

-- `.`
abbrev pub is_point : ℕ → Bool
is_point b = b == 46

-- what stands before the first `.`, or the whole text
abbrev pub whole_part : List ℕ → List ℕ
whole_part text = before_first is_point text

-- what stands after the first `.`, or nothing
abbrev pub fraction_part : List ℕ → List ℕ
fraction_part text = after_first is_point text

-- whether a text is digits, or digits, `.` and digits
abbrev pub is_plain : List ℕ → Bool
is_plain text = are_digits (whole_part text) && (length (whole_part text) == length text || are_digits (fraction_part text))

-- whether each digit past the third decimal is 0
abbrev pub is_coarse : List ℕ → Bool
is_coarse text = list_all (λ d. d == 48) (drop 3 (fraction_part text))

-- the first three decimals, filled up with zeros
abbrev pub first_decimals : List ℕ → List ℕ
first_decimals fraction = take 3 (fraction ++ codes "000")

-- the count of thousandths that the whole digits and the first three decimals write
abbrev pub count_of : List ℕ → ℕ
count_of text = digits_value 10 (whole_part text ++ first_decimals (fraction_part text))

-- the count of a text without a sign, or why it has none
abbrev pub magnitude_of : List ℕ → Result ℕ NumRefusal
magnitude_of text = if is_plain text then (if is_coarse text then (if nat_le (count_of text) (10 ^ 15) then Ok (count_of text) else Err TooLarge) else Err TooFine) else Err NotNumber

-- the count of a text, which is negative after a `-`, or why it has none
abbrev pub number_of : List ℕ → Result ℤ NumRefusal
number_of [] = Err NotNumber
number_of (b ∷ bs) = if b == 45 then result_map_both (λ n. neg_ℤ (pos n)) (λ e. e) (magnitude_of bs) else result_map_both pos (λ e. e) (magnitude_of (b ∷ bs))

-- A printed number is read back as itself.
abbrev pub PrintedNumbersAreRead : Type 0
PrintedNumbersAreRead = (z : ℤ) → IsCount z → number_of (number_text z) ≡ Ok z
