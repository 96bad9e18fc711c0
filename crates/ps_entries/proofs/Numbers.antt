-- Printed numbers are read back, and each is one word.
use Rattle.std.proofs.Common.{◌≡◌, ℕ, ◌+◌, ◌-◌, ◌%◌, ◌^◌, ◌<◌, ◌≤◌, Bool, true, [], ◌∷◌, min, Some, refl, ap, ◌∙◌, arith}
use Rattle.std.proofs.lemmas.Bool.{and_from}
use Rattle.std.proofs.lemmas.Bool.Decides.{nat_tests}
use Rattle.std.proofs.lemmas.Fmt.{decimal_by_steps, decimal_is_IsNumeral, decimal_nonempty}
use Rattle.std.proofs.lemmas.List.Folds.{list_all-append}
use Rattle.std.specs.Char.{is_ascii_digit}
use Rattle.std.specs.Fmt.{decimal}
use Rattle.std.specs.List.{list_all}
use Rattle.std.specs.Str.Parse.{digits_value}
use Rattle.ps_text.specs.Decimals.{are_digits}
use Rattle.ps_text.specs.Words.{is_run_byte}
use Rattle.ps_text.proofs.Printed.{are_digits-from}
use Rattle.ps_entries.specs.Words.{up_to, whole_number}

-- ---- digits

digit : (d : ℕ) → d < 10 → (is_ascii_digit (48 + d) ≡ true) × (is_run_byte (48 + d) ≡ true)
digit d h = (grind (arith, nat_tests), grind (arith, nat_tests))

module _ (p : ℕ → Bool) (each : (d : ℕ) → d < 10 → p (48 + d) ≡ true) where
  one : (d : ℕ) → d < 10 → list_all p ((48 + d) ∷ []) ≡ true
  one d h = rw (each d h) refl

  pub list_all-decimal : (n : ℕ) → n < 2 ^ 64 → list_all p (decimal n) ≡ true
  list_all-decimal =
      decimal_by_steps (λ n ds. list_all p ds ≡ true) one
      (λ n ds h all. list_all-append p ds ((48 + n % 10) ∷ []) ∙ and_from (list_all p ds) (list_all p ((48 + n % 10) ∷ [])) all (one (n % 10) (omega arith)))

digits-decimal : (n : ℕ) → n < 2 ^ 64 → list_all is_ascii_digit (decimal n) ≡ true
digits-decimal = list_all-decimal is_ascii_digit (λ d h. (digit d h).0)

pub whole_number-decimal : (n : ℕ) → n < 2 ^ 64 → whole_number (decimal n) ≡ Some n
whole_number-decimal n h =
    let digits : are_digits (decimal n) ≡ true = are_digits-from (decimal n) (decimal_nonempty n h) (digits-decimal n h) in
    let value : digits_value 10 (decimal n) ≡ n = (decimal_is_IsNumeral n h).1 in
    let least : min n (2 ^ 64 - 1) ≡ n = omega (arith, h) in
    rw (digits, value) (ap Some least)

pub up_to-is : (most n : ℕ) → n ≤ most → up_to most (Some n) ≡ Some n
up_to-is most n h = grind (arith, nat_tests)
