use Rattle.std.proofs.Common.{◌≡◌, ◌∙◌, ℕ, ◌<◌, ◌≤◌, ap, sym, refl, true, List, length, nat_lt, nat_le, Ok, Some, Result, arith, rules}
use Rattle.std.specs.Result.{result_ok}
use Rattle.std.specs.Str.Parse.{ParsesUnsigned, digits_value}
use Rattle.std.proofs.lemmas.Bool.Decides.{nat_tests}
use Rattle.std.proofs.lemmas.Str.Parse.{IsDigitsTest, IsNumeralModel, digits_value_short, numerals_by_value, parse_gives}
use Rattle.clap.proofs.WalkLemmas.{both}
use Rattle.ps_words.specs.Words.{are_digits, is_number, number_of}
use Rattle.ps_words.proofs.numbers.number_of.Goals as goal

tells : IsDigitsTest (λ ds. are_digits ds ≡ true)
tells = search rules

own : IsNumeralModel (λ ds. are_digits ds ≡ true) (digits_value 10)
own = numerals_by_value _ tells

-- a text of 1 to 9 digits is read
reads : {E : Type 0} (t : List ℕ) (r : Result ℕ E) → ParsesUnsigned 32 10 t r → is_number t ≡ true → r ≡ Ok (digits_value 10 t)
reads t r read number =
    let some = both (nat_lt 0 (length t)) _ number in
    let few = both (nat_le (length t) 9) _ some.1 in
    let low : 0 < length t = grind (arith, nat_tests) in
    let high : length t ≤ 9 = grind (arith, nat_tests) in
    parse_gives own 32 t r read few.1 low (omega (arith, digits_value_short own t 9 few.1 high))

pub returns : goal.returns
returns c =
    let number : is_number c.args.text.now ≡ true = search rules in
    let read = reads c.args.text.now c.parse.result c.parse.ensures.value.0 number in
    let had : number_of c.args.text.now ≡ Some (digits_value 10 c.args.text.now) = rw number refl in
    c.ok.ensures.value ∙ (ap result_ok read ∙ sym had)
