use Rattle.std.proofs.Common.{◌≡◌, ◌*◌, ◌+◌, ◌-◌, min, get_or, arith}
use Rattle.std.specs.Str.Parse.{digits_value_after}
use Rattle.ps_text.proofs.Digits.{value-more}
use Rattle.ps_entries.proofs.words.value_of.Goals as goal

pub loop-digit-preserved : goal.loop-digit-preserved
loop-digit-preserved c =
    let digits = c.args.digits.now in
    let next : c.saturating_add-value.result ≡ min (c.loop-digit.value * 10 + (get_or digits c.loop-digit.digit-index 0 - 48)) 18446744073709551615 =
    omega (arith, c.saturating_add-value.ensures, c.saturating_mul.ensures, c.from.ensures) in
    record {
      value = value-more 18446744073709551615 c.loop-digit.value c.saturating_add-value.result c.loop-digit.digit-index (min (digits_value_after 10 0 digits) 18446744073709551615) digits c.requires c.loop-digit-test.true next c.loop-digit.invariant.value;
      small = omega arith;
    }
