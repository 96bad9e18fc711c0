use Rattle.std.proofs.Common.{◌≡◌, ◌≤◌, drop, min}
use Rattle.std.specs.Str.Parse.{digits_value_after}
use Rattle.ps_entries.proofs.words.value_of.Given as goal

abbrev pub invariant-loop-digit : goal.invariant-loop-digit
invariant-loop-digit l =
    record {
      value : min (digits_value_after 10 l.value (drop l.digit-index l.digits)) 18446744073709551615 ≡ min (digits_value_after 10 0 l.digits) 18446744073709551615;
      small : l.value ≤ 18446744073709551615;
    }
