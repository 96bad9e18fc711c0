use Rattle.std.proofs.Common.{◌≡◌, ◌≤◌, drop, min}
use Rattle.std.specs.Str.Parse.{digits_value_after}
use Rattle.ps_text.proofs.decimals.value_after.Given as goal

abbrev pub invariant-loop-digit : goal.invariant-loop-digit
invariant-loop-digit l =
    record {
      value : min (digits_value_after 10 l.value (drop l.digit-index l.digits)) 1000000000000001 ≡ min (digits_value_after 10 l.fn.start l.digits) 1000000000000001;
      small : l.value ≤ 1000000000000001;
    }
