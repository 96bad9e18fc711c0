use Rattle.std.proofs.Common.{◌∙◌, ap, min}
use Rattle.std.specs.Str.Parse.{digits_value_after}
use Rattle.ps_text.specs.Decimals.{first_decimals, fraction_part}
use Rattle.ps_text.proofs.Digits.{count-capped, digits-first_decimals, plain-digits}
use Rattle.ps_text.proofs.decimals.count_of.Goals as goal

pub value_after-requires-clause-digits : goal.value_after-requires-clause-digits
value_after-requires-clause-digits c =
    rw (c.first_decimals.ensures, c.fraction_part.ensures) (digits-first_decimals (fraction_part c.args.text.now) (plain-digits c.args.text.now c.requires).1)

pub returns : goal.returns
returns c =
    count-capped 1000000000000001 c.value_after-whole.result c.value_after.result c.args.text.now
    (c.value_after-whole.ensures ∙ ap (λ l. min (digits_value_after 10 0 l) 1000000000000001) c.whole_part.ensures)
    (c.value_after.ensures ∙ ap (λ l. min (digits_value_after 10 c.value_after-whole.result l) 1000000000000001) (c.first_decimals.ensures ∙ ap first_decimals c.fraction_part.ensures))
