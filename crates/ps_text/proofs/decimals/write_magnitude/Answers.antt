use Rattle.std.proofs.Common.{◌/◌, ◌≡◌, ◌++◌, decimal, length, arith, rules, ap, ◌∙◌}
use Rattle.ps_text.proofs.Printed.{decimal-short, drop-written}
use Rattle.ps_text.proofs.decimals.write_magnitude.Goals as goal

pub write_digits-requires-clause-room : goal.write_digits-requires-clause-room
write_digits-requires-clause-room c = omega (arith, decimal-short c.args.count c.requires)

pub returns-clause-room : goal.returns-clause-room
returns-clause-room c = omega (arith, decimal-short c.args.count c.requires)

pub returns-clause-text : goal.returns-clause-text
returns-clause-text c =
    let len : length c.args.text.now ≡ 24 = search rules in
    c.write_digits.ensures.digits
    ∙ ap (λ l. decimal (c.args.count / 1000) ++ l) (drop-written c.args.text.now c.copy_from_slice.new.self len ∙ c.copy_from_slice.ensures.after ∙ c.decimals_text.ensures)
