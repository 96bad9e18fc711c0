use Rattle.std.proofs.Common.{pos, SFits, w64, ◌≤ℤ◌, ◌<ℤ◌, ◌≡◌, ◌∷◌, length, arith, rules, ap, ◌∙◌, sym, unsigned_abs}
use Rattle.std.proofs.lemmas.Int.{ints, to_z-of_z}
use Rattle.ps_world.specs.Numbers.{magnitude_text, number_text}
use Rattle.ps_text.proofs.Printed.{drop-before, number_text-plain, number_text-minus}
use Rattle.ps_text.proofs.decimals.write_number.Goals as goal

pub write_magnitude-first-requires : goal.write_magnitude-first-requires
write_magnitude-first-requires c =
    let fits : SFits w64 c.milli-milli.result = search rules in
    let same = to_z-of_z w64 c.milli-milli.result fits in
    rw (c.unsigned_abs.ensures.value, same) c.milli-milli.ensures.range

pub returns-then-milli-ge0-clause-text : goal.returns-then-milli-ge0-clause-text
returns-then-milli-ge0-clause-text c =
    let fits : SFits w64 c.milli-milli.result = search rules in
    let same = to_z-of_z w64 c.milli-milli.result fits in
    let plain : pos 0 ≤ℤ c.milli-milli.result = omega (arith, ints) in
    c.write_magnitude-first.ensures.text
    ∙ ap magnitude_text (c.unsigned_abs.ensures.value ∙ ap unsigned_abs same)
    ∙ sym (number_text-plain c.milli-milli.result plain)
    ∙ ap number_text c.milli-milli.ensures.count

pub returns-clause-text : goal.returns-clause-text
returns-clause-text c =
    let long : length c.write_magnitude-first.new.text ≡ 24 = search rules in
    let fits : SFits w64 c.milli-milli.result = search rules in
    let same = to_z-of_z w64 c.milli-milli.result fits in
    let minus : c.milli-milli.result <ℤ pos 0 = omega (arith, ints) in
    drop-before c.write_magnitude-first.new.text c.write_magnitude-first.result 45 c.write_magnitude-first.ensures.room (omega arith)
    ∙ ap (λ l. 45 ∷ l) (c.write_magnitude-first.ensures.text ∙ ap magnitude_text (c.unsigned_abs.ensures.value ∙ ap unsigned_abs same))
    ∙ sym (number_text-minus c.milli-milli.result minus)
    ∙ ap number_text c.milli-milli.ensures.count
