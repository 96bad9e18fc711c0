use Rattle.std.proofs.Common.{◌≡◌, pos, ◌^◌, ◌*ℤ◌, to_z, of_z, w64, FitsSigned, arith, rules, subst}
use Rattle.std.specs.Int.{w128}
use Rattle.std.proofs.lemmas.Int.{ints, fits_signed_mul, quot_is, quot_fits}
use Rattle.ps_world.specs.Numbers.{IsCount}
use Rattle.ps_action.proofs.values.product.Goals as goal

pub returns : goal.returns
returns c =
    let a = c.args.a in
    let b = c.args.b in
    let m : IsCount a = subst IsCount c.milli.ensures.count c.milli.ensures.range in
    let n : IsCount b = subst IsCount c.milli-2.ensures.count c.milli-2.ensures.range in
    let fits : FitsSigned w128 (a *ℤ b) = fits_signed_mul w128 a b (10 ^ 15) (10 ^ 15) m n (omega arith) in
    let thousand : FitsSigned w128 (pos 1000) = search rules in
    let left : to_z w128 (of_z w128 (to_z w64 (of_z w64 c.milli.result))) ≡ a = omega (arith, ints) in
    let right : to_z w128 (of_z w128 (to_z w64 (of_z w64 c.milli-2.result))) ≡ b = omega (arith, ints) in
    let whole = quot_is w128 (a *ℤ b) (pos 1000) fits thousand (quot_fits w128 (a *ℤ b) (pos 1000) fits (omega (arith, ints))) in
    rw (left, right) whole
