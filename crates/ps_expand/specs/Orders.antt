-- The orders of values of functions and of differences.
use Rattle.std.specs.Prelude.{◌≡◌, ◌++◌, ℕ, Bool, List, flat_map, IsTrue, true}
use Rattle.std.proofs.Common.{ap}
use Rattle.std.specs.Cmp.{IsTotalOrder, on_total, then_total, int_cmp_total}
use Rattle.std.specs.Cmp.Lexicographic.{slice_cmp, lists_total}
use Rattle.std.specs.FinMap.{slice_cmp-IsAntisymmetric, int_cmp-IsAntisymmetric}
use Rattle.std.specs.Hash as fed
use Rattle.std.specs.Ordering.{eq_by_cmp, int_cmp, on, then_cmp}
use Rattle.std.specs.declared.cmp.Ordering.{Ordering}
use Rattle.std.proofs.lemmas.Map.Lookups.{CmpEqualImpliesEq, exact_pairs}
use Rattle.std.proofs.lemmas.Map.Views.{tells_apart}
use Rattle.ps_world.specs.Facts.{fact_cmp}
use Rattle.ps_world.specs.declared.facts.Fact.{Fact}
use Rattle.ps_world.specs.declared.numbers.Num.{Num}
use Rattle.ps_action.proofs.Facts.{exact_facts, facts_total}
use Rattle.ps_expand.specs.declared.differences.Difference.{Difference}

-- one fact after another
abbrev pub facts_cmp : List Fact → List Fact → Ordering
facts_cmp = slice_cmp fact_cmp

-- by the function at its arguments, then by the value
abbrev pub value_cmp : Fact × Num → Fact × Num → Ordering
value_cmp = then_cmp (on (λ v. v.0) fact_cmp) (on (λ v. v.1) int_cmp)

-- one value after another
abbrev pub values_cmp : List (Fact × Num) → List (Fact × Num) → Ordering
values_cmp = slice_cmp value_cmp

pub values_total : IsTotalOrder values_cmp
values_total = lists_total (then_total (on_total (λ v. v.0) facts_total) (on_total (λ v. v.1) int_cmp_total))

pub exact_values : CmpEqualImpliesEq values_cmp
exact_values = slice_cmp-IsAntisymmetric (exact_pairs fact_cmp _ exact_facts int_cmp-IsAntisymmetric)

-- by the facts that came, then by those that went, and then by the values
abbrev pub difference_cmp : Difference → Difference → Ordering
difference_cmp =
    then_cmp (on (λ x. x.came) facts_cmp) (then_cmp (on (λ x. x.went) facts_cmp) (then_cmp (on (λ x. x.given) values_cmp) (on (λ x. x.lost) values_cmp)))

-- whether two differences are the same
abbrev pub same_difference : Difference → Difference → Bool
same_difference = eq_by_cmp difference_cmp

pub differences_total : IsTotalOrder difference_cmp
differences_total =
    then_total (on_total (λ x. x.came) (lists_total facts_total))
    (then_total (on_total (λ x. x.went) (lists_total facts_total))
    (then_total (on_total (λ x. x.given) values_total) (on_total (λ x. x.lost) values_total)))

exact_lists : CmpEqualImpliesEq facts_cmp
exact_lists = slice_cmp-IsAntisymmetric exact_facts

exact_differences : CmpEqualImpliesEq difference_cmp
exact_differences x y e =
    let same = exact_pairs facts_cmp _ exact_lists (exact_pairs facts_cmp _ exact_lists (exact_pairs values_cmp values_cmp exact_values exact_values)) (x.came, (x.went, (x.given, x.lost))) (y.came, (y.went, (y.given, y.lost))) e in
    λ i. record { came = (same i).0; went = (same i).1.0; given = (same i).1.1.0; lost = (same i).1.1.1 }

-- differences that are the same are equal
pub difference_is : (x y : Difference) → same_difference x y ≡ true → x ≡ y
difference_is x y e = tells_apart exact_differences x y e

-- what facts and values feed to a hash: the terms of values are mostly the same
abbrev pub fact_fed : Fact → List (List ℕ)
fact_fed f = fed.u32 f.head.0 ++ fed.slice (λ n. fed.u32 n.0) f.args

abbrev pub facts_fed : List Fact → List (List ℕ)
facts_fed fs = flat_map fact_fed fs

abbrev pub values_fed : List (Fact × Num) → List (List ℕ)
values_fed vs = flat_map (λ v. fed.i64 v.1) vs

-- what a difference feeds to a hash
abbrev pub difference_fed : Difference → List (List ℕ)
difference_fed x = facts_fed x.came ++ facts_fed x.went ++ values_fed x.given

-- differences that are the same are fed alike
pub differences_fed_alike : (x y : Difference) → IsTrue (same_difference x y) → difference_fed x ≡ difference_fed y
differences_fed_alike x y e = ap difference_fed (difference_is x y e)
