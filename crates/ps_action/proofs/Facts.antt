-- Names and facts that tie in the order are the same.
use Rattle.std.proofs.Common.{◌≡◌, true, ap, arith, eq-eqb}
use Rattle.std.specs.Cmp.{IsTotalOrder}
use Rattle.std.specs.Cmp.Lexicographic.{slice_cmp}
use Rattle.std.specs.FinMap.{slice_cmp-IsAntisymmetric, nat_cmp-IsAntisymmetric}
use Rattle.std.proofs.lemmas.Cmp.{on_total, then_total, lists_total, nat_cmp_total}
use Rattle.std.proofs.lemmas.Map.Lookups.{CmpEqualImpliesEq, exact_pairs}
use Rattle.std.proofs.lemmas.Bool.Decides.{nat_tests}
use Rattle.ps_world.specs.Names.{name_cmp, same_name}
use Rattle.ps_world.specs.Facts.{fact_cmp}
use Rattle.ps_world.specs.declared.names.Name.{Name}

pub names_total : IsTotalOrder name_cmp
names_total = on_total (λ n. n.0) nat_cmp_total

pub facts_total : IsTotalOrder fact_cmp
facts_total = then_total (on_total (λ f. f.head) names_total) (on_total (λ f. f.args) (lists_total names_total))

pub exact_names : CmpEqualImpliesEq name_cmp
exact_names a b e = let same : a.0 ≡ b.0 = nat_cmp-IsAntisymmetric a.0 b.0 e in λ i. record { 0 = same i }

pub exact_facts : CmpEqualImpliesEq fact_cmp
exact_facts a b e =
    let same = exact_pairs name_cmp (slice_cmp name_cmp) exact_names (slice_cmp-IsAntisymmetric exact_names) (a.head, a.args) (b.head, b.args) e in
    λ i. record { head = (same i).0; args = (same i).1 }

pub same_name-is : (a b : Name) → same_name a b ≡ true → a ≡ b
same_name-is a b e = let same : a.0 ≡ b.0 = grind (arith, nat_tests) in λ i. record { 0 = same i }

pub same_name-refl : (a b : Name) → a ≡ b → same_name a b ≡ true
same_name-refl a b e = eq-eqb a.0 b.0 (ap (λ (n : Name). n.0) e)
