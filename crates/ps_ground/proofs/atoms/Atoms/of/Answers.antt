use Rattle.std.proofs.Common.{◌≡◌, ◌++◌, List, ap, sym, ◌∙◌, subst}
use Rattle.std.specs.List.{dedup, list_any}
use Rattle.std.specs.List.Sorted.{IsStrictlySortedBy}
use Rattle.std.proofs.lemmas.List.Filters.{dedup_is}
use Rattle.std.proofs.lemmas.List.Kept.{IsStrictlySortedBy-dedup}
use Rattle.std.proofs.lemmas.List.Sorted.{list_any-IsPermutation}
use Rattle.ps_world.specs.Facts.{fact_cmp}
use Rattle.ps_world.specs.Knowledge.{same_fact}
use Rattle.ps_world.specs.declared.facts.Fact.{Fact}
use Rattle.ps_ground.specs.Orders.{facts_total}
use Rattle.ps_ground.proofs.Distinct.{any_dedup, equal, equal_tied}
use Rattle.ps_ground.proofs.atoms.Atoms.of.Goals as goal

pub returns : goal.returns
returns c = λ f.
    let all = c.extend_from_slice.new.self.items in
    let sorted = c.sort.new.self.items in
    let is : c.dedup.new.self.items ≡ dedup equal sorted = dedup_is equal sorted c.dedup.new.self.items c.dedup.ensures.filtered in
    ap (list_any (same_fact f)) is
    ∙ any_dedup f sorted
    ∙ sym (list_any-IsPermutation (same_fact f) all sorted c.in_ok-sort.ensures.permutation)
    ∙ ap (λ (l : List Fact). list_any (same_fact f) l) (c.in_ok-extend_from_slice.ensures.items ∙ ap (λ (l : List Fact). l ++ c.args.more.now) c.in_ok-facts.ensures.items)

pub invariant_of-result : goal.invariant_of-result
invariant_of-result c =
    let sorted = c.sort.new.self.items in
    let is : c.dedup.new.self.items ≡ dedup equal sorted = dedup_is equal sorted c.dedup.new.self.items c.dedup.ensures.filtered in
    subst (IsStrictlySortedBy fact_cmp) (sym is) (IsStrictlySortedBy-dedup facts_total equal_tied sorted c.in_ok-sort.ensures.sorted)
