-- What is left where an instance is taken out.
use Rattle.std.proofs.Common.{◌≡◌, ◌≢◌, true, false, not, List, Option, Some, None, is_some, filter, ap, sym, ◌∙◌, arith}
use Rattle.std.specs.BTreeMap.{is_at}
use Rattle.std.specs.List.Sorted.{IsStrictlySortedBy}
use Rattle.std.specs.Map.{keys_of, remove_entry}
use Rattle.std.specs.Ordering.{eq_by_cmp}
use Rattle.std.proofs.lemmas.Bool.Decides.{nat_tests}
use Rattle.std.proofs.lemmas.List.Elements.{filter_agree}
use Rattle.std.proofs.lemmas.Map.Entries.{lookup-filter-keys}
use Rattle.ps_world.specs.Names.{name_cmp, same_name}
use Rattle.ps_world.specs.Knowledge.{kind_of, without}
use Rattle.ps_world.specs.declared.names.Name.{Name}
use Rattle.ps_world.specs.declared.known.Knowledge.{Knowledge}
use Rattle.ps_action.proofs.Facts.{names_total}
use Rattle.ps_problem.proofs.Filters.{remove_entry-filter}

pub tests_agree : (a b : Name) → same_name a b ≡ eq_by_cmp name_cmp a b
tests_agree a b = grind (arith, nat_tests)

-- the instances but one
pub instances_but : (n : Name) (es : List (Name × Name)) → IsStrictlySortedBy name_cmp (keys_of es) → remove_entry (is_at (name_cmp n)) es ≡ filter (λ i. not (same_name n i.0)) es
instances_but n es s =
    remove_entry-filter names_total n es s
    ∙ filter_agree (λ i. not (eq_by_cmp name_cmp n i.0)) (λ i. not (same_name n i.0)) (λ i. ap not (sym (tests_agree n i.0))) es

gone : (k : Knowledge) (n : Name) → kind_of (without n k) n ≡ None
gone k n = lookup-filter-keys (same_name n) (λ m. not (same_name n m)) false (λ m e. ap not e) k.instances

-- to take out an instance that is there changes what is known
pub without_differs : (k : Knowledge) (n : Name) (o : Option Name) → kind_of k n ≡ o → is_some o ≡ true → without n k ≢ k
without_differs k n None f e same = cc
without_differs k n (Some kind) f e same =
    let left : kind_of (without n k) n ≡ kind_of k n = ap (λ (x : Knowledge). kind_of x n) same in
    let none = gone k n in
    cc
