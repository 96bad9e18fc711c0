-- One more type among those whose choices are known.
use Rattle.std.proofs.Common.{◌≡◌, Bool, true, false, cond, List, Option, Some, refl, ap, sym, ◌∙◌, arith}
use Rattle.std.specs.BTreeMap.{is_at}
use Rattle.std.specs.Map.{lookup}
use Rattle.std.proofs.lemmas.Bool.Decides.{nat_tests}
use Rattle.ps_world.specs.Names.{same_name, name_cmp}
use Rattle.ps_world.specs.declared.names.Name.{Name}
use Rattle.ps_world.specs.declared.domains.Domain.{Domain}
use Rattle.ps_world.specs.declared.domains.Param.{Param}
use Rattle.ps_domain.specs.Listing.{choices_in, AreChoices}
use Rattle.ps_domain.proofs.Indexes.{at_same}

same_number : (n m : Name) → same_name n m ≡ true → n.0 ≡ m.0
same_number n m h = grind (arith, nat_tests)

-- names that tie are the same
is_tied : (n m : Name) → is_at (name_cmp n) m ≡ true → n ≡ m
is_tied n m h =
    let e : n.0 ≡ m.0 = same_number n m (sym (at_same n m) ∙ h) in
    λ i. record { 0 = e i }

-- what is found after a list is put in is that list, at its place, or what was found before
either : (b : Bool) (put names : List Name) (was : Option (List Name)) (P : Type 0) → cond b (Some put) was ≡ Some names → (b ≡ true → put ≡ names → P) → (was ≡ Some names → P) → P
either true put names was P h at other = at refl (cc)
either false put names was P h at other = other h

-- the choices for one more type are put in
pub learnt : (d : Domain) (sorted : List (Name × Name)) (p : Param) (found : List Name) (old new : List (Name × List Name)) → found ≡ choices_in d sorted p → AreChoices d sorted old
    → ((n : Name) → lookup (is_at (name_cmp n)) new ≡ cond (is_at (name_cmp p.kind) n) (Some found) (lookup (is_at (name_cmp n)) old)) → AreChoices d sorted new
learnt d sorted p found old new is before put =
    λ q names there.
    either (is_at (name_cmp p.kind) q.kind) found names (lookup (is_at (name_cmp q.kind)) old) (names ≡ choices_in d sorted q) (sym (put q.kind) ∙ there)
    (λ tie same. sym same ∙ (is ∙ ap (λ (kind : Name). choices_in d sorted (record { name = q.name; kind = kind })) (is_tied p.kind q.kind tie)))
    (λ was. before q names was)
