use Rattle.std.proofs.Common.{◌≡◌, ◌↔◌, ◌∷◌, [], Bool, Global, List, btree_map_len, true, false, length, refl, ap, sym, ◌∙◌, arith}
use Rattle.std.specs.Prelude.{IsTrue}
use Rattle.std.specs.declared.collections.BTreeMap.{BTreeMap}
use Rattle.std.specs.Option.{option_map_or}
use Rattle.std.specs.Ordering.{eq_by_cmp}
use Rattle.ps_world.specs.declared.facts.Fact.{Fact}
use Rattle.ps_world.specs.declared.numbers.Num.{Num}
use Rattle.ps_solve.specs.Orders.{values_cmp}
use Rattle.ps_solve.proofs.values.ValuesPartialEq.eq.Goals as goal

-- values are those of none where they are none
none_left : (b : Bool) (es : List (Fact × Num)) → (IsTrue b ↔ (length es ≡ 0)) → b ≡ eq_by_cmp values_cmp es []
none_left true [] h = refl
none_left true (e ∷ es) h = let none : length (e ∷ es) ≡ 0 = h.0 refl in absurd (omega (arith, none))
none_left false [] h = h.1 refl
none_left false (e ∷ es) h = refl

pub returns-in-Some-None : goal.returns-in-Some-None
returns-in-Some-None c =
    let mine = ap (λ o. option_map_or (λ m. m.value.entries) o []) (sym c.in-Some-None.is-0) ∙ c.self.view_is in
    let none = ap (λ o. option_map_or (λ m. m.value.entries) o []) (sym c.in-Some-None.is-1) ∙ c.other.view_is in
    let many : btree_map_len c.deref.result.now ≡ length c.in-Some-None.mine.value.entries = ap (λ (m : BTreeMap Fact Num Global). btree_map_len m) c.deref.ensures in
    none_left c.is_empty.result c.in-Some-None.mine.value.entries (λ t. sym many ∙ c.is_empty.ensures.0 t, λ z. c.is_empty.ensures.1 (many ∙ z)) ∙ (λ j. eq_by_cmp values_cmp (mine j) (none j))
