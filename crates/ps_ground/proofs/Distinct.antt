-- What facts are among others once those that stand twice in a row are left out.
use Rattle.std.proofs.Common.{◌≡◌, ◌<◌, ℕ, zero, suc, Some, length, get_or, arith, Bool, true, false, cond, ◌&&◌, ◌||◌, List, [], ◌∷◌, refl, ap, sym, ◌∙◌}
use Rattle.std.specs.Prelude.{slice_get}
use Rattle.std.specs.List.{dedup, dedup_from, list_any}
use Rattle.std.specs.Cmp.{both_tied, unsigned_ties}
use Rattle.std.specs.Cmp.Lexicographic.{lists_ties, pointwise, slice_cmp}
use Rattle.std.specs.Ordering.{eq_by_cmp}
use Rattle.std.proofs.lemmas.Map.Views.{tells_apart}
use Rattle.ps_world.specs.Facts.{fact_cmp}
use Rattle.ps_world.specs.Names.{name_cmp, same_name}
use Rattle.ps_world.specs.Knowledge.{same_fact}
use Rattle.ps_world.specs.declared.facts.Fact.{Fact}
use Rattle.ps_world.proofs.Truths.{or_again}
use Rattle.ps_action.proofs.Facts.{exact_facts}

-- whether two facts are the same, part by part
abbrev pub equal : Fact → Fact → Bool
equal f g = same_name f.head g.head && pointwise same_name f.args g.args

-- so it is told by their order
pub equal_tied : (f g : Fact) → equal f g ≡ eq_by_cmp fact_cmp f g
equal_tied f g =
    both_tied (same_name f.head g.head) (pointwise same_name f.args g.args) (name_cmp f.head g.head) (slice_cmp name_cmp f.args g.args) (unsigned_ties f.head.0 g.head.0) (lists_ties name_cmp (λ m n. unsigned_ties m.0 n.0) f.args g.args)

pub equal_facts : (f g : Fact) → equal f g ≡ true → f ≡ g
equal_facts f g e = tells_apart exact_facts f g (sym (equal_tied f g) ∙ e)

module _ (f : Fact) where
  any_from : (x : Fact) (ys : List Fact) → list_any (same_fact f) (dedup_from equal x ys) ≡ (same_fact f x || list_any (same_fact f) ys)
  any_from x [] = refl
  any_from x (y ∷ ys) = by (equal y x) refl (any_from x ys) (any_from y ys)
    where
      by : (b : Bool) → equal y x ≡ b → list_any (same_fact f) (dedup_from equal x ys) ≡ (same_fact f x || list_any (same_fact f) ys) → list_any (same_fact f) (dedup_from equal y ys) ≡ (same_fact f y || list_any (same_fact f) ys) → list_any (same_fact f) (cond b (dedup_from equal x ys) (x ∷ dedup_from equal y ys)) ≡ (same_fact f x || (same_fact f y || list_any (same_fact f) ys))
      by true e first next =
          first ∙ or_again (same_fact f x) (list_any (same_fact f) ys)
          ∙ ap (λ z. same_fact f x || (same_fact f z || list_any (same_fact f) ys)) (sym (equal_facts y x e))
      by false e first next = ap (λ b. same_fact f x || b) next

  -- a fact is among the facts that are left where it is among all
  pub any_dedup : (xs : List Fact) → list_any (same_fact f) (dedup equal xs) ≡ list_any (same_fact f) xs
  any_dedup [] = refl
  any_dedup (x ∷ xs) = any_from x xs

-- an item by its place
pub item_at : (xs : List Fact) (i : ℕ) (x : Fact) → i < length xs → x ≡ get_or xs i x → slice_get xs i ≡ Some x
item_at [] i x h e = absurd (omega arith)
item_at (y ∷ xs) zero x h e = ap Some (sym e)
item_at (y ∷ xs) (suc i) x h e =
    let less : i < length xs = omega arith in
    item_at xs i x less e
