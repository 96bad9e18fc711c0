-- Entries that rise, made of their parts in any order.
use Rattle.std.proofs.Common.{◌≡◌, Bool, true, false, cond, ◌||◌, List, [], ◌∷◌, All, Option, Some, refl, ap, sym, ◌∙◌}
use Rattle.std.specs.BTreeMap.{insert_entry}
use Rattle.std.specs.Cmp.{IsTotalOrder}
use Rattle.std.specs.List.{AllByRecursion, Contains, list_any}
use Rattle.std.specs.List.Sorted.{IsStrictlySortedBy}
use Rattle.std.specs.Map.{keys_of, lookup}
use Rattle.std.specs.Ordering.{eq_by_cmp}
use Rattle.std.specs.declared.cmp.Ordering.{Ordering}
use Rattle.std.proofs.lemmas.Cmp.{eq_by_cmp_equiv}
use Rattle.std.proofs.lemmas.List.Elements.{All-contains_itself, All-weaker}
use Rattle.std.proofs.lemmas.Map.Lookups.{CmpEqualImpliesEq}
use Rattle.std.proofs.lemmas.Map.Keys.{IsDistinct-from_sorted}
use Rattle.std.proofs.lemmas.Map.Views.{lookup-from_Contains, tells_apart}
use Rattle.ps_action.proofs.Keys.{lookup-insert_entry}
use Rattle.ps_undo.proofs.Entries.{put}

module _ {K X : Type 0} {R : K → K → Ordering} (o : IsTotalOrder R) (exact : CmpEqualImpliesEq R) where
  abbrev at : K → List (K × X) → Option X
  at q es = lookup (eq_by_cmp R q) es

  -- each of these entries is found among those
  abbrev pub Are : List (K × X) → List (K × X) → Type 0
  Are all es = AllByRecursion (λ e. at e.0 all ≡ Some e.1) es

  put_at : (s a : Bool) (x : X) (f b : Option X) → (s ≡ true → f ≡ Some x) → cond a f (cond s (Some x) b) ≡ cond (s || a) f b
  put_at true true x f b h = refl
  put_at true false x f b h = sym (h refl)
  put_at false a x f b h = refl

  -- a key that is put in has what all have for it
  pub at-put : (q : K) (all es more : List (K × X)) → Are all more → at q (put o exact es more) ≡ cond (list_any (eq_by_cmp R q) (keys_of more)) (at q all) (at q es)
  at-put q all es [] h = refl
  at-put q all es (m ∷ ms) h =
      at-put q all (insert_entry R es m.0 m.1) ms h.1
      ∙ ap (λ (b : Option X). cond (list_any (eq_by_cmp R q) (keys_of ms)) (at q all) b) (lookup-insert_entry o q m.0 m.1 es)
      ∙ put_at (eq_by_cmp R q m.0) (list_any (eq_by_cmp R q) (keys_of ms)) m.1 (at q all) (at q es) (λ s. ap (λ (k : K). at k all) (tells_apart exact q m.0 s) ∙ h.0)

  -- an entry of those that rise is found
  found : (es : List (K × X)) (e : K × X) → IsStrictlySortedBy R (keys_of es) → Contains es e → at e.0 es ≡ Some e.1
  found es e s c = lookup-from_Contains (eq_by_cmp_equiv o) e.0 e.1 es (IsDistinct-from_sorted R (keys_of es) s) c

  pub all_found : (es : List (K × X)) → IsStrictlySortedBy R (keys_of es) → All (λ e. at e.0 es ≡ Some e.1) es
  all_found es s = All-weaker (Contains es) (λ e. at e.0 es ≡ Some e.1) (λ e c. found es e s c) es (All-contains_itself es)
