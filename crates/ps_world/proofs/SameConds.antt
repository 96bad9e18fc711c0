-- Lists of conditions that are compared one place after another.
use Rattle.std.proofs.Common.{◌≡◌, ◌≢◌, ℕ, ◌+◌, ◌<◌, Bool, true, false, ◌&&◌, List, ◌∷◌, length, drop, get_or, map, ap, refl, sym, ◌∙◌, add-one, drop-cons}
use Rattle.std.proofs.lemmas.Bool.{false_from_ne_true}
use Rattle.std.proofs.Math.ListN.{get_or-map}
use Rattle.std.proofs.lemmas.List.{length-map}
use Rattle.ps_world.specs.Same.{is_same, is_same_decides}
use Rattle.ps_world.specs.Trees.{CondTree, cond_tree_code, conds_code}
use Rattle.ps_world.specs.CondViews.{cond_tree}
use Rattle.ps_world.specs.declared.conditions.Cond.{Cond}

longer : (xs ys : List CondTree) → (length xs ≢ length ys) → is_same conds_code xs ys ≡ false
longer xs ys n =
    false_from_ne_true (is_same conds_code xs ys) (λ e. n (ap length ((is_same_decides conds_code xs ys).0 e)))

-- lists of other lengths are not the same
pub unequal : (cs ds : List Cond) (xs ys : List CondTree) → map cond_tree cs ≡ xs → map cond_tree ds ≡ ys → (length cs ≢ length ds) → is_same conds_code xs ys ≡ false
unequal cs ds xs ys e f n =
    rw (← e, ← f) (longer (map cond_tree cs) (map cond_tree ds) (λ p. n (sym (length-map cs cond_tree) ∙ p ∙ length-map ds cond_tree)))

here : (cs : List Cond) (xs : List CondTree) (i : ℕ) (c : Cond) → map cond_tree cs ≡ xs → i < length cs → c ≡ get_or cs i c → drop i xs ≡ cond_tree c ∷ drop (i + 1) xs
here cs xs i c e h at =
    let long : i < length (map cond_tree cs) = rw length-map h in
    let item : get_or (map cond_tree cs) i (cond_tree c) ≡ cond_tree c = get_or-map cond_tree cs i c ∙ ap cond_tree (sym at) in
    rw (← e, add-one, drop-cons (map cond_tree cs) i (cond_tree c), item) refl

module _ (cs ds : List Cond) (xs ys : List CondTree) (i : ℕ) (c d : Cond)
    (are_xs : map cond_tree cs ≡ xs) (are_ys : map cond_tree ds ≡ ys)
    (in_cs : i < length cs) (in_ds : i < length ds) (is_c : c ≡ get_or cs i c) (is_d : d ≡ get_or ds i d) where
  step : is_same conds_code (drop i xs) (drop i ys) ≡ (is_same cond_tree_code (cond_tree c) (cond_tree d) && is_same conds_code (drop (i + 1) xs) (drop (i + 1) ys))
  step = rw (here cs xs i c are_xs in_cs is_c, here ds ys i d are_ys in_ds is_d) refl

  -- where two items differ, the lists do
  pub differs : (whole : Bool) → is_same conds_code (drop i xs) (drop i ys) ≡ whole → is_same cond_tree_code (cond_tree c) (cond_tree d) ≡ false → false ≡ whole
  differs whole e f = sym (rw f at step) ∙ e

  -- where two items are the same, the rest decides
  pub goes_on : (whole : Bool) → is_same conds_code (drop i xs) (drop i ys) ≡ whole → is_same cond_tree_code (cond_tree c) (cond_tree d) ≡ true → is_same conds_code (drop (i + 1) xs) (drop (i + 1) ys) ≡ whole
  goes_on whole e f = sym (rw f at step) ∙ e
