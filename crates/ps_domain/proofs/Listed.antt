-- The ground actions of an action, listed one list of arguments after another.
use Rattle.std.proofs.Common.{◌≡◌, ℕ, ◌+◌, ◌<◌, ◌==◌, suc, arith, ◌||◌, Bool, true, false, List, [], ◌∷◌, ◌++◌, length, get_or, map, drop, refl, ap, sym, ◌∙◌, append_assoc}
use Rattle.std.specs.List.{flat_map, list_any}
use Rattle.std.proofs.lemmas.List.{drop_more, map-append}
use Rattle.std.proofs.lemmas.Bool.Decides.{nat_tests}
use Rattle.ps_world.specs.declared.names.Name.{Name}
use Rattle.ps_world.specs.declared.actions.ActionDef.{ActionDef}
use Rattle.ps_action.specs.Grounding.{picks}
use Rattle.ps_action.specs.declared.acts.GroundAction.{GroundAction}
use Rattle.ps_domain.specs.Listing.{ground_with, ground_from}

-- what is still to come of a list of pieces, after one more of them
pub pieces_more : {X A : Type 0} (F : X → List A) (xs : List X) (i : ℕ) (none : X) (done more whole : List A) → i < length xs → more ≡ done ++ F (get_or xs i none) → done ++ flat_map F (drop i xs) ≡ whole → more ++ flat_map F (drop (i + 1) xs) ≡ whole
pieces_more {A} F xs i none done more whole within is so_far =
    let later = flat_map F (drop (i + 1) xs) in
    ap (λ (l : List A). l ++ later) is ∙ (append_assoc done (F (get_or xs i none)) later
    ∙ (sym (ap (λ l. done ++ flat_map F l) (drop_more xs i none within)) ∙ so_far))

module _ (a : ActionDef) (first : List Name) where
  -- a name before each list comes after the first arguments
  ground_from-before : (n : Name) (lists : List (List Name)) → ground_from a first (map (λ args. n ∷ args) lists) ≡ ground_from a (first ++ n ∷ []) lists
  ground_from-before n [] = refl
  ground_from-before n (args ∷ lists) = rw (append_assoc first (n ∷ []) args, ground_from-before n lists) refl

  ground_from-both : (xs ys : List (List Name)) → ground_from a first (xs ++ ys) ≡ ground_from a first xs ++ ground_from a first ys
  ground_from-both xs ys = map-append (λ args. ground_with a (first ++ args)) xs ys

  -- what is still to come, after the lists that one more name begins
  pub picks_more : (lists : List (List Name)) (names : List Name) (i : ℕ) (none : Name) (done more whole : List GroundAction) → i < length names → more ≡ done ++ ground_from a (first ++ get_or names i none ∷ []) lists
      → done ++ ground_from a first (flat_map (λ n. map (λ args. n ∷ args) lists) (drop i names)) ≡ whole → more ++ ground_from a first (flat_map (λ n. map (λ args. n ∷ args) lists) (drop (i + 1) names)) ≡ whole
  picks_more lists names i none done more whole within is so_far =
      let n = get_or names i none in
      let F : Name → List (List Name) = λ n. map (λ args. n ∷ args) lists in
      let later = flat_map F (drop (i + 1) names) in
      let here : ground_from a first (F n ++ later) ≡ ground_from a (first ++ n ∷ []) lists ++ ground_from a first later =
      ground_from-both (F n) later ∙ ap (λ (l : List GroundAction). l ++ ground_from a first later) (ground_from-before n lists) in
      ap (λ (l : List GroundAction). l ++ ground_from a first later) is
      ∙ (append_assoc done (ground_from a (first ++ n ∷ []) lists) (ground_from a first later)
      ∙ (ap (λ (l : List GroundAction). done ++ l) (sym here)
      ∙ (sym (ap (λ (l : List Name). done ++ ground_from a first (flat_map F l)) (drop_more names i none within)) ∙ so_far)))

nothing_picked : (ns : List Name) → flat_map (λ n. map (λ args. n ∷ args) []) ns ≡ []
nothing_picked [] = refl
nothing_picked (n ∷ ns) = nothing_picked ns

pub later_passes : (a b : Bool) → a ≡ false → (a || b) ≡ true → b ≡ true
later_passes true b e h = cc
later_passes false b e h = h

-- nothing is picked where one of the lists is empty
pub picks_none : (lists : List (List Name)) → list_any (λ ns. length ns == 0) lists ≡ true → picks lists ≡ []
picks_none [] h = cc
picks_none ([] ∷ lists) h = refl
picks_none ((n ∷ ns) ∷ lists) h =
    let full : (suc (length ns) == 0) ≡ false = grind (arith, nat_tests) in
    let none = picks_none lists (later_passes (suc (length ns) == 0) (list_any (λ ms. length ms == 0) lists) full h) in
    ap (λ (l : List (List Name)). flat_map (λ m. map (λ args. m ∷ args) l) (n ∷ ns)) none ∙ nothing_picked (n ∷ ns)
