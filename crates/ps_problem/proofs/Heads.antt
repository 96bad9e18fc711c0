-- Facts with one head, which stand together.
use Rattle.std.proofs.Common.{◌≡◌, Bool, true, false, List, [], ◌∷◌, ◌++◌, filter, refl, ap, sym, subst}
use Rattle.std.specs.Cmp.Lexicographic.{slice_cmp}
use Rattle.std.specs.Ordering.{is_gt, ordering_then}
use Rattle.std.proofs.lemmas.Cmp.{eq_by_cmp_equiv}
use Rattle.ps_world.specs.Names.{name_cmp, same_name}
use Rattle.ps_world.specs.Facts.{fact_cmp}
use Rattle.ps_world.specs.declared.names.Name.{Name}
use Rattle.ps_world.specs.declared.facts.Fact.{Fact}
use Rattle.ps_action.proofs.Facts.{names_total, same_name-is, same_name-refl}
use Rattle.ps_problem.specs.Namings.{lowest_of}
use Rattle.ps_problem.proofs.Namings.{least_names, not_above, squeezed_at, then_not_above}
use Rattle.ps_problem.proofs.Ranges.{StandTogether}

module _ (n : Name) where
  -- the fact has this head
  abbrev pub of_head : Fact → Bool
  of_head f = same_name n f.head

  above_lowest : (f : Fact) → of_head f ≡ true → is_gt (fact_cmp (lowest_of n) f) ≡ false
  above_lowest f e =
      subst (λ h. is_gt (ordering_then (name_cmp n h) (slice_cmp name_cmp [] f.args)) ≡ false) (same_name-is n f.head e)
      (then_not_above (name_cmp n n) (slice_cmp name_cmp [] f.args) (not_above (name_cmp n n) ((eq_by_cmp_equiv names_total).refl n)) (least_names f.args))

  -- what stands between the lowest of a head and another fact with it has it too
  between : (x g : Fact) → is_gt (fact_cmp (lowest_of n) x) ≡ false → is_gt (fact_cmp x g) ≡ false → of_head g ≡ true → of_head x ≡ true
  between x g p q e =
      let up : is_gt (ordering_then (name_cmp x.head n) (slice_cmp name_cmp x.args g.args)) ≡ false =
      subst (λ h. is_gt (ordering_then (name_cmp x.head h) (slice_cmp name_cmp x.args g.args)) ≡ false) (sym (same_name-is n g.head e)) q in
      same_name-refl n x.head (squeezed_at n x.head (slice_cmp name_cmp [] x.args) (slice_cmp name_cmp x.args g.args) (name_cmp n x.head) (name_cmp x.head n) refl refl (names_total.antisymm n x.head) p up)

  pub heads_together : StandTogether fact_cmp (lowest_of n) of_head
  heads_together = record { above = above_lowest; between = between }

  -- one more that is found, and looked at
  pub one_more : (found : List Fact) (f : Fact) (rest : List Fact) → of_head f ≡ true → (found ++ f ∷ []) ++ filter of_head rest ≡ found ++ filter of_head (f ∷ rest)
  one_more [] f rest e = rw e refl
  one_more (x ∷ xs) f rest e = ap (λ fs. x ∷ fs) (one_more xs f rest e)
