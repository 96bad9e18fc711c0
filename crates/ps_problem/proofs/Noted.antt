-- The facts that a name is noted with.
use Rattle.std.proofs.Common.{◌≡◌, Bool, true, false, cond, ◌&&◌, List, [], ◌∷◌, ◌++◌, ◌⊎◌, filter, map, inl, inr, refl, ap, sym, ◌∙◌, subst}
use Rattle.std.specs.Cmp.{both_ways}
use Rattle.std.specs.List.{AllByRecursion, Contains}
use Rattle.std.specs.List.Sorted.{IsStrictlySortedBy}
use Rattle.std.specs.Ordering.{is_eq, is_gt, ordering_then}
use Rattle.std.specs.declared.cmp.Ordering.{Ordering}
use Rattle.std.specs.declared.cmp.Ordering.TheVariants.{Less, Equal, Greater}
use Rattle.std.proofs.lemmas.Cmp.{eq_by_cmp_equiv}
use Rattle.std.proofs.lemmas.List.Elements.{All-contains}
use Rattle.std.proofs.lemmas.List.Kept.{IsStrictlySortedBy-filter}
use Rattle.ps_world.specs.Names.{name_cmp, same_name}
use Rattle.ps_world.specs.Facts.{fact_cmp}
use Rattle.ps_world.specs.Knowledge.{is_among}
use Rattle.ps_world.specs.declared.names.Name.{Name}
use Rattle.ps_world.specs.declared.facts.Fact.{Fact}
use Rattle.ps_problem.specs.declared.problem.namings.Naming.{Naming}
use Rattle.ps_problem.specs.Namings.{AreNamed, IsNaming, lowest_with, naming_cmp, noted_with}
use Rattle.ps_world.proofs.Truths.{and_true}
use Rattle.ps_action.proofs.Contained.{contains_cases, contains_first, contains_later, contains_none}
use Rattle.ps_action.proofs.Facts.{names_total, same_name-is, same_name-refl}
use Rattle.ps_problem.proofs.Contained.{is_known-Contains}
use Rattle.ps_problem.proofs.Namings.{from_lowest, squeezed}
use Rattle.ps_problem.proofs.PutFacts.{facts_same, known, known-filter}
use Rattle.ps_problem.proofs.Ranges.{StandTogether}

module _ (n : Name) where
  -- the note is of this name
  abbrev pub of_name : Naming → Bool
  of_name x = same_name n x.name

  above_lowest : (x : Naming) → of_name x ≡ true → is_gt (naming_cmp (lowest_with n) x) ≡ false
  above_lowest x e = subst (λ m. is_gt (naming_cmp (lowest_with n) (record { name = m; fact = x.fact })) ≡ false) (same_name-is n x.name e) (from_lowest n x.fact)

  between : (x y : Naming) → is_gt (naming_cmp (lowest_with n) x) ≡ false → is_gt (naming_cmp x y) ≡ false → of_name y ≡ true → of_name x ≡ true
  between x y p q e =
      let up : is_gt (naming_cmp x (record { name = n; fact = y.fact })) ≡ false =
      subst (λ m. is_gt (naming_cmp x (record { name = m; fact = y.fact })) ≡ false) (sym (same_name-is n y.name e)) q in
      same_name-refl n x.name (sym (squeezed n (lowest_with n).fact y.fact x p up))

  -- the notes of a name stand together
  pub notes_together : StandTogether naming_cmp (lowest_with n) of_name
  notes_together = record { above = above_lowest; between = between }

  -- one more that is found, and looked at
  pub one_more : (found : List Fact) (x : Naming) (rest : List Naming) → of_name x ≡ true → (found ++ x.fact ∷ []) ++ noted_with n rest ≡ found ++ noted_with n (x ∷ rest)
  one_more [] x rest e = rw e refl
  one_more (f ∷ fs) x rest e = ap (λ l. f ∷ l) (one_more fs x rest e)

  less_at : (a b : Ordering) → is_eq a ≡ true → ordering_then a b ≡ Less → b ≡ Less
  less_at Less b e l = absurd (cc)
  less_at Equal b e l = l
  less_at Greater b e l = absurd (cc)

  less_fact : (x y : Naming) → of_name x ≡ true → of_name y ≡ true → naming_cmp x y ≡ Less → fact_cmp x.fact y.fact ≡ Less
  less_fact x y e f less =
      less_at (name_cmp x.name y.name) (fact_cmp x.fact y.fact)
      (subst (λ m. is_eq (name_cmp x.name m) ≡ true) (sym (same_name-is n x.name e) ∙ same_name-is n y.name f) ((eq_by_cmp_equiv names_total).refl x.name)) less

  later_at : (x y : Naming) (ys : List Naming) (b : Bool) → of_name y ≡ b → of_name x ≡ true → naming_cmp x y ≡ Less → AllByRecursion (λ f. fact_cmp x.fact f ≡ Less) (noted_with n ys) → AllByRecursion (λ f. fact_cmp x.fact f ≡ Less) (map (λ z. z.fact) (cond b (y ∷ filter of_name ys) (filter of_name ys)))
  later_at x y ys true f e less rest = (less_fact x y e f less, rest)
  later_at x y ys false f e less rest = rest

  later : (x : Naming) (ys : List Naming) → of_name x ≡ true → AllByRecursion (λ y. naming_cmp x y ≡ Less) ys → AllByRecursion (λ f. fact_cmp x.fact f ≡ Less) (noted_with n ys)
  later x [] e less = tt
  later x (y ∷ ys) e less = later_at x y ys (of_name y) refl e less.0 (later x ys e less.1)

  rise_at : (x : Naming) (xs : List Naming) (b : Bool) → of_name x ≡ b → AllByRecursion (λ y. naming_cmp x y ≡ Less) xs → IsStrictlySortedBy fact_cmp (noted_with n xs) → IsStrictlySortedBy fact_cmp (map (λ z. z.fact) (cond b (x ∷ filter of_name xs) (filter of_name xs)))
  unfolding IsStrictlySortedBy
  rise_at x xs true e less rest = (later x xs e less, rest)
  rise_at x xs false e less rest = rest

  -- they rise where the notes do
  noted_rise : (xs : List Naming) → IsStrictlySortedBy naming_cmp xs → IsStrictlySortedBy fact_cmp (noted_with n xs)
  unfolding IsStrictlySortedBy
  noted_rise [] s = tt
  noted_rise (x ∷ xs) s = rise_at x xs (of_name x) refl s.0 (noted_rise xs s.1)

  there_at : (x : Naming) (xs : List Naming) (f : Fact) (b : Bool) → of_name x ≡ b → (x ≡ record { name = n; fact = f }) ⊎ Contains (noted_with n xs) f → Contains (map (λ z. z.fact) (cond b (x ∷ filter of_name xs) (filter of_name xs))) f
  there_at x xs f true e (inl same) = contains_first x.fact f (noted_with n xs) (ap (λ (z : Naming). z.fact) same)
  there_at x xs f true e (inr rest) = contains_later x.fact f (noted_with n xs) rest
  there_at x xs f false e (inl same) = let named : of_name x ≡ true = same_name-refl n x.name (sym (ap (λ (z : Naming). z.name) same)) in absurd (cc)
  there_at x xs f false e (inr rest) = rest

  -- a fact is among them where it is noted
  noted_there : (xs : List Naming) (f : Fact) → Contains xs (record { name = n; fact = f }) → Contains (noted_with n xs) f
  noted_there [] f c = absurd (contains_none (record { name = n; fact = f }) c)
  noted_there (x ∷ xs) f c = there_at x xs f (of_name x) refl (elim (contains_cases x (record { name = n; fact = f }) xs c) [
    | inl same ↦ inl same
    | inr rest ↦ inr (noted_there xs f rest)
  ])

  from_at : (x : Naming) (xs : List Naming) (f : Fact) (b : Bool) → of_name x ≡ b → (Contains (noted_with n xs) f → Contains xs (record { name = n; fact = f })) → Contains (map (λ z. z.fact) (cond b (x ∷ filter of_name xs) (filter of_name xs))) f → Contains (x ∷ xs) (record { name = n; fact = f })
  from_at x xs f true e h c = elim (contains_cases x.fact f (noted_with n xs) c) [
    | inl same ↦ contains_first x (record { name = n; fact = f }) xs (λ i. record { name = sym (same_name-is n x.name e) i; fact = same i })
    | inr rest ↦ contains_later x (record { name = n; fact = f }) xs (h rest)
  ]
  from_at x xs f false e h c = contains_later x (record { name = n; fact = f }) xs (h c)

  -- and is noted where it is among them
  there_noted : (xs : List Naming) (f : Fact) → Contains (noted_with n xs) f → Contains xs (record { name = n; fact = f })
  there_noted [] f c = absurd (contains_none f c)
  there_noted (x ∷ xs) f c = from_at x xs f (of_name x) refl (there_noted xs f) c

  as_named : (a b c : Bool) → (b ≡ true → a ≡ c) → (a && b) ≡ (b && c)
  as_named a true c h = and_true a ∙ h refl
  as_named true false c h = refl
  as_named false false c h = refl

  -- those of them that are known are the facts that name this
  pub noted_are : (facts : List Fact) (xs : List Naming) → AreNamed facts xs → IsStrictlySortedBy fact_cmp facts → IsStrictlySortedBy naming_cmp xs
      → filter (λ f. known f facts) (noted_with n xs) ≡ filter (λ f. is_among n f.args) facts
  noted_are facts xs named rise notes_rise =
      facts_same (filter (λ f. known f facts) (noted_with n xs)) (filter (λ f. is_among n f.args) facts)
      (IsStrictlySortedBy-filter fact_cmp (λ f. known f facts) (noted_with n xs) (noted_rise xs notes_rise))
      (IsStrictlySortedBy-filter fact_cmp (λ f. is_among n f.args) facts rise)
      (λ f. known-filter f (λ g. known g facts) (noted_with n xs)
      ∙ as_named (known f (noted_with n xs)) (known f facts) (is_among n f.args) (λ there. both_ways (known f (noted_with n xs)) (is_among n f.args)
      (λ e. All-contains IsNaming xs (record { name = n; fact = f }) named.sound (there_noted xs f ((is_known-Contains f (noted_with n xs)).0 e)))
      (λ e. (is_known-Contains f (noted_with n xs)).1 (noted_there xs f (named.whole f ((is_known-Contains f facts).0 there) n e))))
      ∙ sym (known-filter f (λ g. is_among n g.args) facts))
