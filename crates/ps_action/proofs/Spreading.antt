-- What is added for each choice of instances, looked at one instance after another.
use Rattle.std.proofs.Common.{◌≡◌, ℕ, Bool, true, false, List, [], ◌∷◌, ◌++◌, flat_map, refl, ap, sym, ◌∙◌}
use Rattle.std.proofs.lemmas.List.{append-nil, append_assoc}
use Rattle.std.proofs.lemmas.List.Sums.{fold-append}
use Rattle.std.proofs.lemmas.Grind.{flat_map-append}
use Rattle.ps_world.specs.Knowledge.{is_below}
use Rattle.ps_world.specs.declared.names.Name.{Name}
use Rattle.ps_world.specs.declared.actions.Effect.{Effect}
use Rattle.ps_world.specs.declared.domains.Param.{Param}
use Rattle.ps_world.specs.declared.domains.Domain.{Domain}
use Rattle.ps_action.specs.Bindings.{bindings, bindings_from}
use Rattle.ps_action.specs.Fine.{counted, one_more}

-- a count of two lists goes on from the first to the second
pub counted-append : (p : Effect → Bool) (n : ℕ) (xs ys : List Effect) → counted p n (xs ++ ys) ≡ counted p (counted p n xs) ys
counted-append p n xs ys = fold-append (λ m e. one_more m (p e)) n xs ys

module _ (d : Domain) (whole : List (Name × Name)) (p : Param) (ps : List Param) (env : List Name) (x : Name × Name) (rest : List (Name × Name)) where
  skipped : is_below d x.1 p.kind ≡ false → bindings_from d whole p ps env (x ∷ rest) ≡ bindings_from d whole p ps env rest
  skipped e = rw e refl

  taken : is_below d x.1 p.kind ≡ true → bindings_from d whole p ps env (x ∷ rest) ≡ bindings d whole ps (env ++ x.0 ∷ []) ++ bindings_from d whole p ps env rest
  taken e = rw e refl

module _ (d : Domain) (whole : List (Name × Name)) (p : Param) (ps : List Param) (env : List Name) (x : Name × Name) (rest : List (Name × Name)) where
  one_by : (b : Bool) → is_below d x.1 p.kind ≡ b → bindings_from d whole p ps env (x ∷ rest) ≡ bindings_from d whole p ps env (x ∷ []) ++ bindings_from d whole p ps env rest
  one_by true e =
      taken d whole p ps env x rest e
      ∙ ap (λ l. l ++ bindings_from d whole p ps env rest) (sym (taken d whole p ps env x [] e ∙ append-nil (bindings d whole ps (env ++ x.0 ∷ []))))
  one_by false e =
      skipped d whole p ps env x rest e
      ∙ ap (λ l. l ++ bindings_from d whole p ps env rest) (sym (skipped d whole p ps env x [] e))

  parts_of : {B : Type 0} (f : List Name → List B) (left : List (Name × Name)) → left ≡ x ∷ rest
      → flat_map f (bindings_from d whole p ps env left) ≡ flat_map f (bindings_from d whole p ps env (x ∷ [])) ++ flat_map f (bindings_from d whole p ps env rest)
  parts_of f left split =
      ap (λ l. flat_map f (bindings_from d whole p ps env l)) split
      ∙ ap (flat_map f) (one_by (is_below d x.1 p.kind) refl)
      ∙ flat_map-append f (bindings_from d whole p ps env (x ∷ [])) (bindings_from d whole p ps env rest)

  -- what is added for one instance more
  pub step_on : {B : Type 0} (f : List Name → List B) (left : List (Name × Name)) (old new all : List B) → left ≡ x ∷ rest
      → new ≡ old ++ flat_map f (bindings_from d whole p ps env (x ∷ []))
      → old ++ flat_map f (bindings_from d whole p ps env left) ≡ all
      → new ++ flat_map f (bindings_from d whole p ps env rest) ≡ all
  step_on f left old new all split made before =
      ap (λ l. l ++ flat_map f (bindings_from d whole p ps env rest)) made
      ∙ append_assoc old (flat_map f (bindings_from d whole p ps env (x ∷ []))) (flat_map f (bindings_from d whole p ps env rest))
      ∙ ap (λ l. old ++ l) (sym (parts_of f left split))
      ∙ before

  -- what is counted for one instance more
  pub count_on : (q : Effect → Bool) (f : List Name → List Effect) (left : List (Name × Name)) (old new all : ℕ) → left ≡ x ∷ rest
      → new ≡ counted q old (flat_map f (bindings_from d whole p ps env (x ∷ [])))
      → counted q old (flat_map f (bindings_from d whole p ps env left)) ≡ all
      → counted q new (flat_map f (bindings_from d whole p ps env rest)) ≡ all
  count_on q f left old new all split made before =
      ap (λ n. counted q n (flat_map f (bindings_from d whole p ps env rest))) made
      ∙ sym (counted-append q old (flat_map f (bindings_from d whole p ps env (x ∷ []))) (flat_map f (bindings_from d whole p ps env rest)))
      ∙ ap (counted q old) (sym (parts_of f left split))
      ∙ before
