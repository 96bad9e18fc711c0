-- The first fault is that of the first clash, or an earlier one of a value.
use Rattle.std.proofs.Common.{◌≡◌, ◌≤◌, ℕ, ◌+◌, Bool, true, false, cond, List, [], ◌∷◌, ◌++◌, Option, Some, None, is_some, length, drop, take, refl, ap, sym, ◌∙◌, arith}
use Rattle.std.specs.Option.{option_or}
use Rattle.std.proofs.lemmas.List.{length-append}
use Rattle.ps_world.specs.declared.actions.Effect.{Effect}
use Rattle.ps_world.specs.declared.actions.Effect.TheVariants.{Add, Delete, Number}
use Rattle.ps_world.specs.declared.known.Knowledge.{Knowledge}
use Rattle.ps_action.specs.Effects.{clash_from, clashes, fault_of_effect, faults_from}
use Rattle.ps_action.specs.declared.refusals.EffectRefusal.{EffectRefusal}
use Rattle.ps_action.specs.declared.refusals.EffectRefusal.TheVariants.{Clash}

module _ (k : Knowledge) (before : List Effect) where
  -- an effect that clashes is at fault
  clashing : (at : ℕ) (e : Effect) → clashes before e ≡ true → fault_of_effect k before at e ≡ Some (Clash at)
  clashing at (Add l) h = absurd (cc)
  clashing at (Delete l) h = absurd (cc)
  clashing at (Number how l x) h = rw h refl

  -- the fault of one that doesn't is that of its value
  alone : (at : ℕ) (e : Effect) → clashes before e ≡ false → fault_of_effect k [] at e ≡ fault_of_effect k before at e
  alone at (Add l) h = refl
  alone at (Delete l) h = refl
  alone at (Number how l x) h = rw h refl

one_longer : (before : List Effect) (e : Effect) (n : ℕ) → length (before ++ e ∷ []) ≤ n → length before ≡ n → ⊥
one_longer before e n h same = omega (arith, length-append before (e ∷ []))

past_at : (before : List Effect) (e : Effect) (o : Option ℕ) (n : ℕ) (b : Bool) → (o ≡ Some n → length (before ++ e ∷ []) ≤ n) → cond b (Some (length before)) o ≡ Some n → length before ≤ n
past_at before e o n true rest h =
    let same : length before ≡ n = cc in
    omega (arith, same)
past_at before e o n false rest h = omega (arith, length-append before (e ∷ []), rest h)

-- the first clash stands past those before
past : (before es : List Effect) (n : ℕ) → clash_from before es ≡ Some n → length before ≤ n
past before [] n h = absurd (cc)
past before (e ∷ es) n h = past_at before e (clash_from (before ++ e ∷ []) es) n (clashes before e) (past (before ++ e ∷ []) es n) h

clashes_at : (before rest : List Effect) (e : Effect) (b : Bool) → cond b (Some (length before)) (clash_from (before ++ e ∷ []) rest) ≡ Some (length before) → b ≡ true
clashes_at before rest e true h = refl
clashes_at before rest e false h = absurd (one_longer before e (length before) (past (before ++ e ∷ []) rest (length before) h) refl)

passes_at : (before rest : List Effect) (e : Effect) (b : Bool) → (cond b (Some (length before)) (clash_from (before ++ e ∷ []) rest) ≡ Some (length before) → ⊥) → b ≡ false
passes_at before rest e true h = absurd (h refl)
passes_at before rest e false h = refl

module _ (k : Knowledge) (before rest : List Effect) (e : Effect) (at : ℕ) (place : length before ≡ at) where
  -- at the first clash the search for a fault ends
  pub at_clash : clash_from before (e ∷ rest) ≡ Some at → faults_from k before (e ∷ rest) ≡ Some (Clash at)
  at_clash h =
      let so = clashes_at before rest e (clashes before e) (h ∙ ap (λ (n : ℕ). Some n) (sym place)) in
      ap (λ (o : Option EffectRefusal). option_or o (faults_from k (before ++ e ∷ []) rest)) (clashing k before (length before) e so)
      ∙ ap (λ (n : ℕ). Some (Clash n)) place

  no_clash : (clash_from before (e ∷ rest) ≡ Some at → ⊥) → clashes before e ≡ false
  no_clash h = passes_at before rest e (clashes before e) (λ same. h (same ∙ ap (λ (n : ℕ). Some n) place))

  -- before it the first clash is among the others
  pub clash_later : (clash_from before (e ∷ rest) ≡ Some at → ⊥) → clash_from before (e ∷ rest) ≡ clash_from (before ++ e ∷ []) rest
  clash_later h = ap (λ b. cond b (Some (length before)) (clash_from (before ++ e ∷ []) rest)) (no_clash h)

  -- and the fault is that of the value, or a later one
  pub fault_here : (clash_from before (e ∷ rest) ≡ Some at → ⊥) → faults_from k before (e ∷ rest) ≡ option_or (fault_of_effect k [] at e) (faults_from k (before ++ e ∷ []) rest)
  fault_here h =
      ap (λ (o : Option EffectRefusal). option_or o (faults_from k (before ++ e ∷ []) rest))
      (sym (alone k before (length before) e (no_clash h)) ∙ ap (λ (n : ℕ). fault_of_effect k [] n e) place)

some_or : {A : Type 0} (o p : Option A) → is_some o ≡ true → option_or o p ≡ o
some_or None p h = absurd (cc)
some_or (Some x) p h = refl

none_or : {A : Type 0} (o p : Option A) → is_some o ≡ false → option_or o p ≡ p
none_or None p h = refl
none_or (Some x) p h = absurd (cc)

module _ (k : Knowledge) (es : List Effect) (i : ℕ) (e : Effect) (clash : Option ℕ) (split : drop i es ≡ e ∷ drop (i + 1) es) (place : length (take i es) ≡ i) (is : clash ≡ clash_from (take i es) (drop i es)) where
  from_here : clash_from (take i es) (e ∷ drop (i + 1) es) ≡ clash
  from_here = sym (is ∙ ap (λ l. clash_from (take i es) l) split)

  -- at the place of the first clash the fault is found
  pub found_clash : clash ≡ Some i → Some (Clash i) ≡ faults_from k (take i es) (drop i es)
  found_clash h =
      sym (ap (λ l. faults_from k (take i es) l) split ∙ at_clash k (take i es) (drop (i + 1) es) e i place (from_here ∙ h))

  module _ (not_here : clash ≡ Some i → ⊥) (more : take (i + 1) es ≡ take i es ++ e ∷ []) where
    other : clash_from (take i es) (e ∷ drop (i + 1) es) ≡ Some i → ⊥
    other h = not_here (sym from_here ∙ h)

    pub clash_left : clash ≡ clash_from (take (i + 1) es) (drop (i + 1) es)
    clash_left =
        sym from_here ∙ clash_later k (take i es) (drop (i + 1) es) e i place other
        ∙ ap (λ l. clash_from l (drop (i + 1) es)) (sym more)

    here_or_later : faults_from k (take i es) (drop i es) ≡ option_or (fault_of_effect k [] i e) (faults_from k (take (i + 1) es) (drop (i + 1) es))
    here_or_later =
        ap (λ l. faults_from k (take i es) l) split ∙ fault_here k (take i es) (drop (i + 1) es) e i place other
        ∙ ap (λ l. option_or (fault_of_effect k [] i e) (faults_from k l (drop (i + 1) es))) (sym more)

    -- before that place the fault of a value is the first
    pub found_value : (o : Option EffectRefusal) → o ≡ fault_of_effect k [] i e → is_some o ≡ true → o ≡ faults_from k (take i es) (drop i es)
    found_value o h some =
        sym (here_or_later ∙ ap (λ p. option_or p (faults_from k (take (i + 1) es) (drop (i + 1) es))) (sym h) ∙ some_or o _ some)

    -- or the first fault is among the others
    pub fault_left : (o : Option EffectRefusal) → o ≡ fault_of_effect k [] i e → is_some o ≡ false → faults_from k (take (i + 1) es) (drop (i + 1) es) ≡ faults_from k (take i es) (drop i es)
    fault_left o h none =
        sym (here_or_later ∙ ap (λ p. option_or p (faults_from k (take (i + 1) es) (drop (i + 1) es))) (sym h) ∙ none_or o _ none)
