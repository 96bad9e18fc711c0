-- A condition, an effect or an expression fits the grammar's levels exactly where its text has few enough parentheses open at one place.
use Rattle.std.proofs.Common.{◌≡◌, ℕ, zero, suc, ◌+◌, ◌≤◌, false, List, [], ◌++◌, length, codes, get_or, refl, sym, ◌∙◌, inl, inr, arith}
use Rattle.std.specs.List.{All}
use Rattle.std.proofs.lemmas.Bool.{cases_Bool}
use Rattle.std.proofs.lemmas.List.Elements.{All-weaker}
use Rattle.ps_world.specs.Lines.{same_text}
use Rattle.ps_world.specs.Names.{Table, name_text}
use Rattle.ps_world.specs.Leaves.{AllIn, AllInEach}
use Rattle.ps_world.specs.declared.names.Name.{Name}
use Rattle.ps_world.proofs.SameTexts.{same_text-is}
use Rattle.ps_text.specs.Names.{AreNames, folded}
use Rattle.ps_world.specs.Trees.{ExprTree, number, value_of, negated, operated, CondTree, CondTrees, all_of, any_of, no, implied, holds, same, compares, is_a, for_some, for_all}
use Rattle.ps_world.specs.Trees as tree
use Rattle.ps_world.specs.ExprViews.{expr_tree}
use Rattle.ps_world.specs.CondViews.{cond_tree}
use Rattle.ps_world.specs.declared.actions.Effect.{Effect}
use Rattle.ps_world.specs.declared.actions.Effect.TheVariants.{Add, Delete, Number}
use Rattle.ps_world.specs.declared.actions.Guarded.{Guarded}
use Rattle.ps_world.specs.declared.actions.Guarded.TheVariants.{Plain, When}
use Rattle.ps_world.specs.declared.actions.Spread.{Spread}
use Rattle.ps_world.specs.declared.actions.Spread.TheVariants.{Once, ForAll}
use Rattle.ps_world.specs.declared.domains.Param.{Param}
use Rattle.ps_world.specs.declared.domains.Domain.{Domain}
use Rattle.ps_rules.specs.Sound.{cond_opens, conds_open, expr_opens}
use Rattle.ps_grammar.specs.Shape.{deepest}
use Rattle.ps_print.specs.CanonicalWords.{AreCondsOf, IsCondOf, IsGuardedOf, IsNameOf, IsParamOf, IsSpreadOf}
use Rattle.ps_pddl.specs.WellFormed.{IsEffect, IsGuarded, IsSpread}
use Rattle.ps_pddl.proofs.Fits.{FitParams, FitsCond, FitConds, FitsEffect, FitsExpr, FitsGuarded, FitsSpread, IsVariableName}
use Rattle.ps_pddl.proofs.Fits.FitsCond.{fits_all, fits_any, fits_comparison, fits_each, fits_fact, fits_implied, fits_not, fits_same, fits_some}
use Rattle.ps_pddl.proofs.Fits.FitConds.{fit_more, fit_none}
use Rattle.ps_pddl.proofs.Fits.FitsEffect.{fits_addition, fits_change, fits_deletion}
use Rattle.ps_pddl.proofs.Fits.FitsGuarded.{fits_plain, fits_when}
use Rattle.ps_pddl.proofs.Fits.FitsSpread.{fits_for_each, fits_once}
use Rattle.ps_pddl.proofs.Fits.FitsExpr.{fits_negation, fits_number, fits_operation, fits_value}
use Rattle.ps_pddl.proofs.MeanConditions.{HaveHeads, fact-head}
use Rattle.ps_reading_laws.specs.Writable.{AreParamNames, IsWritableEffect, IsWritableGuarded, IsWritableSpread, effect_opens, headed_leaves}

-- ---- expressions

pub expr_fits : (room : ℕ) (x : ExprTree) → expr_opens x ≤ room → FitsExpr room x
expr_fits room (number n) few = fits_number room n
expr_fits zero (value_of l) few = absurd (omega (arith, few))
expr_fits (suc room) (value_of l) few = fits_value room l
expr_fits zero (negated x) few = absurd (omega (arith, few))
expr_fits (suc room) (negated x) few = fits_negation room x (expr_fits room x (omega (arith, few)))
expr_fits zero (operated o x y) few = absurd (omega (arith, few))
expr_fits (suc room) (operated o x y) few = fits_operation room o x y (expr_fits room x (omega (arith, few))) (expr_fits room y (omega (arith, few)))

pub expr_opens_few : (room : ℕ) (x : ExprTree) → FitsExpr room x → expr_opens x ≤ room
expr_opens_few _ _ (fits_number room n) = omega arith
expr_opens_few _ _ (fits_value room l) = omega arith
expr_opens_few _ _ (fits_negation room x fit) =
    let below = expr_opens_few room x fit in
    omega (arith, below)
expr_opens_few _ _ (fits_operation room o x y fit also) =
    let left = expr_opens_few room x fit in
    let right = expr_opens_few room y also in
    omega (arith, left, right)

-- ---- parameters

-- `?` before another name in lower case doesn't read as `?duration`
not_duration : (text : List ℕ) → folded text ≡ text → (text ≡ codes "duration" → ⊥) → same_text (folded (codes "?" ++ text)) (codes "?duration") ≡ false
not_duration text lower other =
    elim (cases_Bool (same_text (folded (codes "?" ++ text)) (codes "?duration"))) [
      | inl e ↦
          let whole = same_text-is (folded (codes "?" ++ text)) (codes "?duration") e in
          let rest : folded text ≡ codes "duration" = cc in
          absurd (other (sym lower ∙ rest))
      | inr e ↦ e
    ]

module _ (names : Table) where
  name_fits : AreNames names → (n : Name) → IsNameOf (length names) n → (name_text names n ≡ codes "duration" → ⊥) → IsVariableName names n
  name_fits good n known other = rw (not_duration (name_text names n) (good.texts n.0 _ known).lower_case other) refl

  pub params_fit : AreNames names → (ps : List Param) → All (IsParamOf (length names)) ps → AreParamNames names ps → FitParams names ps
  params_fit good ps known other = λ k d lt. name_fits good (get_or ps k d).name (known k d lt).0 (other k d lt)

  name_written : (n : Name) → IsVariableName names n → name_text names n ≡ codes "duration" → ⊥
  name_written n fit e = cc

  pub params_written : (ps : List Param) → FitParams names ps → AreParamNames names ps
  params_written = All-weaker (λ p. IsVariableName names p.name) (λ p. name_text names p.name ≡ codes "duration" → ⊥) (λ p. name_written p.name)

  -- ---- conditions

  module _ (good : AreNames names) where
    mutual
      pub cond_fits : (ps os : List Param) (room : ℕ) (c : CondTree) → IsCondOf (length names) ps c → AllIn (headed_leaves names) os c → cond_opens c ≤ room → FitsCond names room c
      cond_fits ps os room (is_a t kind) known heads few = absurd known
      cond_fits ps os zero (all_of cs) known heads few = absurd (omega (arith, few))
      cond_fits ps os zero (any_of cs) known heads few = absurd (omega (arith, few))
      cond_fits ps os zero (no c) known heads few = absurd (omega (arith, few))
      cond_fits ps os zero (implied a b) known heads few = absurd (omega (arith, few))
      cond_fits ps os zero (holds l) known heads few = absurd (omega (arith, few))
      cond_fits ps os zero (same s t) known heads few = absurd (omega (arith, few))
      cond_fits ps os zero (compares rel x y) known heads few = absurd (omega (arith, few))
      cond_fits ps os zero (for_some qs c) known heads few = absurd (omega (arith, few))
      cond_fits ps os zero (for_all qs c) known heads few = absurd (omega (arith, few))
      cond_fits ps os (suc room) (all_of cs) known heads few = fits_all room cs (conds_fit ps os room cs known heads (omega (arith, few)))
      cond_fits ps os (suc room) (any_of cs) known heads few = fits_any room cs (conds_fit ps os room cs known.1 heads.1 (omega (arith, few)))
      cond_fits ps os (suc room) (no c) known heads few = fits_not room c (cond_fits ps os room c known heads (omega (arith, few)))
      cond_fits ps os (suc room) (implied a b) known heads few =
          fits_implied room a b (cond_fits ps os room a known.1.0 heads.1.0 (omega (arith, few))) (cond_fits ps os room b known.1.1 heads.1.1 (omega (arith, few)))
      cond_fits ps os (suc room) (holds l) known heads few = fits_fact room l heads
      cond_fits ps os (suc room) (same s t) known heads few = fits_same room s t
      cond_fits ps os (suc room) (compares rel x y) known heads few = fits_comparison room rel x y (expr_fits room x (omega (arith, few))) (expr_fits room y (omega (arith, few)))
      cond_fits ps os (suc room) (for_some qs c) known heads few =
          fits_some room qs c (params_fit good qs known.0 heads.0) (cond_fits (ps ++ qs) (os ++ qs) room c known.1 heads.1 (omega (arith, few)))
      cond_fits ps os (suc room) (for_all qs c) known heads few =
          fits_each room qs c (params_fit good qs known.0 heads.0) (cond_fits (ps ++ qs) (os ++ qs) room c known.1 heads.1 (omega (arith, few)))

      conds_fit : (ps os : List Param) (room : ℕ) (cs : CondTrees) → AreCondsOf (length names) ps cs → AllInEach (headed_leaves names) os cs → conds_open cs ≤ room → FitConds names room cs
      conds_fit ps os room tree.none known heads few = fit_none room
      conds_fit ps os room (tree.more c cs) known heads few =
          fit_more room c cs (cond_fits ps os room c known.0 heads.0 (omega (arith, few))) (conds_fit ps os room cs known.1 heads.1 (omega (arith, few)))

  mutual
    pub cond_heads : (ps : List Param) (room : ℕ) (c : CondTree) → FitsCond names room c → AllIn (headed_leaves names) ps c
    cond_heads ps _ _ (fits_all room cs fit) = conds_heads ps room cs fit
    cond_heads ps _ _ (fits_any room cs fit) = (tt, conds_heads ps room cs fit)
    cond_heads ps _ _ (fits_not room c fit) = cond_heads ps room c fit
    cond_heads ps _ _ (fits_implied room a b fit also) = (tt, (cond_heads ps room a fit, cond_heads ps room b also))
    cond_heads ps _ _ (fits_some room qs c free fit) = (params_written qs free, cond_heads (ps ++ qs) room c fit)
    cond_heads ps _ _ (fits_each room qs c free fit) = (params_written qs free, cond_heads (ps ++ qs) room c fit)
    cond_heads ps _ _ (fits_fact room l head) = head
    cond_heads ps _ _ (fits_same room s t) = (tt, tt)
    cond_heads ps _ _ (fits_comparison room rel x y fit also) = (tt, tt)

    conds_heads : (ps : List Param) (room : ℕ) (cs : CondTrees) → FitConds names room cs → AllInEach (headed_leaves names) ps cs
    conds_heads ps _ _ (fit_none room) = tt
    conds_heads ps _ _ (fit_more room c cs fit fits) = (cond_heads ps room c fit, conds_heads ps room cs fits)

  -- a condition opens a parenthesis at least
  fits_one : (room : ℕ) (c : CondTree) → FitsCond names room c → 1 ≤ room
  fits_one _ _ (fits_all room cs fit) = omega arith
  fits_one _ _ (fits_any room cs fit) = omega arith
  fits_one _ _ (fits_not room c fit) = omega arith
  fits_one _ _ (fits_implied room a b fit also) = omega arith
  fits_one _ _ (fits_some room qs c free fit) = omega arith
  fits_one _ _ (fits_each room qs c free fit) = omega arith
  fits_one _ _ (fits_fact room l head) = omega arith
  fits_one _ _ (fits_same room s t) = omega arith
  fits_one _ _ (fits_comparison room rel x y fit also) = omega arith

  mutual
    pub cond_opens_few : (room : ℕ) (c : CondTree) → FitsCond names room c → cond_opens c ≤ room
    cond_opens_few _ _ (fits_all room cs fit) =
        let below = conds_open_few room cs fit in
        omega (arith, below)
    cond_opens_few _ _ (fits_any room cs fit) =
        let below = conds_open_few room cs fit in
        omega (arith, below)
    cond_opens_few _ _ (fits_not room c fit) =
        let below = cond_opens_few room c fit in
        omega (arith, below)
    cond_opens_few _ _ (fits_implied room a b fit also) =
        let left = cond_opens_few room a fit in
        let right = cond_opens_few room b also in
        omega (arith, left, right)
    cond_opens_few _ _ (fits_some room qs c free fit) =
        let below = cond_opens_few room c fit in
        omega (arith, below, fits_one room c fit)
    cond_opens_few _ _ (fits_each room qs c free fit) =
        let below = cond_opens_few room c fit in
        omega (arith, below, fits_one room c fit)
    cond_opens_few _ _ (fits_fact room l head) = omega arith
    cond_opens_few _ _ (fits_same room s t) = omega arith
    cond_opens_few _ _ (fits_comparison room rel x y fit also) =
        let left = expr_opens_few room x fit in
        let right = expr_opens_few room y also in
        omega (arith, left, right)

    conds_open_few : (room : ℕ) (cs : CondTrees) → FitConds names room cs → conds_open cs ≤ room
    conds_open_few _ _ (fit_none room) = omega arith
    conds_open_few _ _ (fit_more room c cs fit fits) =
        let first = cond_opens_few room c fit in
        let others = conds_open_few room cs fits in
        omega (arith, first, others)

  -- ---- effects

  -- the head of an added fact is a declared predicate, which has no name of a form
  effect_fits : (d : Domain) (ps : List Param) (room : ℕ) (e : Effect) → HaveHeads names d.predicates → IsEffect d ps e → effect_opens e ≤ room → FitsEffect names room e
  effect_fits d ps zero (Add l) heads sound few = absurd (omega (arith, few))
  effect_fits d ps (suc room) (Add l) heads sound few = fits_addition room l (fact-head names d ps l heads sound)
  effect_fits d ps zero (Delete l) heads sound few = absurd (omega (arith, few))
  effect_fits d ps (suc zero) (Delete l) heads sound few = absurd (omega (arith, few))
  effect_fits d ps (suc (suc room)) (Delete l) heads sound few = fits_deletion room l
  effect_fits d ps zero (Number how l x) heads sound few = absurd (omega (arith, few))
  effect_fits d ps (suc zero) (Number how l x) heads sound few = absurd (omega (arith, few))
  effect_fits d ps (suc (suc room)) (Number how l x) heads sound few = fits_change room how l x (expr_fits (suc room) (expr_tree x) (omega (arith, few)))

  effect_opens_few : (room : ℕ) (e : Effect) → FitsEffect names room e → effect_opens e ≤ room
  effect_opens_few _ _ (fits_addition room l head) = omega arith
  effect_opens_few _ _ (fits_deletion room l) = omega arith
  effect_opens_few _ _ (fits_change room how l x fit) =
      let below = expr_opens_few (suc room) (expr_tree x) fit in
      omega (arith, below)

  -- ---- effects with their conditions, and for each choice

  effects_fit : (d : Domain) (ps : List Param) (room outer : ℕ) → outer + room ≡ deepest → HaveHeads names d.predicates → (es : List Effect) → All (IsEffect d ps) es → All (IsWritableEffect outer) es → All (FitsEffect names room) es
  effects_fit d ps room outer all heads es sound written = λ k e lt. effect_fits d ps room (get_or es k e) heads (sound k e lt) (let few : outer + effect_opens (get_or es k e) ≤ deepest = written k e lt in omega (arith, few, all))

  effects_written : (room outer : ℕ) → outer + room ≡ deepest → (es : List Effect) → All (FitsEffect names room) es → All (IsWritableEffect outer) es
  effects_written room outer all es fit = λ k e lt. omega (arith, effect_opens_few room (get_or es k e) (fit k e lt), all)

  -- effects with their condition, where these variables are in force
  guarded_fits : AreNames names → (d : Domain) (own : ℕ) (ps : List Param) (room outer : ℕ) → outer + suc (suc room) ≡ deepest → HaveHeads names d.predicates → (g : Guarded) → IsGuardedOf (length names) ps g → IsGuarded d own ps g → IsWritableGuarded names outer g
      → FitsGuarded names (suc (suc room)) g
  guarded_fits good d own ps room outer all heads (Plain e) known sound written = fits_plain (suc (suc room)) e (effect_fits d ps (suc (suc room)) e heads sound (omega (arith, written, all)))
  guarded_fits good d own ps room outer all heads (When c es) known sound written =
      fits_when room c es (cond_fits good ps [] (suc room) (cond_tree c) known.0 written.0.0 (let few : outer + 1 + cond_opens (cond_tree c) ≤ deepest = written.0.1 in omega (arith, few, all)))
      (effects_fit d ps room (outer + 2) (omega (arith, all)) heads es sound.1 written.1)

  guarded_written : (room outer : ℕ) (g : Guarded) → outer + room ≡ deepest → FitsGuarded names room g → IsWritableGuarded names outer g
  guarded_written _ outer _ all (fits_plain room e fit) = omega (arith, effect_opens_few room e fit, all)
  guarded_written _ outer _ all (fits_when room c es fit also) =
      ((cond_heads [] (suc room) (cond_tree c) fit, omega (arith, cond_opens_few (suc room) (cond_tree c) fit, all)), effects_written room (outer + 2) (omega (arith, all)) es also)

  -- what stands in a list of effects
  pub spread_fits : AreNames names → (d : Domain) (ps : List Param) (room outer : ℕ) → outer + suc (suc (suc (suc room))) ≡ deepest → HaveHeads names d.predicates → (s : Spread) → IsSpreadOf (length names) ps s → IsSpread d ps s → IsWritableSpread names outer s
      → FitsSpread names (suc (suc (suc (suc room)))) s
  spread_fits good d ps room outer all heads (Once g) known sound written = fits_once (suc (suc (suc (suc room)))) g (guarded_fits good d (length ps) ps (suc (suc room)) outer all heads g known sound written)
  spread_fits good d ps room outer all heads (ForAll qs gs) known sound written =
      fits_for_each (suc (suc room)) qs gs (params_fit good qs known.0 written.0)
      (λ k g lt. guarded_fits good d (length ps) (ps ++ qs) room (outer + 2) (omega (arith, all)) heads (get_or gs k g) (known.1 k g lt) (sound.1 k g lt) (written.1 k g lt))

  pub spread_written : (room outer : ℕ) (s : Spread) → outer + room ≡ deepest → FitsSpread names room s → IsWritableSpread names outer s
  spread_written _ outer _ all (fits_once room g fit) = guarded_written room outer g all fit
  spread_written _ outer _ all (fits_for_each room qs gs free fit) = (params_written qs free, λ k g lt. guarded_written room (outer + 2) (get_or gs k g) (omega (arith, all)) (fit k g lt))
