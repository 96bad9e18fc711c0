-- A domain that can be written fits the grammar, and one that is read can be written.
use Rattle.std.proofs.Common.{List, [], length, get_or, refl, arith}
use Rattle.std.specs.List.{All}
use Rattle.std.proofs.lemmas.List.Elements.{All-weaker}
use Rattle.ps_world.specs.Names.{Table}
use Rattle.ps_world.specs.Trees.{CondTree}
use Rattle.ps_world.specs.ExprViews.{expr_tree}
use Rattle.ps_world.specs.declared.actions.Spread.{Spread}
use Rattle.ps_world.specs.declared.actions.ActionDef.{ActionDef}
use Rattle.ps_world.specs.declared.domains.Param.{Param}
use Rattle.ps_world.specs.declared.domains.Decl.{Decl}
use Rattle.ps_world.specs.declared.domains.Domain.{Domain}
use Rattle.ps_text.specs.Names.{AreNames}
use Rattle.ps_print.specs.CanonicalWords.{IsActionOf, IsCondOf, IsDeclOf, IsDomainOf, IsSpreadOf}
use Rattle.ps_pddl.specs.WellFormed.{IsAction, IsSpread, IsWellFormed}
use Rattle.ps_pddl.proofs.Fits.{FitParams, FitsAction, FitsCond, FitsDomain, FitsPredicate, FitsSpread}
use Rattle.ps_pddl.proofs.MeanConditions.{HaveHeads}
use Rattle.ps_reading_laws.specs.Writable.{AreParamNames, IsWritableAction, IsWritableCond, IsWritableDomain, IsWritablePredicate, IsWritableSpread}
use Rattle.ps_reading_laws.proofs.WritableParts.{cond_fits, cond_heads, cond_opens_few, expr_fits, expr_opens_few, params_fit, params_written, spread_fits, spread_written}

-- what follows, for each element, from two facts or from three
each_by_two : {X : Type 0} (P Q R : X → Type 0) → ((x : X) → P x → Q x → R x) → (xs : List X) → All P xs → All Q xs → All R xs
each_by_two P Q R f xs p q = λ k d lt. f (get_or xs k d) (p k d lt) (q k d lt)

each_by_three : {X : Type 0} (P Q R S : X → Type 0) → ((x : X) → P x → Q x → R x → S x) → (xs : List X) → All P xs → All Q xs → All R xs → All S xs
each_by_three P Q R S f xs p q r = λ k d lt. f (get_or xs k d) (p k d lt) (q k d lt) (r k d lt)

module _ (names : Table) where
  -- ---- actions

  conds_fit : AreNames names → (ps : List Param) (cs : List CondTree) → All (IsCondOf (length names) ps) cs → All (IsWritableCond names 4) cs → All (FitsCond names 60) cs
  conds_fit good ps = each_by_two (IsCondOf (length names) ps) (IsWritableCond names 4) (FitsCond names 60) (λ c known written. cond_fits names good ps [] 60 c known written.0 (omega (arith, written.1)))

  conds_written : (cs : List CondTree) → All (FitsCond names 60) cs → All (IsWritableCond names 4) cs
  conds_written = All-weaker (FitsCond names 60) (IsWritableCond names 4) (λ c fit. (cond_heads names [] 60 c fit, omega (arith, cond_opens_few names 60 c fit)))

  effects_fit : AreNames names → (d : Domain) (ps : List Param) → HaveHeads names d.predicates → (es : List Spread) → All (IsSpreadOf (length names) ps) es → All (IsSpread d ps) es → All (IsWritableSpread names 4) es → All (FitsSpread names 60) es
  effects_fit good d ps heads = each_by_three (IsSpreadOf (length names) ps) (IsSpread d ps) (IsWritableSpread names 4) (FitsSpread names 60) (λ e known sound written. spread_fits names good d ps 56 4 refl heads e known sound written)

  effects_written : (es : List Spread) → All (FitsSpread names 60) es → All (IsWritableSpread names 4) es
  effects_written = All-weaker (FitsSpread names 60) (IsWritableSpread names 4) (λ e fit. spread_written names 60 4 e refl fit)

  action_fits : AreNames names → (d : Domain) → HaveHeads names d.predicates → (a : ActionDef) → IsActionOf (length names) a → IsAction d a → IsWritableAction names a → FitsAction names a
  action_fits good d heads a known sound written = record {
    params = params_fit names good a.params known.params written.params;
    duration = expr_fits 61 (expr_tree a.duration) (omega (arith, written.duration));
    start = conds_fit good a.params a.conditions.at_start known.conditions_at_start written.start;
    over = conds_fit good a.params a.conditions.over_all known.conditions_over_all written.over;
    end = conds_fit good a.params a.conditions.at_end known.conditions_at_end written.end;
    at_start = effects_fit good d a.params heads a.effects.at_start known.effects_at_start sound.at_start written.at_start;
    at_end = effects_fit good d a.params heads a.effects.at_end known.effects_at_end sound.at_end written.at_end;
  }

  action_written : (a : ActionDef) → FitsAction names a → IsWritableAction names a
  action_written a fit = record {
    params = params_written names a.params fit.params;
    duration = omega (arith, expr_opens_few 61 (expr_tree a.duration) fit.duration);
    start = conds_written a.conditions.at_start fit.start;
    over = conds_written a.conditions.over_all fit.over;
    end = conds_written a.conditions.at_end fit.end;
    at_start = effects_written a.effects.at_start fit.at_start;
    at_end = effects_written a.effects.at_end fit.at_end;
  }

  -- ---- domains

  decl_fits : AreNames names → (decl : Decl) → IsDeclOf (length names) decl → IsWritablePredicate names decl → FitsPredicate names decl
  decl_fits good decl known written = record { head = written.name; params = params_fit names good decl.params known.1 written.params }

  -- a well-formed domain that can be written fits the grammar
  pub writable_fits : AreNames names → (d : Domain) → IsWellFormed d → IsWritableDomain names d → FitsDomain names d
  writable_fits good d sound written =
      let heads : HaveHeads names d.predicates = All-weaker (IsWritablePredicate names) _ (λ decl one. one.name) d.predicates written.predicates in
      record {
        predicates = each_by_two (IsDeclOf (length names)) (IsWritablePredicate names) (FitsPredicate names) (decl_fits good) d.predicates written.known.predicates written.predicates;
        functions = each_by_two (IsDeclOf (length names)) (λ decl. AreParamNames names decl.params) (λ decl. FitParams names decl.params) (λ decl known. params_fit names good decl.params known.1) d.functions written.known.functions written.functions;
        actions = each_by_three (IsActionOf (length names)) (IsAction d) (IsWritableAction names) (FitsAction names) (action_fits good d heads) d.actions written.known.actions sound.actions written.actions;
      }

  -- a domain whose names stand in the table and that fits the grammar can be written
  pub fitting_written : (d : Domain) → IsDomainOf (length names) d → FitsDomain names d → IsWritableDomain names d
  fitting_written d known fit = record {
    known = known;
    predicates = All-weaker (FitsPredicate names) (IsWritablePredicate names) (λ decl one. record { name = one.head; params = params_written names decl.params one.params }) d.predicates fit.predicates;
    functions = All-weaker (λ decl. FitParams names decl.params) (λ decl. AreParamNames names decl.params) (λ decl. params_written names decl.params) d.functions fit.functions;
    actions = All-weaker (FitsAction names) (IsWritableAction names) action_written d.actions fit.actions;
  }
