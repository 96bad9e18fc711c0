-- Actions that are read: their names stand in the table, and they have as few levels as their lists.
use Rattle.std.proofs.Common.{◌≡◌, nat_le, pos, ℕ, ◌<◌, ◌≤◌, false, true, All, List, [], ◌∷◌, ◌++◌, length, Option, Some, None, Ok, refl, sym, ap, subst, ◌∙◌, arith}
use Rattle.std.specs.List.{list_any}
use Rattle.std.proofs.lemmas.List.Elements.{All-nil, All-push, All-weaker}
use Rattle.ps_world.specs.ExprViews.{expr_tree}
use Rattle.ps_world.specs.Names.{same_name, Table}
use Rattle.ps_world.specs.Trees.{CondTree}
use Rattle.ps_world.specs.declared.names.Name.{Name}
use Rattle.ps_world.specs.declared.domains.Param.{Param}
use Rattle.ps_world.specs.declared.domains.Domain.{Domain}
use Rattle.ps_world.specs.declared.actions.ActionDef.{ActionDef}
use Rattle.ps_world.specs.declared.actions.Spread.{Spread}
use Rattle.ps_world.specs.declared.expressions.Expr.{Expr}
use Rattle.ps_grammar.specs.Marks.{is, is_name}
use Rattle.ps_grammar.specs.declared.marks.Mark.{Mark}
use Rattle.ps_grammar.specs.declared.marks.Mark.TheVariants as mark
use Rattle.ps_lists.specs.Grammar.{IsActionBody, IsActionEnd, IsConditionForm, IsDuration, IsEffectForm, IsValue}
use Rattle.ps_lists.specs.Grammar as grammar
use Rattle.ps_lists.specs.Nested.{Nested, Nesteds, word, group, none, more}
use Rattle.ps_lists.specs.Places as place
use Rattle.ps_lists.specs.Places.{at, items_at, word_of}
use Rattle.ps_print.specs.CanonicalWords.{IsActionOf, IsCondOf, IsSpreadOf}
use Rattle.ps_pddl.specs.Lists.{listed}
use Rattle.ps_pddl.specs.Meaning as meaning
use Rattle.ps_conditions.specs.Steps.{◌>>=◌}
use Rattle.ps_pddl.specs.Words.{value}
use Rattle.ps_world.specs.declared.actions.Effects.{Effects}
use Rattle.ps_pddl.specs.declared.meaning.lists.Listing.TheVariants.{Params}
use Rattle.ps_world.specs.declared.actions.Conditions.{Conditions}
use Rattle.ps_pddl.specs.declared.refusals.Cap.TheVariants as cap
use Rattle.ps_pddl.specs.declared.refusals.DomainRefusal.TheVariants.{Limit, Twice}
use Rattle.ps_pddl.proofs.Fits.{FitsAction, FitsCond, FitsSpread, fits_number}
use Rattle.ps_pddl.proofs.ReadConditions.{ArePartsHere, IsTreeHere, condition_form_here, expr_fits_more}
use Rattle.ps_pddl.proofs.ReadEffects.{AreChangesHere, IsSpreadHere, effect_form_here}
use Rattle.ps_pddl.proofs.ReadLists.{AreParamsHere, params_here}
use Rattle.ps_pddl.proofs.ReadMarks.{no_has, yes_has}
use Rattle.ps_pddl.proofs.ReadNames.{AllTold, AreTold}
use Rattle.ps_pddl.proofs.ReadValues.{IsValueHere, value_here}
use Rattle.ps_pddl.proofs.Sound.{Sound, Fits, also_sound, then_sound, unless_sound}
use Rattle.ps_pddl.proofs.MeanMarks.{isnt-by}

-- ---- what follows a keyword

after_no : (m : Mark) (t : Nested) (ts : Nesteds) → is m (word_of t).mark ≡ false → place.after m (more t ts) ≡ place.after m ts
after_no m t ts e = no_has (λ x. x ≡ place.after m ts) (is m (word_of t).mark) ts (place.after m ts) e refl

after_yes : (m : Mark) (t : Nested) (ts : Nesteds) → is m (word_of t).mark ≡ true → place.after m (more t ts) ≡ ts
after_yes m t ts e = yes_has (λ x. x ≡ ts) (is m (word_of t).mark) ts (place.after m ts) e refl

-- a form is no word
condition_form_closed : (room : ℕ) (t : Nested) → IsConditionForm room t → (word_of t).mark ≡ mark.Close
condition_form_closed _ _ (grammar.empty_condition room) = refl
condition_form_closed _ _ (grammar.listed_condition room l ts m all) = refl
condition_form_closed _ _ (grammar.lone_condition room _ (grammar.at_moment _ l m c first moment one)) = refl
condition_form_closed _ _ (grammar.lone_condition room _ (grammar.over_all _ l m c first moment one)) = refl

effect_form_closed : (room : ℕ) (t : Nested) → IsEffectForm room t → (word_of t).mark ≡ mark.Close
effect_form_closed _ _ (grammar.empty_effect room) = refl
effect_form_closed _ _ (grammar.listed_effect room l ts m all) = refl
effect_form_closed _ _ (grammar.lone_effect room _ (grammar.effect_at _ l m e first moment one)) = refl

duration_closed : (room : ℕ) (t : Nested) → IsDuration room t → (word_of t).mark ≡ mark.Close
duration_closed _ _ (grammar.duration room l m x equal asked v) = refl

module _ (after : Table) (first : 0 < length after) (d : Domain) where
  -- ---- the places of an action

  -- a value with few enough levels, a condition's form and an effect's form
  abbrev IsTimeThere : Nested → Type 0
  IsTimeThere t = (room : ℕ) × (room ≤ 61) × IsValue room t × AllTold after t

  abbrev IsConditionThere : Nested → Type 0
  IsConditionThere t = (room : ℕ) × (room ≤ 62) × IsConditionForm room t × AllTold after t

  abbrev IsEffectThere : Nested → Type 0
  IsEffectThere t = (room : ℕ) × (room ≤ 62) × IsEffectForm room t × AllTold after t

  time_place : (room : ℕ) (x : Nested) (rest : Nesteds) → IsDuration room x → room ≤ 62 → AllTold after x → Fits IsTimeThere (at (items_at (more x rest)) 2)
  time_place _ _ rest (grammar.duration room l m x equal asked v) le h = (room, omega (arith, le), v, h.1.1.0)

  condition_place : (room : ℕ) (ts : Nesteds) → IsActionEnd room ts → room ≤ 62 → AreTold after ts → Fits IsConditionThere (at (place.after mark.ConditionKey ts) 0)
  condition_place _ _ (grammar.neither room) le h = tt
  condition_place _ _ (grammar.condition_only room k c key one) le h =
      let found = after_yes mark.ConditionKey (word k) (more c none) (ap (is mark.ConditionKey) key) in
      subst (λ (x : Nesteds). Fits IsConditionThere (at x 0)) (sym found) (room, le, one, h.1.0)
  condition_place _ _ (grammar.effect_only room k e key one) le h =
      let found = after_no mark.ConditionKey (word k) (more e none) (ap (is mark.ConditionKey) key) ∙ after_no mark.ConditionKey e none (ap (is mark.ConditionKey) (effect_form_closed room e one)) in
      subst (λ (x : Nesteds). Fits IsConditionThere (at x 0)) (sym found) tt
  condition_place _ _ (grammar.both room k m c e key one other two) le h =
      let found = after_yes mark.ConditionKey (word k) (more c (more (word m) (more e none))) (ap (is mark.ConditionKey) key) in
      subst (λ (x : Nesteds). Fits IsConditionThere (at x 0)) (sym found) (room, le, one, h.1.0)

  effect_place : (room : ℕ) (ts : Nesteds) → IsActionEnd room ts → room ≤ 62 → AreTold after ts → Fits IsEffectThere (at (place.after mark.EffectKey ts) 0)
  effect_place _ _ (grammar.neither room) le h = tt
  effect_place _ _ (grammar.condition_only room k c key one) le h =
      let found = after_no mark.EffectKey (word k) (more c none) (ap (is mark.EffectKey) key) ∙ after_no mark.EffectKey c none (ap (is mark.EffectKey) (condition_form_closed room c one)) in
      subst (λ (x : Nesteds). Fits IsEffectThere (at x 0)) (sym found) tt
  effect_place _ _ (grammar.effect_only room k e key one) le h =
      let found = after_yes mark.EffectKey (word k) (more e none) (ap (is mark.EffectKey) key) in
      subst (λ (x : Nesteds). Fits IsEffectThere (at x 0)) (sym found) (room, le, one, h.1.0)
  effect_place _ _ (grammar.both room k m c e key one other two) le h =
      let found = after_no mark.EffectKey (word k) (more c (more (word m) (more e none))) (ap (is mark.EffectKey) key)
      ∙ after_no mark.EffectKey c (more (word m) (more e none)) (ap (is mark.EffectKey) (condition_form_closed room c one))
      ∙ after_yes mark.EffectKey (word m) (more e none) (ap (is mark.EffectKey) other) in
      subst (λ (x : Nesteds). Fits IsEffectThere (at x 0)) (sym found) (room, le, two, h.1.1.1.0)

  -- ---- an action

  duration_here : (ps : List Param) (o : Option Nested) → Fits IsTimeThere o → Sound (IsValueHere after first d ps 61) (meaning.duration d ps o)
  duration_here ps None h = (omega arith, fits_number 61 (pos 0))
  duration_here ps (Some x) h =
      also_sound (IsValueHere after first d ps h.0) (IsValueHere after first d ps 61) (value d ps x) (value_here after first d ps h.0 x h.2 h.3)
      (λ e p. (p.0, expr_fits_more h.0 61 (expr_tree e) p.1 h.1))

  parts_here : (ps : List Param) (params : AreParamsHere after first ps) (o : Option Nested) → Fits IsConditionThere o → Sound (ArePartsHere after first d ps params 60) (meaning.parts d ps o)
  parts_here ps params None h = (All-nil _, All-nil _, All-nil _)
  parts_here ps params (Some t) h = condition_form_here after first d ps params 60 h.0 t (record { at_start = []; over_all = []; at_end = [] }) h.2 (omega (arith, h.1)) h.3 (All-nil _, All-nil _, All-nil _)

  changes_here : (ps : List Param) (params : AreParamsHere after first ps) (o : Option Nested) → Fits IsEffectThere o → Sound (AreChangesHere after first d ps params 60) (meaning.changes d ps o)
  changes_here ps params None h = (All-nil _, All-nil _)
  changes_here ps params (Some t) h = effect_form_here after first d ps params 60 h.0 t (record { at_start = []; at_end = [] }) h.2 (omega (arith, h.1)) h.3 (All-nil _, All-nil _)

  -- an action of what is there, with few enough levels
  abbrev pub IsActionHere : ActionDef → Type 0
  IsActionHere a = IsActionOf (length after) a × FitsAction after a

  body_here : (n : Name) (ps : List Param) (ts : Nesteds) → n.0 < length after → AreParamsHere after first ps → Fits IsTimeThere (at (items_at (place.after mark.DurationKey ts)) 2) → Fits IsConditionThere (at (place.after mark.ConditionKey ts) 0) → Fits IsEffectThere (at (place.after mark.EffectKey ts) 0) → Sound IsActionHere (meaning.action_body d n ps ts)
  body_here n ps ts lt params time_form condition_form effect_form =
      let made : Expr → Conditions → Effects → ActionDef = λ time holds does. record {
        name = n;
        params = ps;
        duration = time;
        conditions = holds;
        effects = does;
      } in
      let time = at (items_at (place.after mark.DurationKey ts)) 2 in
      let form = at (place.after mark.ConditionKey ts) 0 in
      let change = at (place.after mark.EffectKey ts) 0 in
      let IsTree = IsTreeHere after first d ps 60 in
      let IsCond : CondTree → Type 0 = λ c. IsCondOf (length after) ps c in
      let IsLow : CondTree → Type 0 = λ c. FitsCond after 60 c in
      let IsDone = IsSpreadHere after first d ps params 60 in
      let IsAct : Spread → Type 0 = λ s. IsSpreadOf (length after) ps s in
      let IsShort : Spread → Type 0 = λ s. FitsSpread after 60 s in
      then_sound (IsValueHere after first d ps 61) IsActionHere (meaning.duration d ps time) (λ x. meaning.parts d ps form >>= λ y. meaning.changes d ps change >>= λ z. Ok (made x y z)) (duration_here ps time time_form)
      (λ x one. then_sound (ArePartsHere after first d ps params 60) IsActionHere (meaning.parts d ps form) (λ y. meaning.changes d ps change >>= λ z. Ok (made x y z)) (parts_here ps params form condition_form)
      (λ y two. then_sound (AreChangesHere after first d ps params 60) IsActionHere (meaning.changes d ps change) (λ z. Ok (made x y z)) (changes_here ps params change effect_form)
      (λ z three. (
        record {
          name = lt;
          params = params.0;
          duration = one.0;
          conditions_at_start = All-weaker IsTree IsCond (λ c p. p.0) y.at_start two.0;
          conditions_over_all = All-weaker IsTree IsCond (λ c p. p.0) y.over_all two.1;
          conditions_at_end = All-weaker IsTree IsCond (λ c p. p.0) y.at_end two.2;
          effects_at_start = All-weaker IsDone IsAct (λ e p. p.0) z.at_start three.0;
          effects_at_end = All-weaker IsDone IsAct (λ e p. p.0) z.at_end three.1;
        },
        record {
          params = params.1;
          duration = one.1;
          start = All-weaker IsTree IsLow (λ c p. p.1) y.at_start two.0;
          over = All-weaker IsTree IsLow (λ c p. p.1) y.over_all two.1;
          end = All-weaker IsTree IsLow (λ c p. p.1) y.at_end two.2;
          at_start = All-weaker IsDone IsShort (λ e p. p.1) z.at_start three.0;
          at_end = All-weaker IsDone IsShort (λ e p. p.1) z.at_end three.1;
        },
      ))))

  pub action_here : (room : ℕ) (ts : Nesteds) (before : List ActionDef) → IsActionBody room ts → room ≤ 62 → AreTold after ts → All IsActionHere before → Sound (All IsActionHere) (meaning.action d ts before)
  action_here _ _ before (grammar.action_body room n p k ps rest x name parameters typed key time end) le h all =
      let four = more (word k) (more x rest) in
      let three = more (group ps) four in
      let two = more (word p) three in
      let ts = more (word n) two in
      let params_at : place.after mark.Parameters ts ≡ three =
      after_no mark.Parameters (word n) two (isnt-by is_name mark.Parameters n.mark name refl) ∙ after_yes mark.Parameters (word p) three (ap (is mark.Parameters) parameters) in
      let time_at : place.after mark.DurationKey ts ≡ more x rest =
      after_no mark.DurationKey (word n) two (isnt-by is_name mark.DurationKey n.mark name refl) ∙ after_no mark.DurationKey (word p) three (ap (is mark.DurationKey) parameters)
      ∙ after_yes mark.DurationKey (word k) (more x rest) (ap (is mark.DurationKey) key) in
      let condition_at : place.after mark.ConditionKey ts ≡ place.after mark.ConditionKey rest =
      after_no mark.ConditionKey (word n) two (isnt-by is_name mark.ConditionKey n.mark name refl) ∙ after_no mark.ConditionKey (word p) three (ap (is mark.ConditionKey) parameters)
      ∙ after_no mark.ConditionKey (word k) (more x rest) (ap (is mark.ConditionKey) key) ∙ after_no mark.ConditionKey x rest (ap (is mark.ConditionKey) (duration_closed room x time)) in
      let effect_at : place.after mark.EffectKey ts ≡ place.after mark.EffectKey rest =
      after_no mark.EffectKey (word n) two (isnt-by is_name mark.EffectKey n.mark name refl) ∙ after_no mark.EffectKey (word p) three (ap (is mark.EffectKey) parameters)
      ∙ after_no mark.EffectKey (word k) (more x rest) (ap (is mark.EffectKey) key) ∙ after_no mark.EffectKey x rest (ap (is mark.EffectKey) (duration_closed room x time)) in
      let end_told : AreTold after rest = h.1.1.1.1.1 in
      unless_sound (All IsActionHere) (nat_le 256 (length before)) (list_any (λ action. same_name n.name action.name) before) (Limit n.at cap.Actions) (Twice n.at n.name)
      (listed d Params (items_at (place.after mark.Parameters ts)) [] >>= λ y. meaning.action_body d n.name y ts >>= λ a. Ok (before ++ a ∷ []))
      (λ few new. then_sound (AreParamsHere after first) (All IsActionHere) (listed d Params (items_at (place.after mark.Parameters ts)) []) (λ y. meaning.action_body d n.name y ts >>= λ a. Ok (before ++ a ∷ []))
      (subst (λ (z : Nesteds). Sound (AreParamsHere after first) (listed d Params (items_at z) [])) (sym params_at) (params_here after first d ps typed h.1.1.0))
      (λ y params. then_sound IsActionHere (All IsActionHere) (meaning.action_body d n.name y ts) (λ a. Ok (before ++ a ∷ []))
      (body_here n.name y ts h.0.below params
      (subst (λ (z : Nesteds). Fits IsTimeThere (at (items_at z) 2)) (sym time_at) (time_place room x rest time le h.1.1.1.1.0))
      (subst (λ (z : Nesteds). Fits IsConditionThere (at z 0)) (sym condition_at) (condition_place room rest end le end_told))
      (subst (λ (z : Nesteds). Fits IsEffectThere (at z 0)) (sym effect_at) (effect_place room rest end le end_told)))
      (λ a p. All-push IsActionHere before a all p)))
