-- The words of declarations and actions mean them.
use Rattle.std.proofs.Common.{◌≡◌, ◌≤◌, All, true, false, List, [], ◌∷◌, ◌++◌, length, Some, Ok, refl, sym, ap, ◌∙◌, append_assoc, append-nil}
use Rattle.std.specs.List.{list_any}
use Rattle.std.proofs.lemmas.List.Elements.{All-head, All-tail}
use Rattle.ps_world.specs.ExprViews.{expr_tree}
use Rattle.ps_world.specs.Names.{Table, same_name}
use Rattle.ps_world.specs.declared.domains.Param.{Param}
use Rattle.ps_world.specs.declared.domains.Decl.{Decl}
use Rattle.ps_world.specs.declared.domains.Domain.{Domain}
use Rattle.ps_world.specs.declared.actions.ActionDef.{ActionDef}
use Rattle.ps_grammar.specs.Marks.{is, is_name}
use Rattle.ps_grammar.specs.declared.marks.Mark.TheVariants as mark
use Rattle.ps_lists.specs.Nested.{Nested, Nesteds, word, group, none, more}
use Rattle.ps_lists.specs.Places.{after, at, head, items, items_at, rest}
use Rattle.ps_lists.specs.declared.lexemes.Lexeme.{Lexeme}
use Rattle.ps_pddl.specs.Conditions as part
use Rattle.ps_pddl.specs.Effects as effect
use Rattle.ps_pddl.specs.Lists.{listed}
use Rattle.ps_pddl.specs.Meaning as meaning
use Rattle.ps_pddl.specs.Words.{value}
use Rattle.ps_pddl.specs.WellFormed.{AreApart, AreTyped, IsAction}
use Rattle.ps_world.specs.declared.actions.Effects.{Effects}
use Rattle.ps_pddl.specs.declared.meaning.lists.Listing.TheVariants.{Params}
use Rattle.ps_world.specs.declared.actions.Conditions.{Conditions}
use Rattle.ps_pddl.specs.declared.refusals.Cap.{Cap}
use Rattle.ps_pddl.specs.declared.refusals.Cap.TheVariants as cap
use Rattle.ps_pddl.proofs.CanonicalForms.{joined, IsNamed, AreForms, no_items, more_items, AreParamForms, IsDeclForm, decl_form, AreConditionParts, condition_parts, AreEffectParts, effect_parts, IsActionForm, action_form}
use Rattle.ps_pddl.proofs.MeanConditions.{HaveHeads, joined-none, starts-mean, overs-mean, ends-mean}
use Rattle.ps_pddl.proofs.MeanEffects.{start_effects-mean, end_effects-mean}
use Rattle.ps_pddl.proofs.MeanLists.{none_before, fault_of_new-none, room, params_listed, listed-means}
use Rattle.ps_pddl.proofs.MeanMarks.{name-isnt}
use Rattle.ps_pddl.proofs.MeanTerms.{TakeFew, named-is_name, value-means, untree-expr_tree}
use Rattle.ps_pddl.proofs.Sound.{whole}
use Rattle.ps_pddl.proofs.SoundTerms.{acting}

-- ---- declarations

module _ (names : Table) (d : Domain) (cs : List Param) (ps fs : List Decl) (acts : List ActionDef) where
  pub params-mean : (params : List Param) (ts : Nesteds) → AreTyped d 6 params → AreParamForms names params ts → listed (whole d cs ps fs acts) Params ts [] ≡ Ok params
  params-mean params ts h words = listed-means (whole d cs ps fs acts) Params params [] ts h.few h.apart h.kinds (params_listed names params ts words)

  declared-means : (which : Cap) (decl : Decl) (before others : List Decl) (l : Lexeme) (ts : Nesteds) → length (before ++ decl ∷ others) ≤ 256 → AreApart (λ decl. decl.name) (before ++ decl ∷ others) → AreTyped d 6 decl.params → IsNamed names decl.name l → AreParamForms names decl.params ts → meaning.declared (whole d cs ps fs acts) which (more (word l) ts) before ≡ Ok (before ++ decl ∷ [])
  declared-means which decl before others l ts few apart h w words =
      let new : list_any (λ decl. same_name l.name decl.name) before ≡ false = rw w.name (none_before (λ decl. decl.name) before decl others apart) in
      let free = fault_of_new-none which 256 (length before) (list_any (λ decl. same_name l.name decl.name) before) l (room before decl others 256 few) new in
      rw (free, params-mean decl.params ts h words, w.name) refl

  pub all_declared-mean : (which : Cap) (decls before : List Decl) (ts : Nesteds) → length (before ++ decls) ≤ 256 → AreApart (λ decl. decl.name) (before ++ decls) → All (λ decl. AreTyped d 6 decl.params) decls → AreForms (IsDeclForm names) decls ts → meaning.all_declared (whole d cs ps fs acts) which ts before ≡ Ok (before ++ decls)
  all_declared-mean which _ before _ few apart h no_items = rw append-nil refl
  all_declared-mean which _ before _ few apart h (more_items decl decls _ ts (decl_form _ l us w words) left) =
      let assoc = append_assoc before (decl ∷ []) decls in
      let first = declared-means which decl before decls l us few apart (All-head (λ decl. AreTyped d 6 decl.params) decl decls h) w words in
      let then_more = all_declared-mean which decls (before ++ decl ∷ []) ts (rw assoc few) (rw assoc apart) (All-tail (λ decl. AreTyped d 6 decl.params) decl decls h) left in
      rw (first, then_more, assoc) refl

-- ---- the places in an action

module _ (n p u e q c f g h : Lexeme) (ps cs es : Nesteds) (x : Nested) (name : is_name n.mark ≡ true) (parameters : p.mark ≡ mark.Parameters) (duration : u.mark ≡ mark.DurationKey) (condition_key : c.mark ≡ mark.ConditionKey) (effect_key : g.mark ≡ mark.EffectKey) where
  -- what follows the head of an action
  abbrev body : Nesteds
  body =
      more (word n) (more (word p) (more (group ps)
      (more (word u) (more (group (more (word e) (more (word q) (more x none))))
      (more (word c) (more (group (more (word f) cs))
      (more (word g) (more (group (more (word h) es)) none))))))))

  params_there : items_at (after mark.Parameters body) ≡ ps
  params_there = rw (name-isnt mark.Parameters n.mark name refl, parameters) refl

  duration_there : at (items_at (after mark.DurationKey body)) 2 ≡ Some x
  duration_there = rw (name-isnt mark.DurationKey n.mark name refl, parameters, duration) refl

  condition_there : at (after mark.ConditionKey body) 0 ≡ Some (group (more (word f) cs))
  condition_there = rw (name-isnt mark.ConditionKey n.mark name refl, parameters, duration, condition_key) refl

  effect_there : at (after mark.EffectKey body) 0 ≡ Some (group (more (word h) es))
  effect_there = rw (name-isnt mark.EffectKey n.mark name refl, parameters, duration, condition_key, effect_key) refl

-- ---- actions

action-head : (names : Table) (a : ActionDef) (t : Nested) → IsActionForm names a t → is mark.DurativeAction (head (items t)).mark ≡ true
action-head names _ _ (action_form a k n p u e q c f g i ps cs es x m w pm pw um em qm xw cm fm cw gm im ew) = rw m refl

module _ (names : Table) (d : Domain) (acts : List ActionDef) (predicates : TakeFew d.predicates) (functions : TakeFew d.functions) (heads : HaveHeads names d.predicates) where
  parts-mean : (a : ActionDef) (cs : Nesteds) → IsAction d a → AreConditionParts names a cs → part.all_timed (acting d acts) a.params cs (record { at_start = []; over_all = []; at_end = [] }) ≡ Ok (record { at_start = a.conditions.at_start; over_all = a.conditions.over_all; at_end = a.conditions.at_end })
  parts-mean a _ h (condition_parts starts overs ends s o e) =
      let first : Conditions = record { at_start = a.conditions.at_start; over_all = []; at_end = [] } in
      let second : Conditions = record { at_start = a.conditions.at_start; over_all = a.conditions.over_all; at_end = [] } in
      starts-mean names d acts a.params h.params.apart predicates functions heads a.conditions.at_start starts (joined overs ends) (record { at_start = []; over_all = []; at_end = [] }) h.start s
      ∙ (overs-mean names d acts a.params h.params.apart predicates functions heads a.conditions.over_all overs ends first h.over o
      ∙ (ap (λ ts. part.all_timed (acting d acts) a.params ts second) (sym (joined-none ends))
      ∙ ends-mean names d acts a.params h.params.apart predicates functions heads a.conditions.at_end ends none second h.end e))

  changes-mean : (a : ActionDef) (es : Nesteds) → IsAction d a → AreEffectParts names a es → effect.all_timed (acting d acts) a.params es (record { at_start = []; at_end = [] }) ≡ Ok (record { at_start = a.effects.at_start; at_end = a.effects.at_end })
  changes-mean a _ h (effect_parts starts ends s e) =
      let first : Effects = record { at_start = a.effects.at_start; at_end = [] } in
      start_effects-mean names d acts a.params h.params.apart predicates functions heads a.effects.at_start starts ends (record { at_start = []; at_end = [] }) h.at_start s
      ∙ (ap (λ ts. effect.all_timed (acting d acts) a.params ts first) (sym (joined-none ends))
      ∙ end_effects-mean names d acts a.params h.params.apart predicates functions heads a.effects.at_end ends none first h.at_end e)

  action-means : (a : ActionDef) (before others : List ActionDef) (t : Nested) → length (before ++ a ∷ others) ≤ 256 → AreApart (λ a. a.name) (before ++ a ∷ others) → IsAction d a → IsActionForm names a t → meaning.action (acting d acts) (rest (items t)) before ≡ Ok (before ++ a ∷ [])
  action-means a before others _ few apart h (action_form _ k n p u e q c f g i ps cs es x m w pm pw um em qm xw cm fm cw gm im ew) =
      let name = named-is_name names a.name n w in
      let new : list_any (λ a. same_name n.name a.name) before ≡ false = rw w.name (none_before (λ a. a.name) before a others apart) in
      let free = fault_of_new-none cap.Actions 256 (length before) (list_any (λ a. same_name n.name a.name) before) n (room before a others 256 few) new in
      let params = params-mean names d d.constants d.predicates d.functions acts a.params ps h.params pw in
      let time : value (acting d acts) a.params x ≡ Ok a.duration = rw (value-means names d acts a.params h.params.apart functions (expr_tree a.duration) x h.duration xw, untree-expr_tree a.duration) refl in
      let there = params_there n p u e q c f g i ps cs es x name pm um cm gm in
      let time_there = duration_there n p u e q c f g i ps cs es x name pm um cm gm in
      let parts_there = condition_there n p u e q c f g i ps cs es x name pm um cm gm in
      let parts : meaning.parts (acting d acts) a.params (Some (group (more (word f) cs))) ≡ Ok (record { at_start = a.conditions.at_start; over_all = a.conditions.over_all; at_end = a.conditions.at_end }) = rw (fm, parts-mean a cs h cw) refl in
      let changes_there = effect_there n p u e q c f g i ps cs es x name pm um cm gm in
      let changes : meaning.changes (acting d acts) a.params (Some (group (more (word i) es))) ≡ Ok (record { at_start = a.effects.at_start; at_end = a.effects.at_end }) = rw (im, changes-mean a es h ew) refl in
      rw (free, there, params, time_there, time, parts_there, parts, changes_there, changes, w.name) refl

  pub actions-mean : (all before : List ActionDef) (ts : Nesteds) → length (before ++ all) ≤ 256 → AreApart (λ a. a.name) (before ++ all) → All (IsAction d) all → AreForms (IsActionForm names) all ts → meaning.actions (acting d acts) ts before ≡ Ok (before ++ all)
  actions-mean _ before _ few apart h no_items = rw append-nil refl
  actions-mean _ before _ few apart h (more_items a all t ts words left) =
      let assoc = append_assoc before (a ∷ []) all in
      let first = action-means a before all t few apart (All-head (IsAction d) a all h) words in
      let then_more = actions-mean all (before ++ a ∷ []) ts (rw assoc few) (rw assoc apart) (All-tail (IsAction d) a all h) left in
      rw (action-head names a t words, first, then_more, assoc) refl
