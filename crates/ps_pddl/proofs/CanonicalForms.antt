-- The nested lists of a domain's canonical text, wherever its words stand.
use Rattle.std.proofs.Common.{◌≡◌, ℕ, ℤ, List, [], ◌∷◌, ◌++◌, slice_index_or}
use Rattle.ps_world.specs.Names.{Table, object, name_text}
use Rattle.ps_world.specs.Trees.{ExprTree, number, value_of, negated, operated, CondTree, CondTrees, all_of, any_of, no, implied, holds, same, compares, is_a, for_some, for_all}
use Rattle.ps_world.specs.Trees as tree
use Rattle.ps_world.specs.ExprViews.{expr_tree}
use Rattle.ps_world.specs.CondViews.{cond_tree}
use Rattle.ps_world.specs.declared.names.Name.{Name}
use Rattle.ps_world.specs.declared.schemas.Term.{Term}
use Rattle.ps_world.specs.declared.schemas.Term.TheVariants.{Var, Const}
use Rattle.ps_world.specs.declared.schemas.Lifted.{Lifted}
use Rattle.ps_world.specs.declared.expressions.Op.{Op}
use Rattle.ps_world.specs.declared.expressions.Op.TheVariants as op
use Rattle.ps_world.specs.declared.expressions.Expr.{Expr}
use Rattle.ps_world.specs.declared.conditions.Cond.{Cond}
use Rattle.ps_world.specs.declared.conditions.Rel.{Rel}
use Rattle.ps_world.specs.declared.conditions.Rel.TheVariants as rel
use Rattle.ps_world.specs.declared.actions.NumOp.{NumOp}
use Rattle.ps_world.specs.declared.actions.NumOp.TheVariants as num_op
use Rattle.ps_world.specs.declared.actions.Effect.{Effect}
use Rattle.ps_world.specs.declared.actions.Effect.TheVariants.{Add, Delete, Number}
use Rattle.ps_world.specs.declared.actions.Guarded.{Guarded}
use Rattle.ps_world.specs.declared.actions.Guarded.TheVariants.{Plain, When}
use Rattle.ps_world.specs.declared.actions.Spread.{Spread}
use Rattle.ps_world.specs.declared.actions.Spread.TheVariants.{Once, ForAll}
use Rattle.ps_world.specs.declared.actions.ActionDef.{ActionDef}
use Rattle.ps_world.specs.declared.domains.Param.{Param}
use Rattle.ps_world.specs.declared.domains.Decl.{Decl}
use Rattle.ps_world.specs.declared.domains.Domain.{Domain}
use Rattle.ps_text.specs.declared.lexing.Class.TheVariants as class
use Rattle.ps_grammar.specs.declared.marks.Mark.{Mark}
use Rattle.ps_grammar.specs.declared.marks.Mark.TheVariants as mark
use Rattle.ps_lists.specs.Lexemes.{mark_of}
use Rattle.ps_lists.specs.Nested.{Nested, Nesteds, word, group, none, more}
use Rattle.ps_lists.specs.declared.lexemes.Lexeme.{Lexeme}

-- ---- words

-- the mark of a name of the table
abbrev pub name_mark : Table → Name → Mark
name_mark names n = mark_of class.Name (name_text names n)

-- the word is this name
pub record IsNamed (names : Table) (n : Name) (l : Lexeme) : Type 0 where
  pub mark : l.mark ≡ name_mark names n
  pub name : l.name ≡ n

-- the word is a variable with this name
pub record IsVariable (n : Name) (l : Lexeme) : Type 0 where
  pub mark : l.mark ≡ mark.Variable
  pub name : l.name ≡ n

-- the name of a parameter by its place
abbrev pub param_name : List Param → ℕ → Name
param_name ps i = (slice_index_or ps i (record { name = object; kind = object })).name

-- the word is this term
abbrev pub IsTermWord : Table → List Param → Term → Lexeme → Type 0
IsTermWord names ps (Var i) l = IsVariable (param_name ps i) l
IsTermWord names ps (Const n) l = IsNamed names n l

-- the words are these terms
pub data AreTermForms (names : Table) (ps : List Param) : List Term → Nesteds → Type 0 where
  no_terms : AreTermForms names ps [] none
  more_terms : (t : Term) (ts : List Term) (l : Lexeme) (us : Nesteds) → IsTermWord names ps t l → AreTermForms names ps ts us → AreTermForms names ps (t ∷ ts) (more (word l) us)

-- (NAME TERM*)
pub data IsLiftedForm (names : Table) (ps : List Param) : Lifted → Nested → Type 0 where
  lifted : (f : Lifted) (l : Lexeme) (us : Nesteds) → IsNamed names f.head l → AreTermForms names ps f.terms us → IsLiftedForm names ps f (group (more (word l) us))

-- ---- values

abbrev pub op_mark : Op → Mark
op_mark op.Add = mark.Plus
op_mark op.Sub = mark.Minus
op_mark op.Mul = mark.Times
op_mark op.Div = mark.Divide

-- X
pub data IsExprForm (names : Table) (ps : List Param) : ExprTree → Nested → Type 0 where
  a_number : (n : ℤ) (l : Lexeme) → l.mark ≡ mark.Number → l.number ≡ n → IsExprForm names ps (number n) (word l)
  a_value : (f : Lifted) (t : Nested) → IsLiftedForm names ps f t → IsExprForm names ps (value_of f) t
  a_negation : (x : ExprTree) (l : Lexeme) (t : Nested) → l.mark ≡ mark.Minus → IsExprForm names ps x t → IsExprForm names ps (negated x) (group (more (word l) (more t none)))
  an_operation : (o : Op) (x y : ExprTree) (l : Lexeme) (t u : Nested) → l.mark ≡ op_mark o → IsExprForm names ps x t → IsExprForm names ps y u → IsExprForm names ps (operated o x y) (group (more (word l) (more t (more u none))))

-- ---- lists of names

-- names, each with - and its type
pub data AreTypedForms (names : Table) : List Param → Nesteds → Type 0 where
  no_typed : AreTypedForms names [] none
  more_typed : (p : Param) (ps : List Param) (l m k : Lexeme) (ts : Nesteds) → IsNamed names p.name l → m.mark ≡ mark.Minus → IsNamed names p.kind k → AreTypedForms names ps ts → AreTypedForms names (p ∷ ps) (more (word l) (more (word m) (more (word k) ts)))

-- the same of variables
pub data AreParamForms (names : Table) : List Param → Nesteds → Type 0 where
  no_params : AreParamForms names [] none
  more_params : (p : Param) (ps : List Param) (l m k : Lexeme) (ts : Nesteds) → IsVariable p.name l → m.mark ≡ mark.Minus → IsNamed names p.kind k → AreParamForms names ps ts → AreParamForms names (p ∷ ps) (more (word l) (more (word m) (more (word k) ts)))

-- ---- conditions

abbrev pub rel_mark : Rel → Mark
rel_mark rel.Lt = mark.Less
rel_mark rel.Le = mark.LessEqual
rel_mark rel.Eq = mark.Equal
rel_mark rel.Ge = mark.GreaterEqual
rel_mark rel.Gt = mark.Greater

mutual
  -- C, where these variables are in force
  pub data IsCondForm (names : Table) : List Param → CondTree → Nested → Type 0 where
    all_form : (ps : List Param) (cs : CondTrees) (l : Lexeme) (ts : Nesteds) → l.mark ≡ mark.And → AreCondForms names ps cs ts → IsCondForm names ps (all_of cs) (group (more (word l) ts))
    any_form : (ps : List Param) (cs : CondTrees) (l : Lexeme) (ts : Nesteds) → l.mark ≡ mark.Or → AreCondForms names ps cs ts → IsCondForm names ps (any_of cs) (group (more (word l) ts))
    not_form : (ps : List Param) (c : CondTree) (l : Lexeme) (t : Nested) → l.mark ≡ mark.Not → IsCondForm names ps c t → IsCondForm names ps (no c) (group (more (word l) (more t none)))
    imply_form : (ps : List Param) (a b : CondTree) (l : Lexeme) (t u : Nested) → l.mark ≡ mark.Imply → IsCondForm names ps a t → IsCondForm names ps b u → IsCondForm names ps (implied a b) (group (more (word l) (more t (more u none))))
    fact_form : (ps : List Param) (f : Lifted) (t : Nested) → IsLiftedForm names ps f t → IsCondForm names ps (holds f) t
    same_form : (ps : List Param) (a b : Term) (l m n : Lexeme) → l.mark ≡ mark.Equal → IsTermWord names ps a m → IsTermWord names ps b n → IsCondForm names ps (same a b) (group (more (word l) (more (word m) (more (word n) none))))
    comparison_form : (ps : List Param) (r : Rel) (x y : ExprTree) (l : Lexeme) (t u : Nested) → l.mark ≡ rel_mark r → IsExprForm names ps x t → IsExprForm names ps y u → IsCondForm names ps (compares r x y) (group (more (word l) (more t (more u none))))
    some_form : (ps qs : List Param) (c : CondTree) (l : Lexeme) (vs : Nesteds) (t : Nested) → l.mark ≡ mark.Exists → AreParamForms names qs vs → IsCondForm names (ps ++ qs) c t → IsCondForm names ps (for_some qs c) (group (more (word l) (more (group vs) (more t none))))
    each_form : (ps qs : List Param) (c : CondTree) (l : Lexeme) (vs : Nesteds) (t : Nested) → l.mark ≡ mark.Forall → AreParamForms names qs vs → IsCondForm names (ps ++ qs) c t → IsCondForm names ps (for_all qs c) (group (more (word l) (more (group vs) (more t none))))

  -- C*
  pub data AreCondForms (names : Table) : List Param → CondTrees → Nesteds → Type 0 where
    no_forms : (ps : List Param) → AreCondForms names ps tree.none none
    more_forms : (ps : List Param) (c : CondTree) (cs : CondTrees) (t : Nested) (ts : Nesteds) → IsCondForm names ps c t → AreCondForms names ps cs ts → AreCondForms names ps (tree.more c cs) (more t ts)

-- a form after two words with these marks
pub data IsTimed (first second : Mark) (P : Nested → Type 0) : Nested → Type 0 where
  timed : (l m : Lexeme) (t : Nested) → l.mark ≡ first → m.mark ≡ second → P t → IsTimed first second P (group (more (word l) (more (word m) (more t none))))

-- forms, one for each of these
pub data AreForms {A : Type 0} (P : A → Nested → Type 0) : List A → Nesteds → Type 0 where
  no_items : AreForms P [] none
  more_items : (a : A) (rest : List A) (t : Nested) (ts : Nesteds) → P a t → AreForms P rest ts → AreForms P (a ∷ rest) (more t ts)

-- lists, one after another
abbrev pub joined : Nesteds → Nesteds → Nesteds
joined none us = us
joined (more t ts) us = more t (joined ts us)

-- the conditions that have to hold at the start, over all, or at the end
abbrev pub IsStartCond : Table → List Param → CondTree → Nested → Type 0
IsStartCond names ps c = IsTimed mark.At mark.Start (IsCondForm names ps c)

abbrev pub IsOverCond : Table → List Param → CondTree → Nested → Type 0
IsOverCond names ps c = IsTimed mark.Over mark.All (IsCondForm names ps c)

abbrev pub IsEndCond : Table → List Param → CondTree → Nested → Type 0
IsEndCond names ps c = IsTimed mark.At mark.End (IsCondForm names ps c)

-- the parts of an action's condition, in order
pub data AreConditionParts (names : Table) (a : ActionDef) : Nesteds → Type 0 where
  condition_parts : (starts overs ends : Nesteds) → AreForms (IsStartCond names a.params) a.conditions.at_start starts → AreForms (IsOverCond names a.params) a.conditions.over_all overs → AreForms (IsEndCond names a.params) a.conditions.at_end ends → AreConditionParts names a (joined starts (joined overs ends))

-- ---- effects

abbrev pub num_op_mark : NumOp → Mark
num_op_mark num_op.Assign = mark.Assign
num_op_mark num_op.Increase = mark.Increase
num_op_mark num_op.Decrease = mark.Decrease
num_op_mark num_op.ScaleUp = mark.ScaleUp
num_op_mark num_op.ScaleDown = mark.ScaleDown

-- (NAME TERM*) | (not (NAME TERM*)) | (NOP (NAME TERM*) X)
pub data IsEffectForm (names : Table) (ps : List Param) : Effect → Nested → Type 0 where
  an_addition : (f : Lifted) (t : Nested) → IsLiftedForm names ps f t → IsEffectForm names ps (Add f) t
  a_deletion : (f : Lifted) (l : Lexeme) (t : Nested) → l.mark ≡ mark.Not → IsLiftedForm names ps f t → IsEffectForm names ps (Delete f) (group (more (word l) (more t none)))
  a_change : (how : NumOp) (f : Lifted) (x : Expr) (l : Lexeme) (t u : Nested) → l.mark ≡ num_op_mark how → IsLiftedForm names ps f t → IsExprForm names ps (expr_tree x) u → IsEffectForm names ps (Number how f x) (group (more (word l) (more t (more u none))))

-- the same, or (when C (and G*))
pub data IsGuardedForm (names : Table) (ps : List Param) : Guarded → Nested → Type 0 where
  plain_form : (e : Effect) (t : Nested) → IsEffectForm names ps e t → IsGuardedForm names ps (Plain e) t
  when_form : (c : Cond) (es : List Effect) (l m : Lexeme) (t : Nested) (ts : Nesteds) → l.mark ≡ mark.When → IsCondForm names ps (cond_tree c) t → m.mark ≡ mark.And → AreForms (IsEffectForm names ps) es ts
      → IsGuardedForm names ps (When c es) (group (more (word l) (more t (more (group (more (word m) ts)) none))))

-- the same, or (forall (VLIST) (and W*))
pub data IsSpreadForm (names : Table) (ps : List Param) : Spread → Nested → Type 0 where
  once_form : (g : Guarded) (t : Nested) → IsGuardedForm names ps g t → IsSpreadForm names ps (Once g) t
  spread_form : (qs : List Param) (gs : List Guarded) (l m : Lexeme) (vs ts : Nesteds) → l.mark ≡ mark.Forall → AreParamForms names qs vs → m.mark ≡ mark.And → AreForms (IsGuardedForm names (ps ++ qs)) gs ts
      → IsSpreadForm names ps (ForAll qs gs) (group (more (word l) (more (group vs) (more (group (more (word m) ts)) none))))

-- the effects at the start, or at the end
abbrev pub IsStartEffect : Table → List Param → Spread → Nested → Type 0
IsStartEffect names ps s = IsTimed mark.At mark.Start (IsSpreadForm names ps s)

abbrev pub IsEndEffect : Table → List Param → Spread → Nested → Type 0
IsEndEffect names ps s = IsTimed mark.At mark.End (IsSpreadForm names ps s)

-- the parts of an action's effect, in order
pub data AreEffectParts (names : Table) (a : ActionDef) : Nesteds → Type 0 where
  effect_parts : (starts ends : Nesteds) → AreForms (IsStartEffect names a.params) a.effects.at_start starts → AreForms (IsEndEffect names a.params) a.effects.at_end ends → AreEffectParts names a (joined starts ends)

-- ---- the domain

-- (NAME VLIST)
pub data IsDeclForm (names : Table) : Decl → Nested → Type 0 where
  decl_form : (decl : Decl) (l : Lexeme) (ts : Nesteds) → IsNamed names decl.name l → AreParamForms names decl.params ts → IsDeclForm names decl (group (more (word l) ts))

-- an action
pub data IsActionForm (names : Table) : ActionDef → Nested → Type 0 where
  action_form : (a : ActionDef) (k n p d e q c f g h : Lexeme) (ps cs es : Nesteds) (x : Nested)
      → k.mark ≡ mark.DurativeAction → IsNamed names a.name n
      → p.mark ≡ mark.Parameters → AreParamForms names a.params ps
      → d.mark ≡ mark.DurationKey → e.mark ≡ mark.Equal → q.mark ≡ mark.Duration → IsExprForm names a.params (expr_tree a.duration) x
      → c.mark ≡ mark.ConditionKey → f.mark ≡ mark.And → AreConditionParts names a cs
      → g.mark ≡ mark.EffectKey → h.mark ≡ mark.And → AreEffectParts names a es
      → IsActionForm names a (group (more (word k) (more (word n) (more (word p) (more (group ps)
      (more (word d) (more (group (more (word e) (more (word q) (more x none))))
      (more (word c) (more (group (more (word f) cs))
      (more (word g) (more (group (more (word h) es)) none)))))))))))

-- a section with this keyword and then these forms, unless there are none
pub data IsSectionForm (key : Mark) : Nesteds → Nesteds → Type 0 where
  no_section : IsSectionForm key none none
  section : (k : Lexeme) (t : Nested) (ts : Nesteds) → k.mark ≡ key → IsSectionForm key (more t ts) (more (group (more (word k) (more t ts))) none)

-- the sections of a domain, in order
pub data AreSectionForms (names : Table) (d : Domain) : Nesteds → Type 0 where
  sections : (ts cs ps fs acts types constants predicates functions : Nesteds)
      → AreTypedForms names d.types ts → IsSectionForm mark.Types ts types
      → AreTypedForms names d.constants cs → IsSectionForm mark.Constants cs constants
      → AreForms (IsDeclForm names) d.predicates ps → IsSectionForm mark.Predicates ps predicates
      → AreForms (IsDeclForm names) d.functions fs → IsSectionForm mark.Functions fs functions
      → AreForms (IsActionForm names) d.actions acts
      → AreSectionForms names d (joined types (joined constants (joined predicates (joined functions acts))))

-- a domain
pub data IsDomainForm (names : Table) (d : Domain) : Nesteds → Type 0 where
  domain_form : (k m n : Lexeme) (ts : Nesteds) → k.mark ≡ mark.Define → m.mark ≡ mark.Domain → IsNamed names d.name n → AreSectionForms names d ts
      → IsDomainForm names d (more (group (more (word k) (more (group (more (word m) (more (word n) none))) ts))) none)
