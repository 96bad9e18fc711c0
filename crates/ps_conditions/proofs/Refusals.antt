-- Why a condition or a value is refused is why one of its words is.
use Rattle.std.proofs.Common.{true, false, Bool, List, [], ◌∷◌, ◌++◌, Option, Some, None, Result, Ok, Err}
use Rattle.std.specs.Bool.{if◌then◌else◌}
use Rattle.ps_world.specs.CondViews.{cond_tree}
use Rattle.ps_world.specs.ExprViews.{expr_tree}
use Rattle.ps_world.specs.Trees.{CondTree}
use Rattle.ps_world.specs.declared.domains.Param.{Param}
use Rattle.ps_world.specs.declared.conditions.Cond.{Cond}
use Rattle.ps_world.specs.declared.conditions.Cond.TheVariants as cond
use Rattle.ps_world.specs.declared.conditions.Rel.{Rel}
use Rattle.ps_world.specs.declared.conditions.Rel.TheVariants.{Lt, Le, Eq, Ge, Gt}
use Rattle.ps_world.specs.declared.expressions.Expr.{Expr}
use Rattle.ps_world.specs.declared.expressions.Expr.TheVariants.{Fun, Neg, Bin}
use Rattle.ps_world.specs.declared.expressions.Op.{Op}
use Rattle.ps_grammar.specs.Marks.{is}
use Rattle.ps_grammar.specs.declared.marks.Mark.TheVariants as mark
use Rattle.ps_lists.specs.Nested.{Nested, Nesteds, word, group, none, more}
use Rattle.ps_lists.specs.Places.{items, word_of}
use Rattle.ps_lists.specs.declared.lexemes.Lexeme.{Lexeme}
use Rattle.ps_conditions.specs.Conditions.{comparison, condition, conditions, equality, form, implication, negation, plain_condition, quantified, quantifier, related, same_as, stated}
use Rattle.ps_conditions.specs.Signs.{Forms, by_head, head_of, operator_of, rel_of}
use Rattle.ps_conditions.specs.declared.signs.Head.{Head}
use Rattle.ps_conditions.specs.declared.signs.Head.TheVariants as the
use Rattle.ps_conditions.specs.Steps.{◌>>=◌, refusable}
use Rattle.ps_conditions.specs.Values.{function_value, operated, operation, value}
use Rattle.ps_conditions.specs.Words.{Scopes, Words}

-- what is read, or a refusal of this kind
abbrev pub Refuses : {A R : Type 0} → (R → Type 0) → Result A R → Type 0
Refuses Q (Ok x) = Unit {0}
Refuses Q (Err refusal) = Q refusal

pub then_refuses : {A B R : Type 0} (Q : R → Type 0) (read : Result A R) (f : A → Result B R) → Refuses Q read → ((x : A) → Refuses Q (f x)) → Refuses Q (read >>= f)
then_refuses Q (Ok x) f h k = k x
then_refuses Q (Err refusal) f h k = h

pub either_refuses : {A R : Type 0} (Q : R → Type 0) (b : Bool) (x y : Result A R) → Refuses Q x → Refuses Q y → Refuses Q (if b then x else y)
either_refuses Q true x y h k = h
either_refuses Q false x y h k = k

-- words are refused so
pub record AreRefused {R : Type 0} (Q : R → Type 0) (w : Words (refusable R)) : Type 0 where
  pub term : (l : Lexeme) → Refuses Q (w.term l)
  pub second : (l : Lexeme) (t : Nested) → Refuses Q (w.second l t)
  pub worth : (l : Lexeme) → Refuses Q (w.worth l)
  pub fact : (l : Lexeme) (ts : Nesteds) → Refuses Q (w.fact l ts)
  pub function : (l : Lexeme) (ts : Nesteds) → Refuses Q (w.function l ts)

module _ (R : Type 0) (Q : R → Type 0) (w : Words (refusable R)) (words : AreRefused Q w) where
  -- ---- values

  function_value_refuses : (l : Lexeme) (ts : Nesteds) → Refuses Q (function_value (refusable R) w l ts)
  function_value_refuses l ts = then_refuses Q (w.function l ts) (λ v. Ok (Fun v)) (words.function l ts) (λ v. tt)

  operated_refuses : (op : Option Op) (a b other : Result Expr R) → Refuses Q a → Refuses Q b → Refuses Q other → Refuses Q (operated (refusable R) op a b other)
  operated_refuses None a b other h k o = o
  operated_refuses (Some op) a b other h k o =
      then_refuses Q a (λ x. b >>= λ y. Ok (Bin op (expr_tree x) (expr_tree y))) h
      (λ x. then_refuses Q b (λ y. Ok (Bin op (expr_tree x) (expr_tree y))) k (λ y. tt))

  mutual
    pub value_refuses : (t : Nested) → Refuses Q (value (refusable R) w t)
    value_refuses (word l) = words.worth l
    value_refuses (group ts) = operation_refuses ts

    operation_refuses : (ts : Nesteds) → Refuses Q (operation (refusable R) w ts)
    operation_refuses none = tt
    operation_refuses (more f none) = function_value_refuses (word_of f) none
    operation_refuses (more f (more a none)) =
        either_refuses Q (is mark.Minus (word_of f).mark) (value (refusable R) w a >>= λ x. Ok (Neg (expr_tree x))) (function_value (refusable R) w (word_of f) (more a none))
        (then_refuses Q (value (refusable R) w a) (λ x. Ok (Neg (expr_tree x))) (value_refuses a) (λ x. tt))
        (function_value_refuses (word_of f) (more a none))
    operation_refuses (more f (more a (more b ts))) =
        operated_refuses (operator_of (word_of f).mark) (value (refusable R) w a) (value (refusable R) w b) (function_value (refusable R) w (word_of f) (more a (more b ts)))
        (value_refuses a) (value_refuses b) (function_value_refuses (word_of f) (more a (more b ts)))

  -- ---- conditions

  comparison_refuses : (rel : Rel) (a b : Nested) → Refuses Q (comparison (refusable R) w rel a b)
  comparison_refuses rel a b =
      then_refuses Q (value (refusable R) w a) (λ x. value (refusable R) w b >>= λ y. Ok (cond.Cmp rel (expr_tree x) (expr_tree y))) (value_refuses a)
      (λ x. then_refuses Q (value (refusable R) w b) (λ y. Ok (cond.Cmp rel (expr_tree x) (expr_tree y))) (value_refuses b) (λ y. tt))

  same_as_refuses : (l : Lexeme) (b : Nested) → Refuses Q (same_as (refusable R) w l b)
  same_as_refuses l b =
      then_refuses Q (w.term l) (λ s. w.second l b >>= λ t. Ok (cond.Same s t)) (words.term l)
      (λ s. then_refuses Q (w.second l b) (λ t. Ok (cond.Same s t)) (words.second l b) (λ t. tt))

  equality_refuses : (a b : Nested) → Refuses Q (equality (refusable R) w a b)
  equality_refuses (group ts) b = comparison_refuses Eq (group ts) b
  equality_refuses (word l) b =
      either_refuses Q (is mark.Number l.mark) (comparison (refusable R) w Eq (word l) b) (same_as (refusable R) w l b) (comparison_refuses Eq (word l) b) (same_as_refuses l b)

  stated_refuses : (l : Lexeme) (ts : Nesteds) → Refuses Q (stated (refusable R) w l ts)
  stated_refuses l ts = then_refuses Q (w.fact l ts) (λ f. Ok (cond.Holds f)) (words.fact l ts) (λ f. tt)

  related_refuses : (rel : Option Rel) (a b : Nested) (other : Result Cond R) → Refuses Q other → Refuses Q (related (refusable R) w rel a b other)
  related_refuses None a b other o = o
  related_refuses (Some Eq) a b other o = equality_refuses a b
  related_refuses (Some Lt) a b other o = comparison_refuses Lt a b
  related_refuses (Some Le) a b other o = comparison_refuses Le a b
  related_refuses (Some Ge) a b other o = comparison_refuses Ge a b
  related_refuses (Some Gt) a b other o = comparison_refuses Gt a b

  plain_refuses : (l : Lexeme) (ts : Nesteds) → Refuses Q (plain_condition (refusable R) w l ts)
  plain_refuses l none = stated_refuses l none
  plain_refuses l (more a none) = stated_refuses l (more a none)
  plain_refuses l (more a (more b ts)) =
      related_refuses (rel_of l.mark) a b (stated (refusable R) w l (more a (more b ts))) (stated_refuses l (more a (more b ts)))

pub by_head_refuses : {A R : Type 0} (Q : R → Type 0) (h : Head) (p : Forms (Result A R)) → Refuses Q p.all → Refuses Q p.any → Refuses Q p.no → Refuses Q p.implied → Refuses Q p.for_some → Refuses Q p.for_all → Refuses Q p.plain → Refuses Q (by_head h p)
by_head_refuses Q the.All p all any deny implied some each plain = all
by_head_refuses Q the.Any p all any deny implied some each plain = any
by_head_refuses Q the.No p all any deny implied some each plain = deny
by_head_refuses Q the.Implied p all any deny implied some each plain = implied
by_head_refuses Q the.ForSome p all any deny implied some each plain = some
by_head_refuses Q the.ForAll p all any deny implied some each plain = each
by_head_refuses Q the.Plain p all any deny implied some each plain = plain

-- words and lists of variables are refused so
pub record ScopesAreRefused {R : Type 0} (Q : R → Type 0) (w : Scopes (refusable R)) : Type 0 where
  pub words : (ps : List Param) → AreRefused Q (w.words ps)
  pub bound : (ps : List Param) (ts : Nesteds) → Refuses Q (w.bound ps ts)

module _ (R : Type 0) (Q : R → Type 0) (w : Scopes (refusable R)) (scopes : ScopesAreRefused Q w) where
  mutual
    pub condition_refuses : (ps : List Param) (t : Nested) → Refuses Q (condition (refusable R) w ps t)
    condition_refuses ps (word l) = tt
    condition_refuses ps (group ts) = form_refuses ps ts

    form_refuses : (ps : List Param) (ts : Nesteds) → Refuses Q (form (refusable R) w ps ts)
    form_refuses ps none = tt
    form_refuses ps (more f ts) =
        by_head_refuses Q (head_of (word_of f).mark) _
        (then_refuses Q (conditions (refusable R) w ps ts []) (λ cs. Ok (cond.And cs)) (conditions_refuse ps ts []) (λ cs. tt))
        (then_refuses Q (conditions (refusable R) w ps ts []) (λ cs. Ok (cond.Or cs)) (conditions_refuse ps ts []) (λ cs. tt))
        (negation_refuses ps ts) (implication_refuses ps ts) (quantified_refuses ps false ts) (quantified_refuses ps true ts)
        (plain_refuses R Q (w.words ps) (scopes.words ps) (word_of f) ts)

    negation_refuses : (ps : List Param) (ts : Nesteds) → Refuses Q (negation (refusable R) w ps ts)
    negation_refuses ps none = tt
    negation_refuses ps (more c ts) = then_refuses Q (condition (refusable R) w ps c) (λ x. Ok (cond.Not (cond_tree x))) (condition_refuses ps c) (λ x. tt)

    implication_refuses : (ps : List Param) (ts : Nesteds) → Refuses Q (implication (refusable R) w ps ts)
    implication_refuses ps none = tt
    implication_refuses ps (more a none) = tt
    implication_refuses ps (more a (more b ts)) =
        then_refuses Q (condition (refusable R) w ps a) (λ x. condition (refusable R) w ps b >>= λ y. Ok (cond.Imply (cond_tree x) (cond_tree y))) (condition_refuses ps a)
        (λ x. then_refuses Q (condition (refusable R) w ps b) (λ y. Ok (cond.Imply (cond_tree x) (cond_tree y))) (condition_refuses ps b) (λ y. tt))

    quantified_refuses : (ps : List Param) (each : Bool) (ts : Nesteds) → Refuses Q (quantified (refusable R) w ps each ts)
    quantified_refuses ps each none = tt
    quantified_refuses ps each (more vs none) = tt
    quantified_refuses ps each (more vs (more c ts)) =
        then_refuses Q (w.bound ps (items vs)) (λ qs. condition (refusable R) w (ps ++ qs) c >>= λ x. Ok (quantifier each qs (cond_tree x))) (scopes.bound ps (items vs))
        (λ qs. then_refuses Q (condition (refusable R) w (ps ++ qs) c) (λ x. Ok (quantifier each qs (cond_tree x))) (condition_refuses (ps ++ qs) c) (λ x. tt))

    conditions_refuse : (ps : List Param) (ts : Nesteds) (before : List CondTree) → Refuses Q (conditions (refusable R) w ps ts before)
    conditions_refuse ps none before = tt
    conditions_refuse ps (more c cs) before =
        then_refuses Q (condition (refusable R) w ps c) (λ x. conditions (refusable R) w ps cs (before ++ cond_tree x ∷ [])) (condition_refuses ps c)
        (λ x. conditions_refuse ps cs (before ++ cond_tree x ∷ []))
