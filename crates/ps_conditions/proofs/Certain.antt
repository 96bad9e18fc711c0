-- Where no word is refused, no condition is: it means what it means by steps that are never refused.
use Rattle.std.proofs.Common.{◌≡◌, true, false, Bool, List, [], ◌∷◌, ◌++◌, Option, Some, None, Result, Ok, refl, append_assoc, append-nil, sym, ◌∙◌}
use Rattle.std.specs.Bool.{if◌then◌else◌}
use Rattle.ps_world.specs.CondViews.{cond_tree}
use Rattle.ps_world.specs.Trees.{CondTree}
use Rattle.ps_world.specs.declared.domains.Param.{Param}
use Rattle.ps_world.specs.declared.conditions.Cond.{Cond}
use Rattle.ps_world.specs.declared.conditions.Rel.{Rel}
use Rattle.ps_world.specs.declared.conditions.Rel.TheVariants.{Lt, Le, Eq, Ge, Gt}
use Rattle.ps_world.specs.declared.expressions.Expr.{Expr}
use Rattle.ps_world.specs.declared.expressions.Op.{Op}
use Rattle.ps_grammar.specs.Marks.{is}
use Rattle.ps_grammar.specs.declared.marks.Mark.TheVariants as mark
use Rattle.ps_lists.specs.Nested.{Nested, Nesteds, word, group, none, more}
use Rattle.ps_lists.specs.Places.{items, word_of}
use Rattle.ps_lists.specs.declared.lexemes.Lexeme.{Lexeme}
use Rattle.ps_conditions.specs.Conditions.{comparison, condition, conditions, equality, form, implication, negation, plain_condition, quantified, related, stated}
use Rattle.ps_conditions.specs.Signs.{Forms, by_head, head_of, operator_of, rel_of}
use Rattle.ps_conditions.specs.declared.signs.Head.{Head}
use Rattle.ps_conditions.specs.declared.signs.Head.TheVariants as the
use Rattle.ps_conditions.specs.Steps.{certain, refusable}
use Rattle.ps_conditions.specs.Values.{operated, operation, value}
use Rattle.ps_conditions.specs.Words.{Scopes, Words, unrefused, unrefused_scopes}

either_ok : {A R : Type 0} (b : Bool) (x y : A) (p q : Result A R) → p ≡ Ok x → q ≡ Ok y → (if b then p else q) ≡ Ok (if b then x else y)
either_ok true x y p q h k = h
either_ok false x y p q h k = k

module _ (R : Type 0) (w : Words certain) where
  -- ---- values

  operated_ok : (op : Option Op) (x y z : Expr) (a b other : Result Expr R) → a ≡ Ok x → b ≡ Ok y → other ≡ Ok z → operated (refusable R) op a b other ≡ Ok (operated certain op x y z)
  operated_ok None x y z a b other h k o = o
  operated_ok (Some op) x y z a b other h k o = rw (h, k) refl

  mutual
    pub value_ok : (t : Nested) → value (refusable R) (unrefused R w) t ≡ Ok (value certain w t)
    value_ok (word l) = refl
    value_ok (group ts) = operation_ok ts

    operation_ok : (ts : Nesteds) → operation (refusable R) (unrefused R w) ts ≡ Ok (operation certain w ts)
    operation_ok none = refl
    operation_ok (more f none) = refl
    operation_ok (more f (more a none)) =
        either_ok (is mark.Minus (word_of f).mark) _ _ _ _ (rw (value_ok a) refl) refl
    operation_ok (more f (more a (more b ts))) =
        operated_ok (operator_of (word_of f).mark) (value certain w a) (value certain w b) _ _ _ _ (value_ok a) (value_ok b) refl

  -- ---- conditions

  comparison_ok : (rel : Rel) (a b : Nested) → comparison (refusable R) (unrefused R w) rel a b ≡ Ok (comparison certain w rel a b)
  comparison_ok rel a b = rw (value_ok a, value_ok b) refl

  equality_ok : (a b : Nested) → equality (refusable R) (unrefused R w) a b ≡ Ok (equality certain w a b)
  equality_ok (group ts) b = comparison_ok Eq (group ts) b
  equality_ok (word l) b = either_ok (is mark.Number l.mark) _ _ _ _ (comparison_ok Eq (word l) b) refl

  related_ok : (rel : Option Rel) (a b : Nested) (x : Cond) (other : Result Cond R) → other ≡ Ok x → related (refusable R) (unrefused R w) rel a b other ≡ Ok (related certain w rel a b x)
  related_ok None a b x other h = h
  related_ok (Some Eq) a b x other h = equality_ok a b
  related_ok (Some Lt) a b x other h = comparison_ok Lt a b
  related_ok (Some Le) a b x other h = comparison_ok Le a b
  related_ok (Some Ge) a b x other h = comparison_ok Ge a b
  related_ok (Some Gt) a b x other h = comparison_ok Gt a b

  plain_ok : (l : Lexeme) (ts : Nesteds) → plain_condition (refusable R) (unrefused R w) l ts ≡ Ok (plain_condition certain w l ts)
  plain_ok l none = refl
  plain_ok l (more a none) = refl
  plain_ok l (more a (more b ts)) = related_ok (rel_of l.mark) a b (stated certain w l (more a (more b ts))) _ refl

by_head_ok : {A R : Type 0} (h : Head) (x : Forms A) (p : Forms (Result A R))
    → p.all ≡ Ok x.all → p.any ≡ Ok x.any → p.no ≡ Ok x.no → p.implied ≡ Ok x.implied → p.for_some ≡ Ok x.for_some → p.for_all ≡ Ok x.for_all → p.plain ≡ Ok x.plain → by_head h p ≡ Ok (by_head h x)
by_head_ok the.All x p all any deny implied some each plain = all
by_head_ok the.Any x p all any deny implied some each plain = any
by_head_ok the.No x p all any deny implied some each plain = deny
by_head_ok the.Implied x p all any deny implied some each plain = implied
by_head_ok the.ForSome x p all any deny implied some each plain = some
by_head_ok the.ForAll x p all any deny implied some each plain = each
by_head_ok the.Plain x p all any deny implied some each plain = plain

module _ (R : Type 0) (w : Scopes certain) where
  mutual
    pub condition_ok : (ps : List Param) (t : Nested) → condition (refusable R) (unrefused_scopes R w) ps t ≡ Ok (condition certain w ps t)
    condition_ok ps (word l) = refl
    condition_ok ps (group ts) = form_ok ps ts

    form_ok : (ps : List Param) (ts : Nesteds) → form (refusable R) (unrefused_scopes R w) ps ts ≡ Ok (form certain w ps ts)
    form_ok ps none = refl
    form_ok ps (more f ts) =
        by_head_ok (head_of (word_of f).mark) _ _ (rw (conditions_ok ps ts []) refl) (rw (conditions_ok ps ts []) refl) (negation_ok ps ts) (implication_ok ps ts) (quantified_ok ps false ts) (quantified_ok ps true ts) (plain_ok R (w.words ps) (word_of f) ts)

    negation_ok : (ps : List Param) (ts : Nesteds) → negation (refusable R) (unrefused_scopes R w) ps ts ≡ Ok (negation certain w ps ts)
    negation_ok ps none = refl
    negation_ok ps (more c ts) = rw (condition_ok ps c) refl

    implication_ok : (ps : List Param) (ts : Nesteds) → implication (refusable R) (unrefused_scopes R w) ps ts ≡ Ok (implication certain w ps ts)
    implication_ok ps none = refl
    implication_ok ps (more a none) = refl
    implication_ok ps (more a (more b ts)) = rw (condition_ok ps a, condition_ok ps b) refl

    quantified_ok : (ps : List Param) (each : Bool) (ts : Nesteds) → quantified (refusable R) (unrefused_scopes R w) ps each ts ≡ Ok (quantified certain w ps each ts)
    quantified_ok ps each none = refl
    quantified_ok ps each (more vs none) = refl
    quantified_ok ps each (more vs (more c ts)) = rw (condition_ok (ps ++ w.bound ps (items vs)) c) refl

    conditions_ok : (ps : List Param) (ts : Nesteds) (before : List CondTree) → conditions (refusable R) (unrefused_scopes R w) ps ts before ≡ Ok (conditions certain w ps ts before)
    conditions_ok ps none before = refl
    conditions_ok ps (more c cs) before = rw (condition_ok ps c) (conditions_ok ps cs (before ++ cond_tree (condition certain w ps c) ∷ []))

module _ (w : Scopes certain) (ps : List Param) where
  -- what each of these means
  abbrev pub each : Nesteds → List CondTree
  each none = []
  each (more c cs) = cond_tree (condition certain w ps c) ∷ each cs

  pub conditions-each : (ts : Nesteds) (before : List CondTree) → conditions certain w ps ts before ≡ before ++ each ts
  conditions-each none before = sym (append-nil before)
  conditions-each (more c cs) before =
      conditions-each cs (before ++ cond_tree (condition certain w ps c) ∷ []) ∙ append_assoc before (cond_tree (condition certain w ps c) ∷ []) (each cs)
