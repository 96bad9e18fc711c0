-- The condition that nested lists are: no variable is free in it, and it opens no more parentheses than they do.
use Rattle.std.proofs.Common.{◌≡◌, ℕ, suc, ◌-◌, ◌≤◌, nat_lt, Bool, true, false, not, ◌&&◌, ◌||◌, if◌then◌else◌, is_some, Option, None, Some, List, [], ◌++◌, length, length-append, position, refl, arith}
use Rattle.std.specs.List.{list_all}
use Rattle.std.proofs.lemmas.Bool.{and_parts, and_from}
use Rattle.std.proofs.lemmas.Bool.Decides.{nat_tests}
use Rattle.std.proofs.lemmas.List.{length-take}
use Rattle.std.proofs.lemmas.List.Quantifiers.{position-Some}
use Rattle.ps_world.specs.Leaves.{AllIn, AllInEach}
use Rattle.ps_world.specs.Names.{same_name}
use Rattle.ps_world.specs.Trees.{cond_trees}
use Rattle.ps_world.specs.CondViews.{cond_tree}
use Rattle.ps_world.specs.ExprViews.{expr_tree}
use Rattle.ps_world.specs.declared.domains.Param.{Param}
use Rattle.ps_world.specs.declared.names.Name.{Name}
use Rattle.ps_world.specs.declared.expressions.Op.{Op}
use Rattle.ps_world.specs.declared.expressions.Expr.{Expr}
use Rattle.ps_world.specs.declared.expressions.Expr.TheVariants.{Fun, Neg}
use Rattle.ps_world.specs.declared.conditions.Rel.{Rel}
use Rattle.ps_world.specs.declared.conditions.Rel.TheVariants.{Eq}
use Rattle.ps_world.specs.declared.conditions.Cond.{Cond}
use Rattle.ps_world.specs.declared.conditions.Cond.TheVariants as cond
use Rattle.ps_rules.specs.Sound.{are_bound, cond_opens, conds_open, expr_opens, is_bound, is_bound_expr, script_leaves}
use Rattle.ps_grammar.specs.Marks.{is, is_goal_name}
use Rattle.ps_grammar.specs.declared.marks.Mark.{Mark}
use Rattle.ps_grammar.specs.declared.marks.Mark.TheVariants.{Number, Minus, Variable}
use Rattle.ps_lists.specs.Nested.{Nested, Nesteds, word, group, none, more, rank, ranks}
use Rattle.ps_lists.specs.Places.{items, word_of}
use Rattle.ps_lists.specs.declared.lexemes.Lexeme.{Lexeme}
use Rattle.ps_conditions.specs.Conditions.{equality, form, implication, negation, plain_condition, quantified, quantifier, related}
use Rattle.ps_conditions.specs.Conditions as meant
use Rattle.ps_conditions.specs.Signs.{Forms, by_head, head_of, operator_of, rel_of}
use Rattle.ps_conditions.specs.declared.signs.Head.{Head}
use Rattle.ps_conditions.specs.declared.signs.Head.TheVariants as the
use Rattle.ps_conditions.specs.Steps.{certain}
use Rattle.ps_conditions.specs.Values.{operated, operation, value}
use Rattle.ps_conditions.proofs.Certain.{conditions-each, each}
use Rattle.ps_text.proofs.Digits.{list_all-take}
use Rattle.ps_script.specs.Goals.{at_place, bound, lifted, line_scopes, line_words, term, terms_of, typed}

one_of : {X : Type 0} (P : X → Type 0) (b : Bool) (x y : X) → P x → P y → P (if b then x else y)
one_of P true x y p q = p
one_of P false x y p q = q

-- ---- terms

below : (i n : ℕ) → suc i ≤ n → nat_lt i n ≡ true
below i n h = grind (arith, nat_tests)

place_bound : (ps : List Param) (n : Name) (o : Option ℕ) → position (λ p. same_name n p.name) ps ≡ o → is_bound ps (at_place o n) ≡ true
place_bound ps n None e = refl
place_bound ps n (Some i) e =
    let found = position-Some (λ (p : Param). same_name n p.name) ps i (record { name = n; kind = n }) e in
    below i (length ps) (omega (arith, found.0))

term_bound : (ps : List Param) (l : Lexeme) → is_bound ps (term ps l) ≡ true
term_bound ps l = one_of (λ t. is_bound ps t ≡ true) (is Variable l.mark) _ _ (place_bound ps l.name (position (λ p. same_name l.name p.name) ps) refl) refl

terms_bound : (ps : List Param) (ts : Nesteds) → list_all (is_bound ps) (terms_of ps ts) ≡ true
terms_bound ps none = refl
terms_bound ps (more t ts) = and_from _ _ (term_bound ps (word_of t)) (terms_bound ps ts)

args_bound : (ps : List Param) (l : Lexeme) (ts : Nesteds) → are_bound ps (lifted ps l ts) ≡ true
args_bound ps l ts = list_all-take (is_bound ps) 6 (terms_of ps ts) (terms_bound ps ts)

-- ---- values

-- no variable but these stands in an expression, and it opens so many parentheses at most
abbrev IsFineExpr : List Param → ℕ → Expr → Type 0
IsFineExpr ps n e = (is_bound_expr ps (expr_tree e) ≡ true) × (expr_opens (expr_tree e) ≤ n)

-- no variable but these is free in a condition, no type of an instance is asked for, and it opens so many parentheses at most
abbrev pub IsFine : List Param → ℕ → Cond → Type 0
IsFine ps n c = AllIn script_leaves ps (cond_tree c) × (cond_opens (cond_tree c) ≤ n)

module _ (ps : List Param) where
  expr_more : (m n : ℕ) (e : Expr) → m ≤ n → IsFineExpr ps m e → IsFineExpr ps n e
  expr_more m n e le fine = (fine.0, omega (arith, le, fine.1))

  fun_fine : (n : ℕ) (l : Lexeme) (ts : Nesteds) → IsFineExpr ps (suc n) (Fun (lifted ps l ts))
  fun_fine n l ts = (args_bound ps l ts, omega arith)

  neg_fine : (n : ℕ) (a : Expr) → IsFineExpr ps n a → IsFineExpr ps (suc n) (Neg (expr_tree a))
  neg_fine n a fine = (fine.0, omega (arith, fine.1))

  operated_fine : (n : ℕ) (o : Option Op) (a b other : Expr) → IsFineExpr ps n a → IsFineExpr ps n b → IsFineExpr ps (suc n) other → IsFineExpr ps (suc n) (operated certain o a b other)
  operated_fine n None a b other p q r = r
  operated_fine n (Some op) a b other p q r = (and_from _ _ p.0 q.0, omega (arith, p.1, q.1))

  mutual
    value_fine : (t : Nested) → IsFineExpr ps (rank t) (value certain (line_words ps) t)
    value_fine (word l) = (refl, omega arith)
    value_fine (group ts) = operation_fine ts

    operation_fine : (ts : Nesteds) → IsFineExpr ps (suc (ranks ts)) (operation certain (line_words ps) ts)
    operation_fine none = (refl, omega arith)
    operation_fine (more f none) = fun_fine (ranks (more f none)) (word_of f) none
    operation_fine (more f (more a none)) =
        let n = ranks (more f (more a none)) in
        one_of (IsFineExpr ps (suc n)) (is Minus (word_of f).mark) _ _ (neg_fine n (value certain (line_words ps) a) (expr_more (rank a) n (value certain (line_words ps) a) (omega arith) (value_fine a))) (fun_fine n (word_of f) (more a none))
    operation_fine (more f (more a (more b ts))) =
        let n = ranks (more f (more a (more b ts))) in
        operated_fine n (operator_of (word_of f).mark) (value certain (line_words ps) a) (value certain (line_words ps) b) _ (expr_more (rank a) n (value certain (line_words ps) a) (omega arith) (value_fine a)) (expr_more (rank b) n (value certain (line_words ps) b) (omega arith) (value_fine b)) (fun_fine n (word_of f) (more a (more b ts)))

  -- ---- plain conditions

  compared_fine : (n : ℕ) (rel : Rel) (a b : Nested) → rank a ≤ n → rank b ≤ n → IsFine ps (suc n) (cond.Cmp rel (expr_tree (value certain (line_words ps) a)) (expr_tree (value certain (line_words ps) b)))
  compared_fine n rel a b p q =
      let left = value_fine a in
      let right = value_fine b in
      ((left.0, right.0), omega (arith, p, q, left.1, right.1))

  same_fine : (n : ℕ) (a b : Lexeme) → IsFine ps (suc n) (cond.Same (term ps a) (term ps b))
  same_fine n a b = ((term_bound ps a, term_bound ps b), omega arith)

  equality_fine : (n : ℕ) (a b : Nested) → rank a ≤ n → rank b ≤ n → IsFine ps (suc n) (equality certain (line_words ps) a b)
  equality_fine n (group ts) b p q = compared_fine n Eq (group ts) b p q
  equality_fine n (word l) b p q = one_of (IsFine ps (suc n)) (is Number l.mark) _ _ (compared_fine n Eq (word l) b p q) (same_fine n l (word_of b))

  related_fine : (n : ℕ) (o : Option Rel) (a b : Nested) (other : Cond) → rank a ≤ n → rank b ≤ n → IsFine ps (suc n) other → IsFine ps (suc n) (related certain (line_words ps) o a b other)
  related_fine n None a b other p q r = r
  related_fine n (Some Eq) a b other p q r = equality_fine n a b p q
  related_fine n (Some rel) a b other p q r = compared_fine n rel a b p q

  holds_fine : (n : ℕ) (l : Lexeme) (ts : Nesteds) → IsFine ps (suc n) (cond.Holds (lifted ps l ts))
  holds_fine n l ts = (args_bound ps l ts, omega arith)

  plain_fine : (l : Lexeme) (ts : Nesteds) → IsFine ps (suc (ranks ts)) (plain_condition certain (line_words ps) l ts)
  plain_fine l none = holds_fine 0 l none
  plain_fine l (more a none) = holds_fine (ranks (more a none)) l (more a none)
  plain_fine l (more a (more b ts)) =
      let n = ranks (more a (more b ts)) in
      related_fine n (rel_of l.mark) a b _ (omega arith) (omega arith) (holds_fine n l (more a (more b ts)))

  fine_more : (m n : ℕ) (c : Cond) → m ≤ n → IsFine ps m c → IsFine ps n c
  fine_more m n c le fine = (fine.0, omega (arith, le, fine.1))

-- ---- conditions

-- two words or lists stand here at least
abbrev pub has_two : Nesteds → Bool
has_two (more a (more b ts)) = true
has_two ts = false

-- a fact has this head, which may stand there, or a comparison has this sign and two operands at least
abbrev pub is_headed : Mark → Nesteds → Bool
is_headed m ts = is_goal_name m || (is_some (rel_of m) && has_two ts)

abbrev mutual
  -- each of these is a variable, or a `-` with the name of a type after it
  pub are_variables : Nesteds → Bool
  are_variables none = true
  are_variables (more t ts) = if is Minus (word_of t).mark then are_after_type ts else is Variable (word_of t).mark && are_variables ts

  -- the name of a type, which is no variable, and those after it
  pub are_after_type : Nesteds → Bool
  are_after_type none = true
  are_after_type (more t ts) = not (is Variable (word_of t).mark) && are_variables ts

-- a list of variables, and no word
abbrev pub is_bound_list : Nested → Bool
is_bound_list (word l) = false
is_bound_list (group ts) = are_variables ts

abbrev mutual
  -- a list stands wherever a condition is looked for, a list of variables at each quantifier, and each fact has a head that may stand there
  pub is_formed : Nested → Bool
  is_formed (word l) = false
  is_formed (group ts) = is_form ts

  -- the same of a head and what follows it
  pub is_form : Nesteds → Bool
  is_form none = true
  is_form (more f ts) = by_head (head_of (word_of f).mark) (record {
    all = are_formed ts;
    any = are_formed ts;
    no = begins_formed ts;
    implied = are_two_formed ts;
    for_some = binds_formed ts;
    for_all = binds_formed ts;
    plain = is_headed (word_of f).mark ts;
  })

  -- the same of the first of these
  pub begins_formed : Nesteds → Bool
  begins_formed none = true
  begins_formed (more c ts) = is_formed c

  -- the same of the first two of these
  pub are_two_formed : Nesteds → Bool
  are_two_formed none = true
  are_two_formed (more a ts) = is_formed a && begins_formed ts

  -- the same of the second of these, where the first is the list of its variables
  pub binds_formed : Nesteds → Bool
  binds_formed none = true
  binds_formed (more vs ts) = is_bound_list vs && begins_formed ts

  -- the same of each of these
  pub are_formed : Nesteds → Bool
  are_formed none = true
  are_formed (more c cs) = is_formed c && are_formed cs

-- where the head decides
by_head_fine : (ps : List Param) (n : ℕ) (h : Head) (x : Forms Cond) (b : Forms Bool)
    → (b.all ≡ true → IsFine ps n x.all) → (b.any ≡ true → IsFine ps n x.any) → (b.no ≡ true → IsFine ps n x.no) → (b.implied ≡ true → IsFine ps n x.implied)
    → (b.for_some ≡ true → IsFine ps n x.for_some) → (b.for_all ≡ true → IsFine ps n x.for_all) → IsFine ps n x.plain → by_head h b ≡ true → IsFine ps n (by_head h x)
by_head_fine ps n the.All x b all any deny implied some each plain e = all e
by_head_fine ps n the.Any x b all any deny implied some each plain e = any e
by_head_fine ps n the.No x b all any deny implied some each plain e = deny e
by_head_fine ps n the.Implied x b all any deny implied some each plain e = implied e
by_head_fine ps n the.ForSome x b all any deny implied some each plain e = some e
by_head_fine ps n the.ForAll x b all any deny implied some each plain e = each e
by_head_fine ps n the.Plain x b all any deny implied some each plain e = plain

list_rank : (t : Nested) → is_bound_list t ≡ true → 1 ≤ rank t
list_rank (word l) e = absurd (cc)
list_rank (group ts) e = omega arith

few_bound : (ps : List Param) (ts : Nesteds) → length ps ≤ 2 → length (ps ++ bound ps ts) ≤ 2
few_bound ps ts few = omega (arith, few, length-append ps (bound ps ts), length-take (2 - length ps) (typed ts))

quantifier_fine : (ps qs : List Param) (each : Bool) (m n : ℕ) (c : Cond) → length (ps ++ qs) ≤ 2 → 1 ≤ n → m ≤ n → IsFine (ps ++ qs) m c → IsFine ps (suc n) (quantifier each qs (cond_tree c))
quantifier_fine ps qs true m n c few one le fine = ((few, fine.0), omega (arith, one, le, fine.1))
quantifier_fine ps qs false m n c few one le fine = ((few, fine.0), omega (arith, one, le, fine.1))

mutual
  pub condition_fine : (ps : List Param) (t : Nested) → length ps ≤ 2 → is_formed t ≡ true → IsFine ps (rank t) (meant.condition certain line_scopes ps t)
  condition_fine ps (word l) few e = absurd (cc)
  condition_fine ps (group ts) few e = form_fine ps ts few e

  form_fine : (ps : List Param) (ts : Nesteds) → length ps ≤ 2 → is_form ts ≡ true → IsFine ps (suc (ranks ts)) (form certain line_scopes ps ts)
  form_fine ps none few e = (tt, omega arith)
  form_fine ps (more f ts) few e =
      let n = suc (ranks (more f ts)) in
      rw (conditions-each line_scopes ps ts [])
      (by_head_fine ps n (head_of (word_of f).mark) _ _
      (λ g. let fine = conditions_fine ps ts few g in (fine.0, omega (arith, fine.1)))
      (λ g. let fine = conditions_fine ps ts few g in ((tt, fine.0), omega (arith, fine.1)))
      (λ g. let fine = negation_fine ps ts few g in (fine.0, omega (arith, fine.1)))
      (λ g. let fine = implication_fine ps ts few g in (fine.0, omega (arith, fine.1)))
      (λ g. let fine = quantified_fine ps false ts few g in (fine.0, omega (arith, fine.1)))
      (λ g. let fine = quantified_fine ps true ts few g in (fine.0, omega (arith, fine.1)))
      (fine_more ps (suc (ranks ts)) n _ (omega arith) (plain_fine ps (word_of f) ts)) e)

  negation_fine : (ps : List Param) (ts : Nesteds) → length ps ≤ 2 → begins_formed ts ≡ true → IsFine ps (suc (ranks ts)) (negation certain line_scopes ps ts)
  negation_fine ps none few e = (tt, omega arith)
  negation_fine ps (more c ts) few e =
      let fine = condition_fine ps c few e in
      (fine.0, omega (arith, fine.1))

  implication_fine : (ps : List Param) (ts : Nesteds) → length ps ≤ 2 → are_two_formed ts ≡ true → IsFine ps (suc (ranks ts)) (implication certain line_scopes ps ts)
  implication_fine ps none few e = (tt, omega arith)
  implication_fine ps (more a none) few e = (tt, omega arith)
  implication_fine ps (more a (more b ts)) few e =
      let parts = and_parts (is_formed a) (is_formed b) e in
      let one = condition_fine ps a few parts.0 in
      let other = condition_fine ps b few parts.1 in
      ((tt, (one.0, other.0)), omega (arith, one.1, other.1))

  quantified_fine : (ps : List Param) (each : Bool) (ts : Nesteds) → length ps ≤ 2 → binds_formed ts ≡ true → IsFine ps (suc (ranks ts)) (quantified certain line_scopes ps each ts)
  quantified_fine ps each none few e = (tt, omega arith)
  quantified_fine ps each (more vs none) few e = (tt, omega arith)
  quantified_fine ps each (more vs (more c ts)) few e =
      let parts = and_parts (is_bound_list vs) (is_formed c) e in
      let more_few = few_bound ps (items vs) few in
      quantifier_fine ps (bound ps (items vs)) each (rank c) (ranks (more vs (more c ts))) _ more_few (omega (arith, list_rank vs parts.0)) (omega arith) (condition_fine (ps ++ bound ps (items vs)) c more_few parts.1)

  conditions_fine : (ps : List Param) (ts : Nesteds) → length ps ≤ 2 → are_formed ts ≡ true → AllInEach script_leaves ps (cond_trees (each line_scopes ps ts)) × (conds_open (cond_trees (each line_scopes ps ts)) ≤ ranks ts)
  conditions_fine ps none few e = (tt, omega arith)
  conditions_fine ps (more c cs) few e =
      let parts = and_parts (is_formed c) (are_formed cs) e in
      let here = condition_fine ps c few parts.0 in
      let later = conditions_fine ps cs few parts.1 in
      ((here.0, later.0), omega (arith, here.1, later.1))
