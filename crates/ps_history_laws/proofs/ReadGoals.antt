-- The condition that nested lists are, where their words are told and they are formed, is a goal that a line can say.
use Rattle.std.proofs.Common.{◌≡◌, ◌-◌, ◌<◌, ◌≤◌, nat_le, ℕ, Bool, true, false, not, ◌&&◌, ◌||◌, is_some, if◌then◌else◌, Option, Some, None, Result, Ok, Err, List, [], ◌∷◌, ◌++◌, append_assoc, append-nil, length, position, All, refl, sym, ◌∙◌, subst, arith}
use Rattle.std.specs.List.{list_any}
use Rattle.std.specs.Option.{option_or}
use Rattle.std.proofs.lemmas.Bool.{and_parts, not-true, or_parts}
use Rattle.std.proofs.lemmas.Bool.Decides.{nat_tests}
use Rattle.std.proofs.lemmas.List.{length-append, length-map, length-take, map-append, take_all}
use Rattle.std.proofs.lemmas.List.Quantifiers.{position-Some}
use denote.Enum.Bare.{same_true}
use Rattle.ps_grammar.specs.contracts.marks.Mark.{the_type}
use Rattle.std.proofs.lemmas.List.Elements.{All-nil, All-cons, All-take}
use Rattle.ps_world.specs.Names.{Table, same_name}
use Rattle.ps_world.specs.declared.domains.Param.{Param}
use Rattle.ps_world.specs.Numbers.{IsCount}
use Rattle.ps_world.specs.Trees.{cond_trees}
use Rattle.ps_world.specs.CondViews.{cond_tree}
use Rattle.ps_world.specs.ExprViews.{expr_tree}
use Rattle.ps_world.specs.declared.names.Name.{Name}
use Rattle.ps_world.specs.declared.schemas.Term.TheVariants.{Const}
use Rattle.ps_world.specs.declared.expressions.Op.{Op}
use Rattle.ps_world.specs.declared.expressions.Expr.{Expr}
use Rattle.ps_world.specs.declared.expressions.Expr.TheVariants.{Fun, Neg}
use Rattle.ps_world.specs.declared.conditions.Rel.{Rel}
use Rattle.ps_world.specs.declared.conditions.Rel.TheVariants.{Eq}
use Rattle.ps_world.specs.declared.conditions.Cond.{Cond}
use Rattle.ps_world.specs.declared.conditions.Cond.TheVariants as cond
use Rattle.ps_text.proofs.Folds.{list_any-map}
use Rattle.ps_grammar.specs.Marks.{is, is_goal_name, is_name}
use Rattle.ps_grammar.specs.declared.marks.Mark.{Mark}
use Rattle.ps_grammar.specs.declared.marks.Mark.TheVariants as mark
use Rattle.ps_lists.specs.Nested.{Nested, Nesteds, word, group, none, more}
use Rattle.ps_lists.specs.Places.{head, items_at, rest, word_of}
use Rattle.ps_lists.specs.declared.lexemes.Lexeme.{Lexeme}
use Rattle.ps_print.specs.CanonicalWords.{AreCondsOf, IsCondOf, IsExprOf, IsLiftedOf, IsNameOf, IsParamOf, IsTermOf}
use Rattle.ps_pddl.specs.WellFormed.{AreApart}
use Rattle.ps_pddl.proofs.Fits.{IsVariableName}
use Rattle.ps_pddl.proofs.SoundLists.{apart_push}
use Rattle.ps_pddl.proofs.ReadNames.{AllTold, AreTold, IsTold}
use Rattle.ps_conditions.specs.Conditions.{equality, form, implication, negation, plain_condition, quantified, quantifier, related}
use Rattle.ps_conditions.specs.Conditions as meant
use Rattle.ps_conditions.specs.Signs.{Forms, by_head, head_of, operator_of, rel_of}
use Rattle.ps_conditions.specs.declared.signs.Head.{Head}
use Rattle.ps_conditions.specs.declared.signs.Head.TheVariants as the
use Rattle.ps_conditions.specs.Steps.{◌>>=◌, certain}
use Rattle.ps_conditions.specs.Values.{operated, operation, value}
use Rattle.ps_conditions.proofs.Certain.{conditions-each, each}
use Rattle.ps_script.specs.Goals.{args_of, at_place, bound, fact_of, first_condition, kind_ahead, lifted, line_scopes, line_words, names_of, term, terms_of, typed, typed_after}
use Rattle.ps_script.specs.Scopes.{below, binds, binds_word, loose, quantifies, stray, stray_form, strays}
use Rattle.ps_script_laws.specs.Sayable.{AreBindable, HasGoalHeads, HaveGoalHeads, IsFactOf, IsGoalHead, IsShort, IsShortExpr}
use Rattle.ps_script_laws.proofs.GoalScopes.{in_force}
use Rattle.ps_limit_laws.proofs.GoalTrees.{are_after_type, are_formed, are_two_formed, are_variables, begins_formed, binds_formed, is_form, is_formed, is_headed}

goal-is_name : (m : Mark) → is_goal_name m ≡ true → is_name m ≡ true
goal-is_name mark.And e = absurd (cc)
goal-is_name mark.Not e = absurd (cc)
goal-is_name m e = cc

alone : (a b : Bool) → (a || (b && false)) ≡ true → a ≡ true
alone true b e = refl
alone false true e = absurd (cc)
alone false false e = absurd (cc)

-- whether a form binds variables
abbrev binds_head : Head → Bool
binds_head the.ForSome = true
binds_head the.ForAll = true
binds_head h = false

quantifies-head : (m : Mark) → quantifies m ≡ binds_head (head_of m)
quantifies-head mark.Exists = refl
quantifies-head mark.Forall = refl
quantifies-head mark.And = refl
quantifies-head mark.Or = refl
quantifies-head mark.Not = refl
quantifies-head mark.Imply = refl
quantifies-head m = refl

by_head_here : (P : Cond → Type 0) (h : Head) (x : Forms Cond) (b : Forms Bool)
    → (binds_head h ≡ false → b.all ≡ true → P x.all) → (binds_head h ≡ false → b.any ≡ true → P x.any) → (binds_head h ≡ false → b.no ≡ true → P x.no) → (binds_head h ≡ false → b.implied ≡ true → P x.implied)
    → (binds_head h ≡ true → b.for_some ≡ true → P x.for_some) → (binds_head h ≡ true → b.for_all ≡ true → P x.for_all) → (b.plain ≡ true → P x.plain) → by_head h b ≡ true → P (by_head h x)
by_head_here P the.All x b all any deny implied some each fact e = all refl e
by_head_here P the.Any x b all any deny implied some each fact e = any refl e
by_head_here P the.No x b all any deny implied some each fact e = deny refl e
by_head_here P the.Implied x b all any deny implied some each fact e = implied refl e
by_head_here P the.ForSome x b all any deny implied some each fact e = some refl e
by_head_here P the.ForAll x b all any deny implied some each fact e = each refl e
by_head_here P the.Plain x b all any deny implied some each fact e = fact e

-- ---- variables in their scopes

pub neither : (a b : Option ℕ) → option_or a b ≡ None → (a ≡ None) × (b ≡ None)
neither None b e = (refl, e)
neither (Some at) b e = absurd (cc)

-- variables in force: two at most, each with a name of its own
abbrev AreInForce : List Param → List Name → Type 0
AreInForce ps ns = (length ps ≤ 2) × AreApart (λ p. p.name) ps × (ns ≡ in_force ps)

same_ok : (ms ns : List Name) → ◌≡◌ {A = Result (List Name) ℕ} (Ok ms) (Ok ns) → ns ≡ ms
same_ok ms ns e = cc

free_word : (c : Bool) (at : ℕ) (ms ns : List Name) (f : List Name → Result (List Name) ℕ) → ((if c then Err at else Ok ms) >>= f) ≡ Ok ns → (c ≡ false) × (f ms ≡ Ok ns)
free_word true at ms ns f e = absurd (cc)
free_word false at ms ns f e = (refl, e)

room_for : (n : ℕ) → nat_le 2 n ≡ false → n ≤ 1
room_for n e = grind (arith, nat_tests)

-- one word of a list, where what is left of the list binds so
one_word : (ps : List Param) (l : Lexeme) (ts : Nesteds) (ns : List Name) (minus : Bool) → is mark.Minus l.mark ≡ minus → AreApart (λ p. p.name) ps
    → (if minus then are_after_type ts else is mark.Variable l.mark && are_variables ts) ≡ true → (binds_word (in_force ps) l >>= λ ms. binds ms ts) ≡ Ok ns
    → (are_after_type ts ≡ true → binds (in_force ps) ts ≡ Ok ns → AreInForce (ps ++ typed_after ts) ns)
    → ((qs : List Param) → length qs ≤ 2 → AreApart (λ p. p.name) qs → are_variables ts ≡ true → binds (in_force qs) ts ≡ Ok ns → AreInForce (qs ++ typed ts) ns)
    → AreInForce (ps ++ (if minus then typed_after ts else record { name = l.name; kind = kind_ahead ts } ∷ typed ts)) ns
one_word ps l ts ns true m apart e b typed_next next =
    let same : l.mark ≡ mark.Minus = same_true the_type tt l.mark mark.Minus m in
    typed_next e (rw same at b)
one_word ps l ts ns false m apart e b typed_next next =
    let parts = and_parts (is mark.Variable l.mark) (are_variables ts) e in
    let word = free_word (list_any (same_name l.name) (in_force ps) || nat_le 2 (length (in_force ps))) l.at (in_force ps ++ l.name ∷ []) ns (λ ms. binds ms ts) (rw parts.0 at b) in
    let free = or_parts (list_any (same_name l.name) (in_force ps)) (nat_le 2 (length (in_force ps))) word.0 in
    let room = room_for (length (in_force ps)) free.1 in
    let p : Param = record { name = l.name; kind = kind_ahead ts } in
    let same : in_force ps ++ l.name ∷ [] ≡ in_force (ps ++ p ∷ []) = sym (map-append (λ p. p.name) ps (p ∷ [])) in
    let own = apart_push (λ p. p.name) ps p apart (list_any-map (λ q. q.name) (same_name l.name) ps ∙ free.0) in
    subst (λ (all : List Param). AreInForce all ns) (append_assoc ps (p ∷ []) (typed ts))
    (next (ps ++ p ∷ []) (omega (arith, room, length-append ps (p ∷ []), length-map ps (λ (p : Param). p.name))) own parts.1 (subst (λ (ms : List Name). binds ms ts ≡ Ok ns) same word.1))

mutual
  bound_told : (vs : Nesteds) (ps : List Param) (ns : List Name) → length ps ≤ 2 → AreApart (λ p. p.name) ps → are_variables vs ≡ true → binds (in_force ps) vs ≡ Ok ns → AreInForce (ps ++ typed vs) ns
  bound_told none ps ns few apart e b = subst (λ (all : List Param). AreInForce all ns) (sym (append-nil ps)) (few, apart, same_ok (in_force ps) ns b)
  bound_told (more t ts) ps ns few apart e b =
      one_word ps (word_of t) ts ns (is mark.Minus (word_of t).mark) refl apart e b (λ f c. type_told ts ps ns few apart f c) (λ qs q a f c. bound_told ts qs ns q a f c)

  type_told : (vs : Nesteds) (ps : List Param) (ns : List Name) → length ps ≤ 2 → AreApart (λ p. p.name) ps → are_after_type vs ≡ true → binds (in_force ps) vs ≡ Ok ns → AreInForce (ps ++ typed_after vs) ns
  type_told none ps ns few apart e b = subst (λ (all : List Param). AreInForce all ns) (sym (append-nil ps)) (few, apart, same_ok (in_force ps) ns b)
  type_told (more t ts) ps ns few apart e b =
      let parts = and_parts (not (is mark.Variable (word_of t).mark)) (are_variables ts) e in
      bound_told ts ps ns few apart parts.1 (rw (not-true (is mark.Variable (word_of t).mark) parts.0) at b)

-- what is out of scope nowhere below a quantifier
below_told : (r : Result (List Name) ℕ) (f : List Name → Option ℕ) → below r f ≡ None → (ns : List Name) × (r ≡ Ok ns) × (f ns ≡ None)
below_told (Ok ns) f e = (ns, refl, e)
below_told (Err at) f e = absurd (cc)

module _ (after : Table) (first : 0 < length after) where
  -- ---- names and numbers

  word_name : (t : Nested) → AllTold after t → IsNameOf (length after) (word_of t).name
  word_name (word l) h = h.below
  word_name (group ts) h = first

  word_number : (t : Nested) → AllTold after t → IsCount (word_of t).number
  word_number (word l) h = h.counted
  word_number (group ts) h = omega arith

  pub head_name : (ts : Nesteds) → AreTold after ts → IsNameOf (length after) (head ts).name
  head_name none h = first
  head_name (more t ts) h = word_name t h.0

  pub head_number : (ts : Nesteds) → AreTold after ts → IsCount (head ts).number
  head_number none h = omega arith
  head_number (more t ts) h = word_number t h.0

  pub rest_told : (ts : Nesteds) → AreTold after ts → AreTold after (rest ts)
  rest_told none h = tt
  rest_told (more t ts) h = h.1

  pub items_told : (ts : Nesteds) → AreTold after ts → AreTold after (items_at ts)
  items_told none h = tt
  items_told (more (word l) ts) h = tt
  items_told (more (group us) ts) h = h.0

  names_here : (ts : Nesteds) → AreTold after ts → All (IsNameOf (length after)) (names_of ts)
  names_here none h = All-nil (IsNameOf (length after))
  names_here (more t ts) h = All-cons (IsNameOf (length after)) (word_of t).name (names_of ts) (word_name t h.0) (names_here ts h.1)

  args_here : (ts : Nesteds) → AreTold after ts → All (IsNameOf (length after)) (args_of ts)
  args_here ts h = All-take (IsNameOf (length after)) 6 (names_of ts) (names_here ts h)

  few_args : (ts : Nesteds) → length (args_of ts) ≤ 6
  few_args ts = omega (arith, length-take 6 (names_of ts))

  -- a fact that is read can be said
  pub fact_here : (ts : Nesteds) → AreTold after ts → IsFactOf (length after) (fact_of ts)
  fact_here ts h = record { head = head_name ts h; args = args_here (rest ts) (rest_told ts h); few = few_args (rest ts) }

  -- ---- expressions

  place_here : (ps : List Param) (n : Name) (o : Option ℕ) → position (λ p. same_name n p.name) ps ≡ o → IsNameOf (length after) n → IsTermOf (length after) (length ps) (at_place o n)
  place_here ps n None e h = h
  place_here ps n (Some i) e h = (position-Some (λ (p : Param). same_name n p.name) ps i (record { name = n; kind = n }) e).0

  -- ---- variables

  kind_here : (vs : Nesteds) → AreTold after vs → IsNameOf (length after) (kind_ahead vs)
  kind_here none h = first
  kind_here (more t ts) h =
      elim (is mark.Minus (word_of t).mark) as (λ b. IsNameOf (length after) (if b then (head ts).name else kind_ahead ts)) [
        | true ↦ head_name ts h.1
        | false ↦ kind_here ts h.1
      ]

  mutual
    params_here : (vs : Nesteds) → AreTold after vs → All (IsParamOf (length after)) (typed vs)
    params_here none h = All-nil (IsParamOf (length after))
    params_here (more t ts) h =
        elim (is mark.Minus (word_of t).mark) as (λ b. All (IsParamOf (length after)) (if b then typed_after ts else record { name = (word_of t).name; kind = kind_ahead ts } ∷ typed ts)) [
          | true ↦ later_params ts h.1
          | false ↦ All-cons (IsParamOf (length after)) (record { name = (word_of t).name; kind = kind_ahead ts }) (typed ts) (word_name t h.0, kind_here ts h.1) (params_here ts h.1)
        ]

    later_params : (vs : Nesteds) → AreTold after vs → All (IsParamOf (length after)) (typed_after vs)
    later_params none h = All-nil (IsParamOf (length after))
    later_params (more t ts) h = params_here ts h.1

  free_word_here : (t : Nested) → AllTold after t → is mark.Variable (word_of t).mark ≡ true → IsVariableName after (word_of t).name
  free_word_here (word l) h e = h.variable (same_true the_type tt l.mark mark.Variable e)
  free_word_here (group ts) h e = absurd (cc)

  abbrev IsFree : Param → Type 0
  IsFree q = IsVariableName after q.name

  by_minus : (b : Bool) (p : Param) (us vs : List Param) (x y : Bool) → (x ≡ true → All IsFree us) → (y ≡ true → All IsFree (p ∷ vs)) → (if b then x else y) ≡ true → All IsFree (if b then us else p ∷ vs)
  by_minus true p us vs x y f g e = f e
  by_minus false p us vs x y f g e = g e

  mutual
    free_here : (vs : Nesteds) → AreTold after vs → are_variables vs ≡ true → All IsFree (typed vs)
    free_here none h e = All-nil IsFree
    free_here (more t ts) h e =
        by_minus (is mark.Minus (word_of t).mark) (record { name = (word_of t).name; kind = kind_ahead ts }) (typed_after ts) (typed ts) (are_after_type ts) (is mark.Variable (word_of t).mark && are_variables ts)
        (λ f. later_free ts h.1 f)
        (λ f. let parts = and_parts (is mark.Variable (word_of t).mark) (are_variables ts) f in
        All-cons IsFree (record { name = (word_of t).name; kind = kind_ahead ts }) (typed ts) (free_word_here t h.0 parts.0) (free_here ts h.1 parts.1)) e

    later_free : (vs : Nesteds) → AreTold after vs → are_after_type vs ≡ true → All IsFree (typed_after vs)
    later_free none h e = All-nil IsFree
    later_free (more t ts) h e = free_here ts h.1 (and_parts (not (is mark.Variable (word_of t).mark)) (are_variables ts) e).1

  -- ---- terms

  term_here : (ps : List Param) (l : Lexeme) → IsNameOf (length after) l.name → IsTermOf (length after) (length ps) (term ps l)
  term_here ps l h =
      elim (is mark.Variable l.mark) as (λ b. IsTermOf (length after) (length ps) (if b then at_place (position (λ p. same_name l.name p.name) ps) l.name else Const l.name)) [
        | true ↦ place_here ps l.name (position (λ p. same_name l.name p.name) ps) refl h
        | false ↦ h
      ]

  terms_here : (ps : List Param) (ts : Nesteds) → AreTold after ts → All (IsTermOf (length after) (length ps)) (terms_of ps ts)
  terms_here ps none h = All-nil (IsTermOf (length after) (length ps))
  terms_here ps (more t ts) h = All-cons (IsTermOf (length after) (length ps)) (term ps (word_of t)) (terms_of ps ts) (term_here ps (word_of t) (word_name t h.0)) (terms_here ps ts h.1)

  lifted_here : (ps : List Param) (t : Nested) (ts : Nesteds) → AllTold after t → AreTold after ts → IsLiftedOf (length after) (length ps) (lifted ps (word_of t) ts)
  lifted_here ps t ts h k = (word_name t h, All-take (IsTermOf (length after) (length ps)) 6 (terms_of ps ts) (terms_here ps ts k))

  lifted_short : (ps : List Param) (l : Lexeme) (ts : Nesteds) → IsShort (lifted ps l ts)
  lifted_short ps l ts = omega (arith, length-take 6 (terms_of ps ts))

  abbrev IsExprHere : List Param → Expr → Type 0
  IsExprHere ps x = IsExprOf (length after) (length ps) (expr_tree x) × IsShortExpr (expr_tree x)

  fun_here : (ps : List Param) (t : Nested) (ts : Nesteds) → AllTold after t → AreTold after ts → IsExprHere ps (Fun (lifted ps (word_of t) ts))
  fun_here ps t ts h k = (lifted_here ps t ts h k, lifted_short ps (word_of t) ts)

  one_of : (ps : List Param) (b : Bool) (x y : Expr) → IsExprHere ps x → IsExprHere ps y → IsExprHere ps (if b then x else y)
  one_of ps true x y p q = p
  one_of ps false x y p q = q

  operated_here : (ps : List Param) (o : Option Op) (a b other : Expr) → IsExprHere ps a → IsExprHere ps b → IsExprHere ps other → IsExprHere ps (operated certain o a b other)
  operated_here ps None a b other p q r = r
  operated_here ps (Some op) a b other p q r = ((p.0, q.0), (p.1, q.1))

  mutual
    value_here : (ps : List Param) (t : Nested) → AllTold after t → IsExprHere ps (value certain (line_words ps) t)
    value_here ps (word l) h = (h.counted, tt)
    value_here ps (group ts) h = operation_here ps ts h

    operation_here : (ps : List Param) (ts : Nesteds) → AreTold after ts → IsExprHere ps (operation certain (line_words ps) ts)
    operation_here ps none h = (omega arith, tt)
    operation_here ps (more f none) h = fun_here ps f none h.0 h.1
    operation_here ps (more f (more a none)) h =
        one_of ps (is mark.Minus (word_of f).mark) (Neg (expr_tree (value certain (line_words ps) a))) (Fun (lifted ps (word_of f) (more a none))) (value_here ps a h.1.0) (fun_here ps f (more a none) h.0 h.1)
    operation_here ps (more f (more a (more b ts))) h =
        operated_here ps (operator_of (word_of f).mark) (value certain (line_words ps) a) (value certain (line_words ps) b) (Fun (lifted ps (word_of f) (more a (more b ts)))) (value_here ps a h.1.0) (value_here ps b h.1.1.0) (fun_here ps f (more a (more b ts)) h.0 h.1)

  -- ---- conditions

  abbrev IsCondHere : List Param → Cond → Type 0
  IsCondHere ps c = IsCondOf (length after) ps (cond_tree c) × HasGoalHeads after ps (cond_tree c)

  holds_here : (ps : List Param) (l : Lexeme) (ts : Nesteds) → IsTold after l → AreTold after ts → is_goal_name l.mark ≡ true → IsCondHere ps (cond.Holds (lifted ps l ts))
  holds_here ps l ts h told e =
      let stands : IsGoalHead after l.name = subst (λ (m : Mark). is_goal_name m ≡ true) (h.named (goal-is_name l.mark e)) e in
      (lifted_here ps (word l) ts h told, (lifted_short ps l ts, stands))

  compared_here : (ps : List Param) (rel : Rel) (a b : Nested) → AllTold after a → AllTold after b → IsCondHere ps (cond.Cmp rel (expr_tree (value certain (line_words ps) a)) (expr_tree (value certain (line_words ps) b)))
  compared_here ps rel a b p q =
      let x = value_here ps a p in
      let y = value_here ps b q in
      ((x.0, y.0), (x.1, y.1))

  equality_here : (ps : List Param) (a b : Nested) → AllTold after a → AllTold after b → IsCondHere ps (equality certain (line_words ps) a b)
  equality_here ps (group ts) b p q = compared_here ps Eq (group ts) b p q
  equality_here ps (word l) b p q =
      elim (is mark.Number l.mark) as (λ x. IsCondHere ps (if x then cond.Cmp Eq (expr_tree (value certain (line_words ps) (word l))) (expr_tree (value certain (line_words ps) b)) else cond.Same (term ps l) (term ps (word_of b)))) [
        | true ↦ compared_here ps Eq (word l) b p q
        | false ↦ ((term_here ps l p.below, term_here ps (word_of b) (word_name b q)), (tt, tt))
      ]

  related_here : (ps : List Param) (o : Option Rel) (head : Bool) (a b : Nested) (other : Cond) → AllTold after a → AllTold after b → (head ≡ true → IsCondHere ps other) → (head || (is_some o && true)) ≡ true → IsCondHere ps (related certain (line_words ps) o a b other)
  related_here ps None head a b other p q h e = h (alone head true e)
  related_here ps (Some Eq) head a b other p q h e = equality_here ps a b p q
  related_here ps (Some rel) head a b other p q h e = compared_here ps rel a b p q

  plain_here : (ps : List Param) (l : Lexeme) (ts : Nesteds) → IsTold after l → AreTold after ts → is_headed l.mark ts ≡ true → IsCondHere ps (plain_condition certain (line_words ps) l ts)
  plain_here ps l none h told e = holds_here ps l none h told (alone (is_goal_name l.mark) (is_some (rel_of l.mark)) e)
  plain_here ps l (more a none) h told e = holds_here ps l (more a none) h told (alone (is_goal_name l.mark) (is_some (rel_of l.mark)) e)
  plain_here ps l (more a (more b ts)) h told e =
      related_here ps (rel_of l.mark) (is_goal_name l.mark) a b (cond.Holds (lifted ps l (more a (more b ts)))) told.0 told.1.0 (holds_here ps l (more a (more b ts)) h told) e

  -- what follows a head that binds nothing
  rest_stays : (ps : List Param) (l : Lexeme) (ts : Nesteds) → binds_head (head_of l.mark) ≡ false → stray_form (in_force ps) (more (word l) ts) ≡ None → strays (in_force ps) ts ≡ None
  rest_stays ps l ts q e =
      let none : quantifies l.mark ≡ false = quantifies-head l.mark ∙ q in
      (neither (loose (in_force ps) l) (strays (in_force ps) ts) (rw none at e)).1

  -- and one that binds
  list_stays : (ps : List Param) (l : Lexeme) (ts : Nesteds) → binds_head (head_of l.mark) ≡ true → stray_form (in_force ps) (more (word l) ts) ≡ None → below (binds (in_force ps) (items_at ts)) (λ ns. strays ns ts) ≡ None
  list_stays ps l ts q e =
      let some : quantifies l.mark ≡ true = quantifies-head l.mark ∙ q in
      rw some at e

  quantifier_here : (ps qs : List Param) (each : Bool) (c : Cond) → All (IsParamOf (length after)) qs → AreBindable after ps qs → IsCondHere (ps ++ qs) c → IsCondHere ps (quantifier each qs (cond_tree c))
  quantifier_here ps qs true c known bindable h = ((known, h.0), (bindable, h.1))
  quantifier_here ps qs false c known bindable h = ((known, h.0), (bindable, h.1))

  mutual
    condition_here : (ps : List Param) (t : Nested) → length ps ≤ 2 → AreApart (λ p. p.name) ps → AllTold after t → is_formed t ≡ true → stray (in_force ps) t ≡ None → IsCondHere ps (meant.condition certain line_scopes ps t)
    condition_here ps (word l) few apart h e stays = absurd (cc)
    condition_here ps (group ts) few apart h e stays = form_here ps ts few apart h e stays

    form_here : (ps : List Param) (ts : Nesteds) → length ps ≤ 2 → AreApart (λ p. p.name) ps → AreTold after ts → is_form ts ≡ true → stray_form (in_force ps) ts ≡ None → IsCondHere ps (form certain line_scopes ps ts)
    form_here ps none few apart h e stays = (tt, tt)
    form_here ps (more (group us) ts) few apart h e stays = absurd (cc)
    form_here ps (more (word l) ts) few apart h e stays =
        rw (conditions-each line_scopes ps ts []) (by_head_here (IsCondHere ps) (head_of l.mark) _ _
        (λ q g. conditions_here ps ts few apart h.1 g (rest_stays ps l ts q stays))
        (λ q g. let all = conditions_here ps ts few apart h.1 g (rest_stays ps l ts q stays) in ((tt, all.0), (tt, all.1)))
        (λ q g. negation_here ps ts few apart h.1 g (rest_stays ps l ts q stays))
        (λ q g. implication_here ps ts few apart h.1 g (rest_stays ps l ts q stays))
        (λ q g. quantified_here ps false ts few apart h.1 g (list_stays ps l ts q stays))
        (λ q g. quantified_here ps true ts few apart h.1 g (list_stays ps l ts q stays))
        (λ g. plain_here ps l ts h.0 h.1 g) e)

    negation_here : (ps : List Param) (ts : Nesteds) → length ps ≤ 2 → AreApart (λ p. p.name) ps → AreTold after ts → begins_formed ts ≡ true → strays (in_force ps) ts ≡ None → IsCondHere ps (negation certain line_scopes ps ts)
    negation_here ps none few apart h e stays = (tt, tt)
    negation_here ps (more c ts) few apart h e stays = condition_here ps c few apart h.0 e (neither (stray (in_force ps) c) (strays (in_force ps) ts) stays).0

    implication_here : (ps : List Param) (ts : Nesteds) → length ps ≤ 2 → AreApart (λ p. p.name) ps → AreTold after ts → are_two_formed ts ≡ true → strays (in_force ps) ts ≡ None → IsCondHere ps (implication certain line_scopes ps ts)
    implication_here ps none few apart h e stays = (tt, tt)
    implication_here ps (more a none) few apart h e stays = (tt, tt)
    implication_here ps (more a (more b ts)) few apart h e stays =
        let parts = and_parts (is_formed a) (is_formed b) e in
        let both = neither (stray (in_force ps) a) (strays (in_force ps) (more b ts)) stays in
        let one = condition_here ps a few apart h.0 parts.0 both.0 in
        let other = condition_here ps b few apart h.1.0 parts.1 (neither (stray (in_force ps) b) (strays (in_force ps) ts) both.1).0 in
        ((tt, (one.0, other.0)), (tt, (one.1, other.1)))

    quantified_here : (ps : List Param) (each : Bool) (ts : Nesteds) → length ps ≤ 2 → AreApart (λ p. p.name) ps → AreTold after ts → binds_formed ts ≡ true → below (binds (in_force ps) (items_at ts)) (λ ns. strays ns ts) ≡ None → IsCondHere ps (quantified certain line_scopes ps each ts)
    quantified_here ps each none few apart h e stays = (tt, tt)
    quantified_here ps each (more vs none) few apart h e stays = (tt, tt)
    quantified_here ps each (more (word l) (more c ts)) few apart h e stays = absurd (cc)
    quantified_here ps each (more (group us) (more c ts)) few apart h e stays =
        let parts = and_parts (are_variables us) (is_formed c) e in
        let found = below_told (binds (in_force ps) us) (λ ns. strays ns (more (group us) (more c ts))) stays in
        let own = bound_told us ps found.0 few apart parts.0 found.1 in
        let whole : bound ps us ≡ typed us = take_all (2 - length ps) (typed us) (omega (arith, own.0, length-append ps (typed us))) in
        let later = (neither (stray found.0 (group us)) (strays found.0 (more c ts)) found.2).1 in
        let here : stray found.0 c ≡ None = (neither (stray found.0 c) (strays found.0 ts) later).0 in
        let stays_here : stray (in_force (ps ++ typed us)) c ≡ None = subst (λ (ns : List Name). stray ns c ≡ None) own.2 here in
        let bindable : AreBindable after ps (typed us) = record { few = own.0; apart = own.1; free = free_here us h.0 parts.0 } in
        rw whole (quantifier_here ps (typed us) each (meant.condition certain line_scopes (ps ++ typed us) c) (params_here us h.0) bindable (condition_here (ps ++ typed us) c own.0 own.1 h.1.0 parts.1 stays_here))

    conditions_here : (ps : List Param) (ts : Nesteds) → length ps ≤ 2 → AreApart (λ p. p.name) ps → AreTold after ts → are_formed ts ≡ true → strays (in_force ps) ts ≡ None → AreCondsOf (length after) ps (cond_trees (each line_scopes ps ts)) × HaveGoalHeads after ps (cond_trees (each line_scopes ps ts))
    conditions_here ps none few apart h e stays = (tt, tt)
    conditions_here ps (more c cs) few apart h e stays =
        let parts = and_parts (is_formed c) (are_formed cs) e in
        let both = neither (stray (in_force ps) c) (strays (in_force ps) cs) stays in
        let one = condition_here ps c few apart h.0 parts.0 both.0 in
        let later = conditions_here ps cs few apart h.1 parts.1 both.1 in
        ((one.0, later.0), (one.1, later.1))

  -- the first condition, where its list is formed and no variable is out of its scope
  pub first_here : (ts : Nesteds) → AreTold after ts → begins_formed ts ≡ true → strays [] ts ≡ None → IsCondOf (length after) [] (cond_tree (first_condition ts)) × HasGoalHeads after [] (cond_tree (first_condition ts))
  first_here none h e stays = (tt, tt)
  first_here (more t ts) h e stays =
      condition_here [] t (omega arith) (λ i j d lt within. absurd (omega (arith, within))) h.0 e (neither (stray [] t) (strays [] ts) stays).0
