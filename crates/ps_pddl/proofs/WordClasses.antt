-- The words of a domain's canonical text have classes.
use Rattle.std.proofs.Common.{◌≡◌, ℕ, ℤ, suc, pos, negsuc, ◌+◌, ◌/◌, ◌%◌, ◌^◌, ◌<◌, ◌≤◌, ◌==◌, Bool, true, false, not, cond, if◌then◌else◌, Option, Some, None, is_ok, is_none, position, List, [], ◌∷◌, ◌++◌, length, map, codes, decimal, is_some, IsSome, All, refl, sym, ap, subst, arith}
use Rattle.std.proofs.lemmas.Bool.{and_left, or_from}
use Rattle.std.proofs.lemmas.Bool.Decides.{nat_tests}
use Rattle.std.proofs.lemmas.Fmt.{decimal_by_steps}
use Rattle.std.proofs.lemmas.List.Elements.{All-nil, All-cons, All-head, All-tail, All-append}
use Rattle.std.proofs.lemmas.List.Folds.{flat_map-map}
use Rattle.std.specs.Char.{is_ascii_digit}
use Rattle.std.specs.List.{flat_map}
use Rattle.ps_world.specs.Lines.{same_text}
use Rattle.ps_world.specs.Names.{Table, object, name_text}
use Rattle.ps_world.specs.Numbers.{IsCount, decimals_text, magnitude_text, number_text}
use Rattle.ps_world.specs.DomainTexts.{op_text, rel_text, num_op_text}
use Rattle.ps_world.specs.Trees.{ExprTree, number, value_of, negated, operated, CondTree, CondTrees, all_of, any_of, no, implied, holds, same, compares, is_a, for_some, for_all}
use Rattle.ps_world.specs.Trees as tree
use Rattle.ps_world.specs.ExprViews.{expr_tree}
use Rattle.ps_world.specs.CondViews.{cond_tree}
use Rattle.ps_world.specs.declared.names.Name.{Name}
use Rattle.ps_world.specs.declared.schemas.Term.{Term}
use Rattle.ps_world.specs.declared.schemas.Term.TheVariants.{Var, Const}
use Rattle.ps_world.specs.declared.schemas.Lifted.{Lifted}
use Rattle.ps_world.specs.declared.expressions.Op.{Op}
use Rattle.ps_world.specs.declared.expressions.Op.TheVariants as op
use Rattle.ps_world.specs.declared.conditions.Rel.{Rel}
use Rattle.ps_world.specs.declared.conditions.Rel.TheVariants as rel
use Rattle.ps_world.specs.declared.actions.NumOp.{NumOp}
use Rattle.ps_world.specs.declared.actions.NumOp.TheVariants as num_op
use Rattle.ps_world.specs.declared.actions.Effect.{Effect}
use Rattle.ps_world.specs.declared.actions.Effect.TheVariants.{Add, Delete, Number}
use Rattle.ps_world.specs.declared.actions.Guarded.{Guarded}
use Rattle.ps_world.specs.declared.actions.Guarded.TheVariants.{Plain, When}
use Rattle.ps_world.specs.declared.actions.Spread.{Spread}
use Rattle.ps_world.specs.declared.actions.Spread.TheVariants.{Once, ForAll}
use Rattle.ps_world.specs.declared.actions.ActionDef.{ActionDef}
use Rattle.ps_world.specs.declared.domains.Param.{Param}
use Rattle.ps_world.specs.declared.domains.Decl.{Decl}
use Rattle.ps_world.specs.declared.domains.Domain.{Domain}
use Rattle.ps_text.specs.Decimals.{number_of}
use Rattle.ps_text.specs.Names.{fault_at, is_letter, is_name, is_name_byte, name_fault, AreNames}
use Rattle.ps_text.specs.Tokens.{begins_digit, begins_number, class_of, is_marked, is_sign, is_sign_byte}
use Rattle.ps_text.specs.declared.lexing.Class.{Class}
use Rattle.ps_text.specs.declared.lexing.Class.TheVariants as class
use Rattle.ps_text.proofs.Printed.{number_of-printed, no_minus, is_digit}
use Rattle.ps_lists.proofs.ClassNumbers.{first_number, minus_class}
use Rattle.ps_print.specs.CanonicalWords.{grouped, typed_words, param_words, decl_words, term_words, lifted_words, expr_words, bound_words, cond_words, conds_words, effect_words, guarded_words, spread_words, timed_words, at_start, over_all, at_end, conditions_words, effects_words, action_words, section_words, domain_words, IsNameOf, IsParamOf, IsDeclOf, IsTermOf, IsLiftedOf, IsExprOf, IsCondOf, AreCondsOf, IsEffectOf, IsGuardedOf, IsSpreadOf, IsActionOf, IsDomainOf}
use Rattle.ps_pddl.proofs.CanonicalForms.{param_name}

-- ---- the class of a name

-- the first class that fits, by what is tested
abbrev first_class : (left right sign variable keyword begins numeric continuous name : Bool) → Option Class
first_class left right sign variable keyword begins numeric continuous name =
    if left then Some class.LeftParen
    else (if right then Some class.RightParen
    else (if sign then Some class.Sign
    else (if variable then Some class.Variable
    else (if keyword then Some class.Keyword
    else (if begins then (if numeric then Some class.Number else None)
    else (if continuous then Some class.Continuous
    else (if name then Some class.Name else None)))))))

name_last : (o c s v k b n t m : Bool) → o ≡ false → c ≡ false → s ≡ false → v ≡ false → k ≡ false → b ≡ false → t ≡ false → m ≡ true → first_class o c s v k b n t m ≡ Some class.Name
name_last o c s v k b n t m p q r x y z e f = rw (p, q, r, x, y, z, e, f)

-- a byte with which no sign begins, and none of the other classes that come first
record IsPlainByte (b : ℕ) : Type 0 where
  open_paren : (b == 40) ≡ false
  close_paren : (b == 41) ≡ false
  sign : is_sign_byte b ≡ false
  less : (b == 60) ≡ false
  greater : (b == 62) ≡ false
  variable : (b == 63) ≡ false
  keyword : (b == 58) ≡ false
  continuous : (b == 35) ≡ false

letter_plain : (b : ℕ) → is_letter b ≡ true → IsPlainByte b
letter_plain b h =
    record {
      open_paren = grind (arith, nat_tests);
      close_paren = grind (arith, nat_tests);
      sign = grind (arith, nat_tests);
      less = grind (arith, nat_tests);
      greater = grind (arith, nat_tests);
      variable = grind (arith, nat_tests);
      keyword = grind (arith, nat_tests);
      continuous = grind (arith, nat_tests);
    }

digit_plain : (b : ℕ) → is_ascii_digit b ≡ true → IsPlainByte b
digit_plain b h =
    record {
      open_paren = grind (arith, nat_tests);
      close_paren = grind (arith, nat_tests);
      sign = grind (arith, nat_tests);
      less = grind (arith, nat_tests);
      greater = grind (arith, nat_tests);
      variable = grind (arith, nat_tests);
      keyword = grind (arith, nat_tests);
      continuous = grind (arith, nat_tests);
    }

no_minus-letter : (b : ℕ) → is_letter b ≡ true → (b == 45) ≡ false
no_minus-letter b h = grind (arith, nat_tests)

no_digit-letter : (b : ℕ) → is_letter b ≡ true → is_ascii_digit b ≡ false
no_digit-letter b h = grind (arith, nat_tests)

no_sign : (b : ℕ) (bs : List ℕ) → IsPlainByte b → is_sign (b ∷ bs) ≡ false
no_sign b [] p = p.sign
no_sign b (c ∷ cs) p = or_from _ _ (and_left (b == 60) _ p.less) (and_left (b == 62) _ p.greater)

letter_first : (bs : List ℕ) (n : ℕ) (e : Bool) → fault_at (cond e (position (λ c. not (is_name_byte c)) bs) (Some 0)) n ≡ None → e ≡ true
letter_first bs n true h = refl
letter_first bs n false h = absurd (cc)

pub class_of-name : (w : List ℕ) → name_fault w ≡ None → class_of w ≡ Some class.Name
class_of-name [] h = absurd (cc)
class_of-name (b ∷ bs) h =
    let letter : is_letter b ≡ true = letter_first (b ∷ bs) (length (b ∷ bs)) (is_letter b) h in
    let p = letter_plain b letter in
    let no_number : begins_number (b ∷ bs) ≡ false = rw (no_minus-letter b letter) (no_digit-letter b letter) in
    name_last (same_text (b ∷ bs) (codes "(")) (same_text (b ∷ bs) (codes ")")) (is_sign (b ∷ bs)) (is_marked 63 (b ∷ bs)) (is_marked 58 (b ∷ bs)) (begins_number (b ∷ bs)) (is_ok (number_of (b ∷ bs))) (same_text (b ∷ bs) (codes "#t")) (is_name (b ∷ bs))
    (and_left (b == 40) _ p.open_paren) (and_left (b == 41) _ p.close_paren) (no_sign b bs p) (and_left (b == 63) _ p.variable) (and_left (b == 58) _ p.keyword) no_number (and_left (b == 35) _ p.continuous) (ap is_none h)

-- ---- the class of a variable

chosen : {A : Type 0} (p : Bool) (x y : A) → p ≡ true → (if p then x else y) ≡ x
chosen p x y h = rw h

pub class_of-variable : (w : List ℕ) → name_fault w ≡ None → class_of (codes "?" ++ w) ≡ Some class.Variable
class_of-variable [] h = absurd (cc)
class_of-variable (b ∷ bs) h = chosen (is_name (b ∷ bs)) (Some class.Variable) _ (ap is_none h)

-- ---- the class of a number

begins_digit-append : (ds rest : List ℕ) → begins_digit ds ≡ true → begins_digit (ds ++ rest) ≡ true
begins_digit-append [] rest h = absurd (cc)
begins_digit-append (d ∷ ds) rest h = h

begins_digit-decimal : (n : ℕ) → n < 2 ^ 64 → begins_digit (decimal n) ≡ true
begins_digit-decimal = decimal_by_steps (λ n ds. begins_digit ds ≡ true) is_digit (λ n ds h e. begins_digit-append ds ((48 + n % 10) ∷ []) e)

begins_digit-magnitude : (n : ℕ) → n ≤ 10 ^ 15 → begins_digit (magnitude_text n) ≡ true
begins_digit-magnitude n h = begins_digit-append (decimal (n / 1000)) (decimals_text n) (begins_digit-decimal (n / 1000) (omega arith))

begins_number-digit : (w : List ℕ) → begins_digit w ≡ true → begins_number w ≡ true
begins_number-digit [] h = absurd (cc)
begins_number-digit (b ∷ bs) h = rw (no_minus b h) h

class_of-digit : (w : List ℕ) → begins_digit w ≡ true → is_ok (number_of w) ≡ true → class_of w ≡ Some class.Number
class_of-digit [] h ok = absurd (cc)
class_of-digit (b ∷ bs) h ok =
    let p = digit_plain b h in
    first_number (same_text (b ∷ bs) (codes "(")) (same_text (b ∷ bs) (codes ")")) (is_sign (b ∷ bs)) (is_marked 63 (b ∷ bs)) (is_marked 58 (b ∷ bs)) (begins_number (b ∷ bs)) (is_ok (number_of (b ∷ bs))) (same_text (b ∷ bs) (codes "#t")) (is_name (b ∷ bs))
    (and_left (b == 40) _ p.open_paren) (and_left (b == 41) _ p.close_paren) (no_sign b bs p) (and_left (b == 63) _ p.variable) (and_left (b == 58) _ p.keyword) (begins_number-digit (b ∷ bs) h) ok

pub class_of-number : (z : ℤ) → IsCount z → class_of (number_text z) ≡ Some class.Number
class_of-number (pos n) h = class_of-digit (magnitude_text n) (begins_digit-magnitude n h) (ap is_ok (number_of-printed (pos n) h))
class_of-number (negsuc n) h = minus_class (magnitude_text (suc n)) (begins_digit-magnitude (suc n) h) (ap is_ok (number_of-printed (negsuc n) h))

-- ---- the words of a domain's parts

-- each of these words has a class
pub record Classed (ws : List (List ℕ)) : Type 0 where
  pub all : All (λ w. IsSome (class_of w)) ws

pub classed_none : Classed []
classed_none = record { all = All-nil (λ w. IsSome (class_of w)) }

pub classed_more : (w : List ℕ) {ws : List (List ℕ)} → IsSome (class_of w) → Classed ws → Classed (w ∷ ws)
classed_more w {ws} some rest = record { all = All-cons (λ w. IsSome (class_of w)) w ws some rest.all }

pub classed_parts : {ws us : List (List ℕ)} → Classed ws → Classed us → Classed (ws ++ us)
classed_parts {ws} {us} first second = record { all = All-append (λ w. IsSome (class_of w)) ws us first.all second.all }

pub classed_group : {ws : List (List ℕ)} → Classed ws → Classed (grouped ws)
classed_group h = classed_more (codes "(") refl (classed_parts h (classed_more (codes ")") refl classed_none))

pub classed_each : {X : Type 0} (P : X → Type 0) (f : X → List (List ℕ)) → ((x : X) → P x → Classed (f x)) → (xs : List X) → All P xs → Classed (flat_map f xs)
classed_each P f each [] h = classed_none
classed_each P f each (x ∷ xs) h = classed_parts (each x (All-head P x xs h)) (classed_each P f each xs (All-tail P x xs h))

pub some_class : (o : Option Class) (c : Class) → o ≡ Some c → IsSome o
some_class o c e = ap is_some e

classed_op : (o : Op) → IsSome (class_of (op_text o))
classed_op op.Add = refl
classed_op op.Sub = refl
classed_op op.Mul = refl
classed_op op.Div = refl

classed_rel : (r : Rel) → IsSome (class_of (rel_text r))
classed_rel rel.Lt = refl
classed_rel rel.Le = refl
classed_rel rel.Eq = refl
classed_rel rel.Ge = refl
classed_rel rel.Gt = refl

classed_num_op : (how : NumOp) → IsSome (class_of (num_op_text how))
classed_num_op num_op.Assign = refl
classed_num_op num_op.Increase = refl
classed_num_op num_op.Decrease = refl
classed_num_op num_op.ScaleUp = refl
classed_num_op num_op.ScaleDown = refl

module _ (names : Table) (good : AreNames names) where
  abbrev count : ℕ
  count = length names

  classed_name : (n : Name) → IsNameOf count n → IsSome (class_of (name_text names n))
  classed_name n h = some_class (class_of (name_text names n)) class.Name (class_of-name (name_text names n) (good.texts n.0 [] h).name)

  classed_variable : (n : Name) → IsNameOf count n → IsSome (class_of (codes "?" ++ name_text names n))
  classed_variable n h = some_class (class_of (codes "?" ++ name_text names n)) class.Variable (class_of-variable (name_text names n) (good.texts n.0 [] h).name)

  -- `-` and a type after a word
  classed_kind : (w : List ℕ) (n : Name) → IsSome (class_of w) → IsNameOf count n → Classed (w ∷ codes "-" ∷ name_text names n ∷ [])
  classed_kind w n some h = classed_more w some (classed_more (codes "-") refl (classed_more (name_text names n) (classed_name n h) classed_none))

  classed_typed : (p : Param) → IsParamOf count p → Classed (typed_words names p)
  classed_typed p h = classed_kind (name_text names p.name) p.kind (classed_name p.name h.0) h.1

  classed_param : (p : Param) → IsParamOf count p → Classed (param_words names p)
  classed_param p h = classed_kind (codes "?" ++ name_text names p.name) p.kind (classed_variable p.name h.0) h.1

  classed_params : (ps : List Param) → All (IsParamOf count) ps → Classed (flat_map (param_words names) ps)
  classed_params = classed_each (IsParamOf count) (param_words names) classed_param

  classed_decl : (decl : Decl) → IsDeclOf count decl → Classed (decl_words names decl)
  classed_decl decl h = classed_group (classed_more (name_text names decl.name) (classed_name decl.name h.0) (classed_params decl.params h.1))

  module _ (ps : List Param) (known : All (IsParamOf count) ps) where
    classed_term : (t : Term) → IsTermOf count (length ps) t → Classed (term_words names ps t)
    classed_term (Var i) h = classed_more (codes "?" ++ name_text names (param_name ps i)) (classed_variable (param_name ps i) (known i (record { name = object; kind = object }) h).0) classed_none
    classed_term (Const n) h = classed_more (name_text names n) (classed_name n h) classed_none

    classed_lifted : (f : Lifted) → IsLiftedOf count (length ps) f → Classed (lifted_words names ps f)
    classed_lifted f h = classed_group (classed_more (name_text names f.head) (classed_name f.head h.0) (classed_each (IsTermOf count (length ps)) (term_words names ps) classed_term f.terms h.1))

    classed_expr : (x : ExprTree) → IsExprOf count (length ps) x → Classed (expr_words names ps x)
    classed_expr (number n) h = classed_more (number_text n) (some_class (class_of (number_text n)) class.Number (class_of-number n h)) classed_none
    classed_expr (value_of f) h = classed_lifted f h
    classed_expr (negated x) h = classed_group (classed_more (codes "-") refl (classed_expr x h))
    classed_expr (operated o x y) h = classed_group (classed_more (op_text o) (classed_op o) (classed_parts (classed_expr x h.0) (classed_expr y h.1)))

    classed_effect : (e : Effect) → IsEffectOf count (length ps) e → Classed (effect_words names ps e)
    classed_effect (Add f) h = classed_lifted f h
    classed_effect (Delete f) h = classed_group (classed_more (codes "not") refl (classed_lifted f h))
    classed_effect (Number how f x) h = classed_group (classed_more (num_op_text how) (classed_num_op how) (classed_parts (classed_lifted f h.0) (classed_expr (expr_tree x) h.1)))

  -- the variables of a quantifier, and its condition
  classed_bound : (w : List ℕ) (qs : List Param) {ws : List (List ℕ)} → IsSome (class_of w) → All (IsParamOf count) qs → Classed ws → Classed (grouped (w ∷ (bound_words names qs ++ ws)))
  classed_bound w qs some h rest = classed_group (classed_more w some (classed_parts (classed_group (classed_params qs h)) rest))

  mutual
    pub classed_cond : (ps : List Param) → All (IsParamOf count) ps → (c : CondTree) → IsCondOf count ps c → Classed (cond_words names ps c)
    classed_cond ps known (all_of cs) h = classed_group (classed_more (codes "and") refl (classed_conds ps known cs h))
    classed_cond ps known (any_of cs) h = classed_group (classed_more (codes "or") refl (classed_conds ps known cs h.1))
    classed_cond ps known (no c) h = classed_group (classed_more (codes "not") refl (classed_cond ps known c h))
    classed_cond ps known (implied a b) h = classed_group (classed_more (codes "imply") refl (classed_parts (classed_cond ps known a h.1.0) (classed_cond ps known b h.1.1)))
    classed_cond ps known (holds f) h = classed_lifted ps known f h
    classed_cond ps known (same s t) h = classed_group (classed_more (codes "=") refl (classed_parts (classed_term ps known s h.0) (classed_term ps known t h.1)))
    classed_cond ps known (compares r x y) h = classed_group (classed_more (rel_text r) (classed_rel r) (classed_parts (classed_expr ps known x h.0) (classed_expr ps known y h.1)))
    classed_cond ps known (is_a t k) h = absurd h
    classed_cond ps known (for_some qs c) h = classed_bound (codes "exists") qs refl h.0 (classed_cond (ps ++ qs) (All-append (IsParamOf count) ps qs known h.0) c h.1)
    classed_cond ps known (for_all qs c) h = classed_bound (codes "forall") qs refl h.0 (classed_cond (ps ++ qs) (All-append (IsParamOf count) ps qs known h.0) c h.1)

    classed_conds : (ps : List Param) → All (IsParamOf count) ps → (cs : CondTrees) → AreCondsOf count ps cs → Classed (conds_words names ps cs)
    classed_conds ps known tree.none h = classed_none
    classed_conds ps known (tree.more c cs) h = classed_parts (classed_cond ps known c h.0) (classed_conds ps known cs h.1)

  -- a body
  classed_body : {X : Type 0} (P : X → Type 0) (f : X → List (List ℕ)) → ((x : X) → P x → Classed (f x)) → (xs : List X) → All P xs → Classed (grouped (codes "and" ∷ flat_map f xs))
  classed_body P f each xs h = classed_group (classed_more (codes "and") refl (classed_each P f each xs h))

  classed_guarded : (ps : List Param) → All (IsParamOf count) ps → (g : Guarded) → IsGuardedOf count ps g → Classed (guarded_words names ps g)
  classed_guarded ps known (Plain e) h = classed_effect ps known e h
  classed_guarded ps known (When c es) h =
      classed_group (classed_more (codes "when") refl (classed_parts (classed_cond ps known (cond_tree c) h.0) (classed_body (IsEffectOf count (length ps)) (effect_words names ps) (classed_effect ps known) es h.1)))

  classed_spread : (ps : List Param) → All (IsParamOf count) ps → (s : Spread) → IsSpreadOf count ps s → Classed (spread_words names ps s)
  classed_spread ps known (Once g) h = classed_guarded ps known g h
  classed_spread ps known (ForAll qs gs) h =
      classed_bound (codes "forall") qs refl h.0 (classed_body (IsGuardedOf count (ps ++ qs)) (guarded_words names (ps ++ qs)) (classed_guarded (ps ++ qs) (All-append (IsParamOf count) ps qs known h.0)) gs h.1)

  -- parts with the same time
  classed_timed : {X : Type 0} (P : X → Type 0) (f : X → List (List ℕ)) → ((x : X) → P x → Classed (f x)) → (time : List (List ℕ)) → Classed time → (xs : List X) → All P xs → Classed (timed_words time (map f xs))
  classed_timed P f each time timed xs h =
      subst Classed (sym (flat_map-map (λ part. grouped (time ++ part)) f xs))
      (classed_each P (λ x. grouped (time ++ f x)) (λ x p. classed_group (classed_parts timed (each x p))) xs h)

  classed_two : (v w : List ℕ) → IsSome (class_of v) → IsSome (class_of w) → Classed (v ∷ w ∷ [])
  classed_two v w p q = classed_more v p (classed_more w q classed_none)

  module _ (a : ActionDef) (h : IsActionOf count a) where
    classed_conditions : Classed (conditions_words names a)
    classed_conditions =
        let each = classed_cond a.params h.params in
        let P : CondTree → Type 0 = IsCondOf count a.params in
        classed_parts (classed_timed P (cond_words names a.params) each at_start (classed_two (codes "at") (codes "start") refl refl) a.conditions.at_start h.conditions_at_start)
        (classed_parts (classed_timed P (cond_words names a.params) each over_all (classed_two (codes "over") (codes "all") refl refl) a.conditions.over_all h.conditions_over_all)
        (classed_timed P (cond_words names a.params) each at_end (classed_two (codes "at") (codes "end") refl refl) a.conditions.at_end h.conditions_at_end))

    classed_effects : Classed (effects_words names a)
    classed_effects =
        let each = classed_spread a.params h.params in
        let P : Spread → Type 0 = IsSpreadOf count a.params in
        classed_parts (classed_timed P (spread_words names a.params) each at_start (classed_two (codes "at") (codes "start") refl refl) a.effects.at_start h.effects_at_start)
        (classed_timed P (spread_words names a.params) each at_end (classed_two (codes "at") (codes "end") refl refl) a.effects.at_end h.effects_at_end)

    classed_action : Classed (action_words names a)
    classed_action =
        classed_more (codes "(") refl
        (classed_more (codes ":durative-action") refl
        (classed_more (name_text names a.name) (classed_name a.name h.name)
        (classed_more (codes ":parameters") refl
        (classed_parts (classed_group (classed_params a.params h.params))
        (classed_more (codes ":duration") refl
        (classed_parts (classed_group (classed_more (codes "=") refl (classed_more (codes "?duration") refl (classed_expr a.params h.params (expr_tree a.duration) h.duration))))
        (classed_more (codes ":condition") refl
        (classed_parts (classed_group (classed_more (codes "and") refl classed_conditions))
        (classed_more (codes ":effect") refl
        (classed_parts (classed_group (classed_more (codes "and") refl classed_effects)) (classed_more (codes ")") refl classed_none)))))))))))

  classed_section : {X : Type 0} (P : X → Type 0) (f : X → List (List ℕ)) → ((x : X) → P x → Classed (f x)) → (key : List ℕ) → IsSome (class_of key) → (xs : List X) → All P xs → Classed (section_words key (map f xs))
  classed_section P f each key some [] h = classed_none
  classed_section P f each key some (x ∷ xs) h =
      classed_group
      (classed_more key some
      (subst Classed (sym (flat_map-map (λ part. part) f (x ∷ xs))) (classed_each P f each (x ∷ xs) h)))

  -- the words of a domain have classes
  pub classed_domain : (d : Domain) → IsDomainOf count d → Classed (domain_words names d)
  classed_domain d h =
      classed_more (codes "(") refl
      (classed_more (codes "define") refl
      (classed_more (codes "(") refl
      (classed_more (codes "domain") refl
      (classed_more (name_text names d.name) (classed_name d.name h.name)
      (classed_more (codes ")") refl
      (classed_parts (classed_section (IsParamOf count) (typed_words names) classed_typed (codes ":types") refl d.types h.types)
      (classed_parts (classed_section (IsParamOf count) (typed_words names) classed_typed (codes ":constants") refl d.constants h.constants)
      (classed_parts (classed_section (IsDeclOf count) (decl_words names) classed_decl (codes ":predicates") refl d.predicates h.predicates)
      (classed_parts (classed_section (IsDeclOf count) (decl_words names) classed_decl (codes ":functions") refl d.functions h.functions)
      (classed_parts (classed_each (IsActionOf count) (action_words names) classed_action d.actions h.actions) (classed_more (codes ")") refl classed_none)))))))))))
