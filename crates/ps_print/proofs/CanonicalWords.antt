-- The canonical text of a domain writes its words.
use Rattle.std.proofs.Common.{◌≡◌, ℕ, suc, ◌+◌, ◌/◌, ◌%◌, ◌<◌, ◌≤◌, ◌^◌, Bool, true, false, not, cond, Some, None, pos, negsuc, position, List, [], ◌∷◌, ◌++◌, map, length, codes, slice_index_or, refl, sym, ap, subst, ◌∙◌, arith, append_assoc, inl, inr}
use Rattle.std.proofs.lemmas.Bool.{and_from, cases_Bool}
use Rattle.std.proofs.lemmas.Bool.Decides.{nat_tests}
use Rattle.std.proofs.lemmas.Fmt.{decimal_by_steps}
use Rattle.std.proofs.lemmas.List.Elements.{All-head, All-tail, All-append}
use Rattle.std.proofs.lemmas.List.Folds.{list_all-append, flat_map-map}
use Rattle.std.specs.Fmt.{decimal}
use Rattle.std.specs.List.{All, flat_map, list_all, position_or_len}
use Rattle.ps_world.specs.Names.{Table, object, name_text}
use Rattle.ps_world.specs.Numbers.{IsCount, decimals_text, magnitude_text, number_text}
use Rattle.ps_world.specs.DomainTexts as text
use Rattle.ps_world.specs.DomainTexts.{domain_text}
use Rattle.ps_world.specs.Trees.{ExprTree, number, value_of, negated, operated, CondTree, CondTrees, all_of, any_of, no, implied, holds, same, compares, is_a, for_some, for_all, none, more}
use Rattle.ps_world.specs.ExprViews.{expr_tree}
use Rattle.ps_world.specs.CondViews.{cond_tree}
use Rattle.ps_world.specs.declared.names.Name.{Name}
use Rattle.ps_world.specs.declared.schemas.Term.{Term}
use Rattle.ps_world.specs.declared.schemas.Term.TheVariants.{Var, Const}
use Rattle.ps_world.specs.declared.schemas.Lifted.{Lifted}
use Rattle.ps_world.specs.declared.expressions.Op.{Op}
use Rattle.ps_world.specs.declared.expressions.Op.TheVariants.{Add, Sub, Mul, Div}
use Rattle.ps_world.specs.declared.conditions.Rel.{Rel}
use Rattle.ps_world.specs.declared.conditions.Rel.TheVariants.{Lt, Le, Eq, Ge, Gt}
use Rattle.ps_world.specs.declared.actions.NumOp.{NumOp}
use Rattle.ps_world.specs.declared.actions.NumOp.TheVariants as numeric
use Rattle.ps_world.specs.declared.actions.Effect.{Effect}
use Rattle.ps_world.specs.declared.actions.Effect.TheVariants as effect
use Rattle.ps_world.specs.declared.actions.Guarded.{Guarded}
use Rattle.ps_world.specs.declared.actions.Guarded.TheVariants.{Plain, When}
use Rattle.ps_world.specs.declared.actions.Spread.{Spread}
use Rattle.ps_world.specs.declared.actions.Spread.TheVariants.{Once, ForAll}
use Rattle.ps_world.specs.declared.actions.ActionDef.{ActionDef}
use Rattle.ps_world.specs.declared.domains.Param.{Param}
use Rattle.ps_world.specs.declared.domains.Decl.{Decl}
use Rattle.ps_world.specs.declared.domains.Domain.{Domain}
use Rattle.ps_text.specs.Names.{is_letter, is_name_byte, bad_place, name_fault, AreNames}
use Rattle.ps_text.specs.Words.{is_run_byte}
use Rattle.ps_text.proofs.Pieces.{first-yes, first-no}
use Rattle.ps_text.proofs.NameRuns.{no_position-by, no_bad_place}
use Rattle.ps_print.specs.CanonicalWords as canonical
use Rattle.ps_print.specs.CanonicalWords.{IsNameOf, IsParamOf, IsDeclOf, IsTermOf, IsLiftedOf, IsExprOf, IsCondOf, AreCondsOf, IsEffectOf, IsGuardedOf, IsSpreadOf, IsActionOf, IsDomainOf}
use Rattle.ps_print.specs.Laws.{CanonicalWords}
use Rattle.ps_print.proofs.Writing.{Writes, Whole, Later, Ending, whole_whole, whole_writes, writes_later, writes_ending, later_later, later_ending, writes_of, whole_is, later_blank, ending_blank, open_paren, close_paren, is_run, one_word, list_all-is_run, is_run-append, each_after_space, each_spaced, each_timed, Lines, no_lines, one_line, line_lines, lines_lines, words-whole}

-- ---- names

abbrev is_other : ℕ → Bool
is_other c = not (is_name_byte c)

pub is_run_byte-name : (b : ℕ) → is_name_byte b ≡ true → is_run_byte b ≡ true
is_run_byte-name b h = grind (arith, nat_tests)

pub is_run_byte-no_other : (b : ℕ) (e : Bool) → is_name_byte b ≡ e → not e ≡ false → is_run_byte b ≡ true
is_run_byte-no_other b true e h = is_run_byte-name b e
is_run_byte-no_other b false e h = absurd (cc)

-- where no byte is other than a name byte, each is a byte of a longer word
pub list_all-no_other : (bs : List ℕ) → length bs ≤ position_or_len is_other bs → list_all is_run_byte bs ≡ true
list_all-no_other [] h = refl
list_all-no_other (b ∷ bs) h =
    elim (cases_Bool (is_other b)) [
      | inl other ↦ absurd (omega (arith, first-yes is_other b bs other))
      | inr fits ↦ and_from (is_run_byte b) (list_all is_run_byte bs) (is_run_byte-no_other b (is_name_byte b) refl fits) (list_all-no_other bs (omega (arith, first-no is_other b bs fits)))
    ]

pub list_all-begun : (bs : List ℕ) (e : Bool) → cond e (position is_other bs) (Some 0) ≡ None → list_all is_run_byte bs ≡ true
list_all-begun bs true h = list_all-no_other bs (no_position-by (length bs) (position_or_len is_other bs) _ refl h)
list_all-begun bs false h = absurd (cc)

-- the text of a name is one word
pub is_run-name : (name : List ℕ) → name_fault name ≡ None → is_run name ≡ true
is_run-name [] h = absurd (cc)
is_run-name (b ∷ bs) h = list_all-begun (b ∷ bs) (is_letter b) (no_bad_place (bad_place (b ∷ bs)) (length (b ∷ bs)) h)

-- ---- numbers

pub is_run_byte-digit : (d : ℕ) → d < 10 → is_run_byte (48 + d) ≡ true
is_run_byte-digit d h = grind (arith, nat_tests)

pub one_digit : (d : ℕ) → d < 10 → list_all is_run_byte ((48 + d) ∷ []) ≡ true
one_digit d h = and_from (is_run_byte (48 + d)) true (is_run_byte-digit d h) refl

pub list_all-decimal : (n : ℕ) → n < 2 ^ 64 → list_all is_run_byte (decimal n) ≡ true
list_all-decimal =
    decimal_by_steps (λ n ds. list_all is_run_byte ds ≡ true) one_digit
    (λ n ds h all. list_all-append is_run_byte ds ((48 + n % 10) ∷ []) ∙ and_from (list_all is_run_byte ds) (list_all is_run_byte ((48 + n % 10) ∷ [])) all (one_digit (n % 10) (omega arith)))

pub is_run-decimals : (n : ℕ) → is_run (decimals_text n) ≡ true
is_run-decimals n =
    let third = one_digit (n % 10) (omega arith) in
    let second = and_from (is_run_byte (48 + n / 10 % 10)) _ (is_run_byte-digit (n / 10 % 10) (omega arith)) third in
    and_from (is_run_byte (48 + n / 100 % 10)) _ (is_run_byte-digit (n / 100 % 10) (omega arith)) second

pub is_run-magnitude : (n : ℕ) → n ≤ 10 ^ 15 → is_run (magnitude_text n) ≡ true
is_run-magnitude n h = is_run-append (decimal (n / 1000)) (decimals_text n) (list_all-decimal (n / 1000) (omega arith)) (is_run-decimals n)

pub is_run-number : (z : _) → IsCount z → is_run (number_text z) ≡ true
is_run-number (pos n) h = is_run-magnitude n h
is_run-number (negsuc n) h = list_all-is_run (magnitude_text (suc n)) (is_run-magnitude (suc n) h)

-- ---- signs and fixed words

pub op_word : (op : Op) → Writes (text.op_text op) (text.op_text op ∷ [])
op_word Add = one_word (codes "+") refl
op_word Sub = one_word (codes "-") refl
op_word Mul = one_word (codes "*") refl
op_word Div = one_word (codes "/") refl

pub rel_word : (rel : Rel) → Writes (text.rel_text rel) (text.rel_text rel ∷ [])
rel_word Lt = one_word (codes "<") refl
rel_word Le = one_word (codes "<=") refl
rel_word Eq = one_word (codes "=") refl
rel_word Ge = one_word (codes ">=") refl
rel_word Gt = one_word (codes ">") refl

num_op_word : (how : NumOp) → Writes (text.num_op_text how) (text.num_op_text how ∷ [])
num_op_word numeric.Assign = one_word (codes "assign") refl
num_op_word numeric.Increase = one_word (codes "increase") refl
num_op_word numeric.Decrease = one_word (codes "decrease") refl
num_op_word numeric.ScaleUp = one_word (codes "scale-up") refl
num_op_word numeric.ScaleDown = one_word (codes "scale-down") refl

minus : Whole (codes "- ") (codes "-" ∷ [])
minus = record { whole = λ rest. refl }

pub open_minus : Whole (codes "(- ") (codes "(" ∷ codes "-" ∷ [])
open_minus = record { whole = λ rest. refl }

pub open_same : Whole (codes "(= ") (codes "(" ∷ codes "=" ∷ [])
open_same = record { whole = λ rest. refl }

pub open_not : Whole (codes "(not ") (codes "(" ∷ codes "not" ∷ [])
open_not = record { whole = λ rest. refl }

pub open_and : Writes (codes "(and") (codes "(" ∷ codes "and" ∷ [])
open_and = whole_writes open_paren (one_word (codes "and") refl)

open_or : Writes (codes "(or") (codes "(" ∷ codes "or" ∷ [])
open_or = whole_writes open_paren (one_word (codes "or") refl)

open_imply : Whole (codes "(imply ") (codes "(" ∷ codes "imply" ∷ [])
open_imply = record { whole = λ rest. refl }

open_exists : Whole (codes "(exists ") (codes "(" ∷ codes "exists" ∷ [])
open_exists = record { whole = λ rest. refl }

open_forall : Whole (codes "(forall ") (codes "(" ∷ codes "forall" ∷ [])
open_forall = record { whole = λ rest. refl }

open_when : Whole (codes "(when ") (codes "(" ∷ codes "when" ∷ [])
open_when = record { whole = λ rest. refl }

at : Whole (codes "at ") (codes "at" ∷ [])
at = record { whole = λ rest. refl }

over : Whole (codes "over ") (codes "over" ∷ [])
over = record { whole = λ rest. refl }

start_time : Writes (codes "at start") canonical.at_start
start_time = whole_writes at (one_word (codes "start") refl)

all_time : Writes (codes "over all") canonical.over_all
all_time = whole_writes over (one_word (codes "all") refl)

end_time : Writes (codes "at end") canonical.at_end
end_time = whole_writes at (one_word (codes "end") refl)

action_start : Whole (codes "(:durative-action ") (codes "(" ∷ codes ":durative-action" ∷ [])
action_start = record { whole = λ rest. refl }

parameters_start : Whole (codes ":parameters (") (codes ":parameters" ∷ codes "(" ∷ [])
parameters_start = record { whole = λ rest. refl }

duration_start : Whole (codes ":duration (= ?duration ") (codes ":duration" ∷ codes "(" ∷ codes "=" ∷ codes "?duration" ∷ [])
duration_start = record { whole = λ rest. refl }

condition_start : Whole (codes ":condition ") (codes ":condition" ∷ [])
condition_start = record { whole = λ rest. refl }

effect_start : Whole (codes ":effect ") (codes ":effect" ∷ [])
effect_start = record { whole = λ rest. refl }

two_close : Ending (codes "))") (codes ")" ∷ codes ")" ∷ [])
two_close = record { whole = λ rest. refl; apart = λ rest. refl }

domain_start : Whole (codes "(define (domain ") (codes "(" ∷ codes "define" ∷ codes "(" ∷ codes "domain" ∷ [])
domain_start = record { whole = λ rest. refl }

-- the words of two parts and a parenthesis
close_two : (first : List ℕ) (ws us : List (List ℕ)) → codes "(" ∷ first ∷ (ws ++ (us ++ codes ")" ∷ [])) ≡ canonical.grouped (first ∷ (ws ++ us))
close_two first ws us = ap (λ l. codes "(" ∷ first ∷ l) (sym (append_assoc ws us (codes ")" ∷ [])))

-- two parts after a sign, between two parentheses
two_parts : {sign t u : List ℕ} {ws us : List (List ℕ)} → Writes sign (sign ∷ []) → Writes t ws → Writes u us
    → Whole (codes "(" ++ (sign ++ (codes " " ++ (t ++ (codes " " ++ (u ++ codes ")")))))) (canonical.grouped (sign ∷ (ws ++ us)))
two_parts {sign} {t} {u} {ws} {us} s p q =
    let last : Whole (u ++ codes ")") (us ++ codes ")" ∷ []) = writes_ending q close_paren in
    let parts : Whole (t ++ (codes " " ++ (u ++ codes ")"))) (ws ++ (us ++ codes ")" ∷ [])) = writes_ending p (ending_blank last) in
    whole_is (close_two sign ws us) (whole_whole open_paren (writes_ending s (ending_blank parts)))

-- ---- a domain's parts, where its names stand in the table

module _ (names : Table) (good : AreNames names) where
  abbrev count : ℕ
  count = length names

  is_run-of : (n : Name) → IsNameOf count n → is_run (name_text names n) ≡ true
  is_run-of n h = is_run-name (name_text names n) (good.texts n.0 [] h).name

  name : (n : Name) → IsNameOf count n → Writes (name_text names n) (name_text names n ∷ [])
  name n h = one_word (name_text names n) (is_run-of n h)

  variable : (n : Name) → IsNameOf count n → Writes (codes "?" ++ name_text names n) ((codes "?" ++ name_text names n) ∷ [])
  variable n h = one_word (codes "?" ++ name_text names n) (list_all-is_run (name_text names n) (is_run-of n h))

  kind : (n : Name) → IsNameOf count n → Later (codes " - " ++ name_text names n) (codes "-" ∷ name_text names n ∷ [])
  kind n h = later_blank (whole_writes minus (name n h))

  typed : (p : Param) → IsParamOf count p → Writes (text.typed_text names p) (canonical.typed_words names p)
  typed p h = writes_later (name p.name h.0) (kind p.kind h.1)

  param : (p : Param) → IsParamOf count p → Writes (text.param_text names p) (canonical.param_words names p)
  param p h = writes_later (variable p.name h.0) (kind p.kind h.1)

  decl : (d : Decl) → IsDeclOf count d → Writes (text.decl_text names d) (canonical.decl_words names d)
  decl d h =
      let params = each_after_space (IsParamOf count) (text.param_text names) (canonical.param_words names) param d.params h.1 in
      writes_of (whole_whole open_paren (writes_ending (name d.name h.0) (later_ending params close_paren)))

  module _ (ps : List Param) (known : All (IsParamOf count) ps) where
    term : (t : Term) → IsTermOf count (length ps) t → Writes (text.term_text names ps t) (canonical.term_words names ps t)
    term (Var i) h = variable (slice_index_or ps i (record { name = object; kind = object })).name (known i (record { name = object; kind = object }) h).0
    term (Const n) h = name n h

    lifted : (l : Lifted) → IsLiftedOf count (length ps) l → Whole (text.lifted_text names ps l) (canonical.lifted_words names ps l)
    lifted l h =
        let terms = each_after_space (IsTermOf count (length ps)) (text.term_text names ps) (canonical.term_words names ps) term l.terms h.1 in
        whole_whole open_paren (writes_ending (name l.head h.0) (later_ending terms close_paren))

    expr : (x : ExprTree) → IsExprOf count (length ps) x → Writes (text.expr_text names ps x) (canonical.expr_words names ps x)
    expr (number n) h = one_word (number_text n) (is_run-number n h)
    expr (value_of l) h = writes_of (lifted l h)
    expr (negated x) h = writes_of (whole_whole open_minus (writes_ending (expr x h) close_paren))
    expr (operated op x y) h = writes_of (two_parts (op_word op) (expr x h.0) (expr y h.1))

    one_effect : (e : Effect) → IsEffectOf count (length ps) e → Writes (text.effect_text names ps e) (canonical.effect_words names ps e)
    one_effect (effect.Add l) h = writes_of (lifted l h)
    one_effect (effect.Delete l) h = writes_of (whole_whole open_not (writes_ending (writes_of (lifted l h)) close_paren))
    one_effect (effect.Number how l x) h = writes_of (two_parts (num_op_word how) (writes_of (lifted l h.0)) (expr (expr_tree x) h.1))

  -- the variables of a quantifier
  bound : (qs : List Param) → All (IsParamOf count) qs → Whole (text.bound_text names qs) (canonical.bound_words names qs)
  bound qs h = whole_whole open_paren (writes_ending (each_spaced (IsParamOf count) (text.param_text names) (canonical.param_words names) param qs h) close_paren)

  -- two parts after the start of a form
  after_start : {start part rest : List ℕ} {first : List ℕ} {ws us : List (List ℕ)} → Whole start (codes "(" ∷ first ∷ []) → Writes part ws → Writes rest us
      → Whole (start ++ (part ++ (codes " " ++ (rest ++ codes ")")))) (canonical.grouped (first ∷ (ws ++ us)))
  after_start {start} {part} {rest} {first} {ws} {us} s p q =
      let last : Whole (rest ++ codes ")") (us ++ codes ")" ∷ []) = writes_ending q close_paren in
      whole_is (close_two first ws us) (whole_whole s (writes_ending p (ending_blank last)))

  mutual
    pub condition : (ps : List Param) → All (IsParamOf count) ps → (c : CondTree) → IsCondOf count ps c → Writes (text.cond_text names ps c) (canonical.cond_words names ps c)
    condition ps known (all_of cs) h = writes_of (writes_ending open_and (later_ending (conditions ps known cs h) close_paren))
    condition ps known (any_of cs) h = writes_of (writes_ending open_or (later_ending (conditions ps known cs h.1) close_paren))
    condition ps known (no c) h = writes_of (whole_whole open_not (writes_ending (condition ps known c h) close_paren))
    condition ps known (implied a b) h = writes_of (after_start open_imply (condition ps known a h.1.0) (condition ps known b h.1.1))
    condition ps known (holds l) h = writes_of (lifted ps known l h)
    condition ps known (same s t) h = writes_of (whole_whole open_same (writes_ending (term ps known s h.0) (ending_blank (writes_ending (term ps known t h.1) close_paren))))
    condition ps known (compares rel x y) h = writes_of (two_parts (rel_word rel) (expr ps known x h.0) (expr ps known y h.1))
    condition ps known (is_a t k) h = absurd h
    condition ps known (for_some qs c) h = writes_of (after_start open_exists (writes_of (bound qs h.0)) (condition (ps ++ qs) (All-append (IsParamOf count) ps qs known h.0) c h.1))
    condition ps known (for_all qs c) h = writes_of (after_start open_forall (writes_of (bound qs h.0)) (condition (ps ++ qs) (All-append (IsParamOf count) ps qs known h.0) c h.1))

    conditions : (ps : List Param) → All (IsParamOf count) ps → (cs : CondTrees) → AreCondsOf count ps cs → Later (text.conds_text names ps cs) (canonical.conds_words names ps cs)
    conditions ps known none h = record { writes = λ rest e. refl; apart = λ rest e. e }
    conditions ps known (more c cs) h = later_blank (writes_later (condition ps known c h.0) (conditions ps known cs h.1))

  -- ---- effects

  -- parts after `and`, between two parentheses
  body : {X : Type 0} (P : X → Type 0) (f : X → List ℕ) (g : X → List (List ℕ)) → ((x : X) → P x → Writes (f x) (g x)) → (xs : List X) → All P xs
      → Writes (codes "(and" ++ (text.after_spaces (map f xs) ++ codes ")")) (canonical.grouped (codes "and" ∷ flat_map g xs))
  body P f g each xs h = writes_of (writes_ending open_and (later_ending (each_after_space P f g each xs h) close_paren))

  -- a form's first part, and a body
  with_body : {X : Type 0} {start part : List ℕ} {first : List ℕ} {ws : List (List ℕ)} (P : X → Type 0) (f : X → List ℕ) (g : X → List (List ℕ)) → ((x : X) → P x → Writes (f x) (g x)) → (xs : List X) → All P xs
      → Whole start (codes "(" ∷ first ∷ []) → Writes part ws
      → Writes (start ++ (part ++ (codes " (and" ++ (text.after_spaces (map f xs) ++ codes "))")))) (canonical.grouped (first ∷ (ws ++ canonical.grouped (codes "and" ∷ flat_map g xs))))
  with_body {X} {start} {part} {first} {ws} P f g each xs h s p =
      let same : (codes "(and" ++ (text.after_spaces (map f xs) ++ codes ")")) ++ codes ")" ≡ codes "(and" ++ (text.after_spaces (map f xs) ++ codes "))") =
      ap (λ l. codes "(and" ++ l) (append_assoc (text.after_spaces (map f xs)) (codes ")") (codes ")")) in
      subst (λ l. Writes (start ++ (part ++ (codes " " ++ l))) (canonical.grouped (first ∷ (ws ++ canonical.grouped (codes "and" ∷ flat_map g xs))))) same
      (writes_of (after_start s p (body P f g each xs h)))

  guarded : (ps : List Param) → All (IsParamOf count) ps → (g : Guarded) → IsGuardedOf count ps g → Writes (text.guarded_text names ps g) (canonical.guarded_words names ps g)
  guarded ps known (Plain e) h = one_effect ps known e h
  guarded ps known (When c es) h =
      with_body (IsEffectOf count (length ps)) (text.effect_text names ps) (canonical.effect_words names ps) (one_effect ps known) es h.1
      open_when (condition ps known (cond_tree c) h.0)

  spread : (ps : List Param) → All (IsParamOf count) ps → (s : Spread) → IsSpreadOf count ps s → Writes (text.spread_text names ps s) (canonical.spread_words names ps s)
  spread ps known (Once g) h = guarded ps known g h
  spread ps known (ForAll qs gs) h =
      with_body (IsGuardedOf count (ps ++ qs)) (text.guarded_text names (ps ++ qs)) (canonical.guarded_words names (ps ++ qs))
      (guarded (ps ++ qs) (All-append (IsParamOf count) ps qs known h.0)) gs h.1 open_forall (writes_of (bound qs h.0))

  -- ---- actions

  module _ (a : ActionDef) (h : IsActionOf count a) where
    timed_condition : (time : List ℕ) (ts : List (List ℕ)) → Writes time ts → (cs : List CondTree) → All (IsCondOf count a.params) cs
        → Later (text.timed_text time (map (text.cond_text names a.params) cs)) (canonical.timed_words ts (map (canonical.cond_words names a.params) cs))
    timed_condition time ts w = each_timed (IsCondOf count a.params) (text.cond_text names a.params) (canonical.cond_words names a.params) (condition a.params h.params) time ts w

    timed_effect : (time : List ℕ) (ts : List (List ℕ)) → Writes time ts → (es : List Spread) → All (IsSpreadOf count a.params) es
        → Later (text.timed_text time (map (text.spread_text names a.params) es)) (canonical.timed_words ts (map (canonical.spread_words names a.params) es))
    timed_effect time ts w = each_timed (IsSpreadOf count a.params) (text.spread_text names a.params) (canonical.spread_words names a.params) (spread a.params h.params) time ts w

    all_conditions : Later (text.conditions_text names a) (canonical.conditions_words names a)
    all_conditions =
        later_later (timed_condition (codes "at start") canonical.at_start start_time a.conditions.at_start h.conditions_at_start)
        (later_later (timed_condition (codes "over all") canonical.over_all all_time a.conditions.over_all h.conditions_over_all)
        (timed_condition (codes "at end") canonical.at_end end_time a.conditions.at_end h.conditions_at_end))

    all_effects : Later (text.effects_text names a) (canonical.effects_words names a)
    all_effects =
        later_later (timed_effect (codes "at start") canonical.at_start start_time a.effects.at_start h.effects_at_start)
        (timed_effect (codes "at end") canonical.at_end end_time a.effects.at_end h.effects_at_end)

    -- the five lines
    first_line : Writes (codes "(:durative-action " ++ name_text names a.name) (codes "(" ∷ codes ":durative-action" ∷ name_text names a.name ∷ [])
    first_line = whole_writes action_start (name a.name h.name)

    parameters_line : Writes (codes ":parameters (" ++ (text.spaced (map (text.param_text names) a.params) ++ codes ")")) (codes ":parameters" ∷ canonical.grouped (flat_map (canonical.param_words names) a.params))
    parameters_line =
        let params = each_spaced (IsParamOf count) (text.param_text names) (canonical.param_words names) param a.params h.params in
        writes_of (whole_whole parameters_start (writes_ending params close_paren))

    duration_line : Writes (codes ":duration (= ?duration " ++ (text.expr_text names a.params (expr_tree a.duration) ++ codes ")")) (codes ":duration" ∷ canonical.grouped (codes "=" ∷ codes "?duration" ∷ canonical.expr_words names a.params (expr_tree a.duration)))
    duration_line = writes_of (whole_whole duration_start (writes_ending (expr a.params h.params (expr_tree a.duration) h.duration) close_paren))

    condition_line : Writes (codes ":condition (and" ++ (text.conditions_text names a ++ codes ")")) (codes ":condition" ∷ canonical.grouped (codes "and" ∷ canonical.conditions_words names a))
    condition_line = writes_of (writes_ending (whole_writes condition_start open_and) (later_ending all_conditions close_paren))

    effect_line : Writes (codes ":effect (and" ++ (text.effects_text names a ++ codes "))")) (codes ":effect" ∷ (canonical.grouped (codes "and" ∷ canonical.effects_words names a) ++ codes ")" ∷ []))
    effect_line =
        let closed : codes ":effect" ∷ codes "(" ∷ codes "and" ∷ (canonical.effects_words names a ++ codes ")" ∷ codes ")" ∷ []) ≡ codes ":effect" ∷ (canonical.grouped (codes "and" ∷ canonical.effects_words names a) ++ codes ")" ∷ []) =
        ap (λ l. codes ":effect" ∷ codes "(" ∷ codes "and" ∷ l) (sym (append_assoc (canonical.effects_words names a) (codes ")" ∷ []) (codes ")" ∷ []))) in
        writes_of (whole_is closed (writes_ending (whole_writes effect_start open_and) (later_ending all_effects two_close)))

    action : Lines (text.action_lines names a) (canonical.action_words names a)
    action = line_lines first_line (line_lines parameters_line (line_lines duration_line (line_lines condition_line (one_line effect_line))))

  actions : (defs : List ActionDef) → All (IsActionOf count) defs → Lines (flat_map (text.action_lines names) defs) (flat_map (canonical.action_words names) defs)
  actions [] h = no_lines
  actions (a ∷ rest) h = lines_lines (action a (All-head (IsActionOf count) a rest h)) (actions rest (All-tail (IsActionOf count) a rest h))

  -- ---- sections

  section : {X : Type 0} (P : X → Type 0) (f : X → List ℕ) (g : X → List (List ℕ)) → ((x : X) → P x → Writes (f x) (g x)) → (key : List ℕ) → Writes key (key ∷ []) → (xs : List X) → All P xs
      → Lines (text.section_lines key (map f xs)) (canonical.section_words key (map g xs))
  section P f g each key w [] h = no_lines
  section P f g each key w (x ∷ xs) h =
      let parts = each_after_space P f g each (x ∷ xs) h in
      let line : Whole (codes "(" ++ (key ++ (text.after_spaces (map f (x ∷ xs)) ++ codes ")"))) (canonical.grouped (key ∷ flat_map g (x ∷ xs))) = whole_whole open_paren (writes_ending w (later_ending parts close_paren)) in
      let same : canonical.grouped (key ∷ flat_map g (x ∷ xs)) ≡ canonical.grouped (key ∷ flat_map (λ part. part) (map g (x ∷ xs))) = ap (λ l. canonical.grouped (key ∷ l)) (sym (flat_map-map (λ part. part) g (x ∷ xs))) in
      one_line (writes_of (whole_is same line))

  module _ (d : Domain) (h : IsDomainOf count d) where
    domain_line : Writes (codes "(define (domain " ++ (name_text names d.name ++ codes ")")) (codes "(" ∷ codes "define" ∷ codes "(" ∷ codes "domain" ∷ name_text names d.name ∷ codes ")" ∷ [])
    domain_line = writes_of (whole_whole domain_start (writes_ending (name d.name h.name) close_paren))

    last_line : Lines (codes ")" ∷ []) (codes ")" ∷ [])
    last_line = record { written = record { whole = λ rest. refl } }

    domain : Lines (text.domain_lines names d) (canonical.domain_words names d)
    domain =
        line_lines domain_line
        (lines_lines (section (IsParamOf count) (text.typed_text names) (canonical.typed_words names) typed (codes ":types") (one_word (codes ":types") refl) d.types h.types)
        (lines_lines (section (IsParamOf count) (text.typed_text names) (canonical.typed_words names) typed (codes ":constants") (one_word (codes ":constants") refl) d.constants h.constants)
        (lines_lines (section (IsDeclOf count) (text.decl_text names) (canonical.decl_words names) decl (codes ":predicates") (one_word (codes ":predicates") refl) d.predicates h.predicates)
        (lines_lines (section (IsDeclOf count) (text.decl_text names) (canonical.decl_words names) decl (codes ":functions") (one_word (codes ":functions") refl) d.functions h.functions)
        (lines_lines (actions d.actions h.actions) last_line)))))

pub canonical_words_are : CanonicalWords
unfolding domain_text
canonical_words_are names d good h = words-whole (domain names good d h).written
