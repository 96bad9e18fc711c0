-- Each text that is printed is one line, where the names are.
use Rattle.std.proofs.Common.{◌≡◌, ℕ, suc, zero, ◌+◌, ◌/◌, ◌%◌, ◌==◌, Bool, true, not, List, [], ◌∷◌, ◌++◌, codes, map, pos, negsuc, refl, arith, slice_index_or}
use Rattle.std.specs.List.{flat_map, list_all}
use Rattle.std.specs.Fmt.{decimal}
use Rattle.std.proofs.lemmas.List.Folds.{list_all-append}
use Rattle.std.proofs.lemmas.Bool.Decides.{nat_tests}
use Rattle.ps_world.specs.Names.{Table, object, name_text}
use Rattle.ps_world.specs.Numbers.{decimals_text, magnitude_text, number_text}
use Rattle.ps_world.specs.Lines.{AreLines, is_line}
use Rattle.ps_world.specs.Trees.{ExprTree, number, value_of, negated, operated, CondTree, CondTrees, all_of, any_of, no, implied, holds, same, compares, is_a, for_some, for_all, none, more}
use Rattle.ps_world.specs.ExprViews.{expr_tree}
use Rattle.ps_world.specs.CondViews.{cond_tree}
use Rattle.ps_world.specs.DomainTexts.{after_spaces, spaced, typed_text, param_text, decl_text, term_text, lifted_text, op_text, expr_text, rel_text, bound_text, cond_text, conds_text, num_op_text, effect_text, guarded_text, spread_text, timed_text, conditions_text, effects_text, action_lines, section_lines, domain_lines}
use Rattle.ps_world.specs.Texts.{args_text, fact_text, value_text, goal_text, edit_text, edit_refusal_text}
use Rattle.ps_world.specs.declared.names.Name.{Name}
use Rattle.ps_world.specs.declared.numbers.Num.{Num}
use Rattle.ps_world.specs.declared.facts.Fact.{Fact}
use Rattle.ps_world.specs.declared.schemas.Term.{Term}
use Rattle.ps_world.specs.declared.schemas.Term.TheVariants.{Var, Const}
use Rattle.ps_world.specs.declared.schemas.Lifted.{Lifted}
use Rattle.ps_world.specs.declared.expressions.Op.{Op}
use Rattle.ps_world.specs.declared.expressions.Op.TheVariants.{Add, Sub, Mul, Div}
use Rattle.ps_world.specs.declared.conditions.Rel.{Rel}
use Rattle.ps_world.specs.declared.conditions.Rel.TheVariants.{Lt, Le, Eq, Ge, Gt}
use Rattle.ps_world.specs.declared.conditions.Cond.{Cond}
use Rattle.ps_world.specs.declared.actions.NumOp.{NumOp}
use Rattle.ps_world.specs.declared.actions.NumOp.TheVariants as numeric
use Rattle.ps_world.specs.declared.actions.Effect.{Effect}
use Rattle.ps_world.specs.declared.actions.Effect.TheVariants as effect
use Rattle.ps_world.specs.declared.actions.Guarded.{Guarded}
use Rattle.ps_world.specs.declared.actions.Guarded.TheVariants.{Plain, When}
use Rattle.ps_world.specs.declared.actions.Spread.{Spread}
use Rattle.ps_world.specs.declared.actions.Spread.TheVariants.{Once, ForAll}
use Rattle.ps_world.specs.declared.actions.ActionDef.{ActionDef}
use Rattle.ps_world.specs.declared.domains.Param.{Param}
use Rattle.ps_world.specs.declared.domains.Decl.{Decl}
use Rattle.ps_world.specs.declared.domains.Domain.{Domain}
use Rattle.ps_world.specs.declared.edits.Edit.{Edit}
use Rattle.ps_world.specs.declared.edits.Edit.TheVariants.{AddInstance, RemoveInstance, AddFact, RemoveFact, SetValue, RemoveValue, SetGoal, RemoveGoal}
use Rattle.ps_world.specs.declared.edits.EditRefusal.{EditRefusal}
use Rattle.ps_world.specs.declared.edits.EditRefusal.TheVariants.{NoType, InstanceThere, Full, NoInstance, Constant, NoPredicate, Arity, WrongType, NoFact, NoFunction, NoValue, NoGoal}
use Rattle.ps_world.proofs.Digits.{is_ink, is_inked, is_inked-decimal}

-- ---- bytes, numbers and lists

pub is_line-append : (a b : List ℕ) → is_line a ≡ true → is_line b ≡ true → is_line (a ++ b) ≡ true
is_line-append a b p q = rw (list_all-append, p, q) refl

is_line-ink : (bs : List ℕ) → list_all is_ink bs ≡ true → is_line bs ≡ true
is_line-ink [] h = refl
is_line-ink (b ∷ bs) h = let more = is_line-ink bs in grind (arith, nat_tests)

is_line-inked : (bs : List ℕ) → is_inked bs ≡ true → is_line bs ≡ true
is_line-inked [] h = refl
is_line-inked (b ∷ bs) h = is_line-ink (b ∷ bs) h

pub is_line-decimal : (n : ℕ) → is_line (decimal n) ≡ true
is_line-decimal n = is_line-inked (decimal n) (is_inked-decimal n)

no_end-digit : (k : ℕ) → not (48 + k == 10) ≡ true
no_end-digit k = grind (arith, nat_tests)

is_line-decimals : (n : ℕ) → is_line (decimals_text n) ≡ true
is_line-decimals n = rw (no_end-digit (n / 100 % 10), no_end-digit (n / 10 % 10), no_end-digit (n % 10)) refl

is_line-magnitude : (n : ℕ) → is_line (magnitude_text n) ≡ true
is_line-magnitude n = is_line-append (decimal (n / 1000)) (decimals_text n) (is_line-decimal (n / 1000)) (is_line-decimals n)

pub is_line-number : (x : Num) → is_line (number_text x) ≡ true
is_line-number (pos n) = is_line-magnitude n
is_line-number (negsuc n) = is_line-magnitude (suc n)

-- whether each of these is one line
abbrev pub are_lines : List (List ℕ) → Bool
are_lines = list_all is_line

pub are_lines-more : (t : List ℕ) (ts : List (List ℕ)) → is_line t ≡ true → are_lines ts ≡ true → are_lines (t ∷ ts) ≡ true
are_lines-more t ts p q = rw (p, q) refl

pub are_lines-append : (a b : List (List ℕ)) → are_lines a ≡ true → are_lines b ≡ true → are_lines (a ++ b) ≡ true
are_lines-append a b p q = rw (list_all-append, p, q) refl

module _ {X : Type 0} where
  pub are_lines-map : (text : X → List ℕ) (xs : List X) → ((x : X) → is_line (text x) ≡ true) → are_lines (map text xs) ≡ true
  are_lines-map text [] h = refl
  are_lines-map text (x ∷ xs) h = are_lines-more (text x) (map text xs) (h x) (are_lines-map text xs h)

  -- texts one after another are one line, where each is
  is_line-flat_map : (text : X → List ℕ) (xs : List X) → ((x : X) → is_line (text x) ≡ true) → is_line (flat_map text xs) ≡ true
  is_line-flat_map text [] h = refl
  is_line-flat_map text (x ∷ xs) h = is_line-append (text x) (flat_map text xs) (h x) (is_line-flat_map text xs h)

  are_lines-flat_map : (lines : X → List (List ℕ)) (xs : List X) → ((x : X) → are_lines (lines x) ≡ true) → are_lines (flat_map lines xs) ≡ true
  are_lines-flat_map lines [] h = refl
  are_lines-flat_map lines (x ∷ xs) h = are_lines-append (lines x) (flat_map lines xs) (h x) (are_lines-flat_map lines xs h)

  is_line-after_spaces : (text : X → List ℕ) (xs : List X) → ((x : X) → is_line (text x) ≡ true) → is_line (after_spaces (map text xs)) ≡ true
  is_line-after_spaces text [] h = refl
  is_line-after_spaces text (x ∷ xs) h =
      is_line-append (codes " " ++ text x) (after_spaces (map text xs)) (h x) (is_line-after_spaces text xs h)

  is_line-spaced : (text : X → List ℕ) (xs : List X) → ((x : X) → is_line (text x) ≡ true) → is_line (spaced (map text xs)) ≡ true
  is_line-spaced text [] h = refl
  is_line-spaced text (x ∷ xs) h = is_line-append (text x) (after_spaces (map text xs)) (h x) (is_line-after_spaces text xs h)

  is_line-timed : (time : List ℕ) (text : X → List ℕ) (xs : List X) → is_line time ≡ true → ((x : X) → is_line (text x) ≡ true) → is_line (timed_text time (map text xs)) ≡ true
  is_line-timed time text [] p h = refl
  is_line-timed time text (x ∷ xs) p h =
      is_line-append (codes " (" ++ (time ++ (codes " " ++ (text x ++ codes ")")))) (timed_text time (map text xs))
      (is_line-append time (codes " " ++ (text x ++ codes ")")) p (is_line-append (text x) (codes ")") (h x) refl))
      (is_line-timed time text xs p h)

  are_lines-section : (key : List ℕ) (text : X → List ℕ) (xs : List X) → is_line key ≡ true → ((x : X) → is_line (text x) ≡ true) → are_lines (section_lines key (map text xs)) ≡ true
  are_lines-section key text [] p h = refl
  are_lines-section key text (x ∷ xs) p h =
      are_lines-more (codes "(" ++ (key ++ (after_spaces (map text (x ∷ xs)) ++ codes ")"))) []
      (is_line-append key (after_spaces (map text (x ∷ xs)) ++ codes ")") p
      (is_line-append (after_spaces (map text (x ∷ xs))) (codes ")") (is_line-after_spaces text (x ∷ xs) h) refl))
      refl

-- ---- names

is_line-at : (names : Table) (k : ℕ) → AreLines names → is_line (slice_index_or names k []) ≡ true
is_line-at [] k h = refl
is_line-at (t ∷ ts) zero h = h 0 [] (omega arith)
is_line-at (t ∷ ts) (suc k) h = is_line-at ts k (λ j d lt. h (suc j) d (omega arith))

module _ (names : Table) where
  pub is_line-name : (n : Name) → AreLines names → is_line (name_text names n) ≡ true
  is_line-name n h = is_line-at names n.0 h

-- ---- what a domain is printed with

module _ (names : Table) (named : AreLines names) where
  is_line-typed : (p : Param) → is_line (typed_text names p) ≡ true
  is_line-typed p =
      is_line-append (name_text names p.name) (codes " - " ++ name_text names p.kind) (is_line-name names p.name named) (is_line-name names p.kind named)

  is_line-param : (p : Param) → is_line (param_text names p) ≡ true
  is_line-param p = is_line-typed p

  is_line-declared : (d : Decl) → is_line (decl_text names d) ≡ true
  is_line-declared d =
      is_line-append (name_text names d.name) (after_spaces (map (param_text names) d.params) ++ codes ")") (is_line-name names d.name named)
      (is_line-append (after_spaces (map (param_text names) d.params)) (codes ")") (is_line-after_spaces (param_text names) d.params is_line-param) refl)

  is_line-term : (ps : List Param) (t : Term) → is_line (term_text names ps t) ≡ true
  is_line-term ps (Var i) = is_line-name names (slice_index_or ps i (record { name = object; kind = object })).name named
  is_line-term ps (Const n) = is_line-name names n named

  is_line-lifted : (ps : List Param) (l : Lifted) → is_line (lifted_text names ps l) ≡ true
  is_line-lifted ps l =
      is_line-append (name_text names l.head) (after_spaces (map (term_text names ps) l.terms) ++ codes ")") (is_line-name names l.head named)
      (is_line-append (after_spaces (map (term_text names ps) l.terms)) (codes ")") (is_line-after_spaces (term_text names ps) l.terms (is_line-term ps)) refl)

  is_line-op : (op : Op) → is_line (op_text op) ≡ true
  is_line-op Add = refl
  is_line-op Sub = refl
  is_line-op Mul = refl
  is_line-op Div = refl

  is_line-rel : (rel : Rel) → is_line (rel_text rel) ≡ true
  is_line-rel Lt = refl
  is_line-rel Le = refl
  is_line-rel Eq = refl
  is_line-rel Ge = refl
  is_line-rel Gt = refl

  -- a sign, and two texts after it
  is_line-pair : (sign a b : List ℕ) → is_line sign ≡ true → is_line a ≡ true → is_line b ≡ true → is_line (sign ++ (codes " " ++ (a ++ (codes " " ++ (b ++ codes ")"))))) ≡ true
  is_line-pair sign a b p q r =
      is_line-append sign (codes " " ++ (a ++ (codes " " ++ (b ++ codes ")")))) p
      (is_line-append a (codes " " ++ (b ++ codes ")")) q (is_line-append b (codes ")") r refl))

  is_line-expr : (ps : List Param) (x : ExprTree) → is_line (expr_text names ps x) ≡ true
  is_line-expr ps (number n) = is_line-number n
  is_line-expr ps (value_of l) = is_line-lifted ps l
  is_line-expr ps (negated x) = is_line-append (expr_text names ps x) (codes ")") (is_line-expr ps x) refl
  is_line-expr ps (operated op x y) =
      is_line-pair (op_text op) (expr_text names ps x) (expr_text names ps y) (is_line-op op) (is_line-expr ps x) (is_line-expr ps y)

  is_line-bound : (qs : List Param) → is_line (bound_text names qs) ≡ true
  is_line-bound qs =
      is_line-append (spaced (map (param_text names) qs)) (codes ")") (is_line-spaced (param_text names) qs is_line-param) refl

  mutual
    is_line-cond : (ps : List Param) (c : CondTree) → is_line (cond_text names ps c) ≡ true
    is_line-cond ps (all_of cs) = is_line-append (conds_text names ps cs) (codes ")") (is_line-conds ps cs) refl
    is_line-cond ps (any_of cs) = is_line-append (conds_text names ps cs) (codes ")") (is_line-conds ps cs) refl
    is_line-cond ps (no c) = is_line-append (cond_text names ps c) (codes ")") (is_line-cond ps c) refl
    is_line-cond ps (implied a b) =
        is_line-append (cond_text names ps a) (codes " " ++ (cond_text names ps b ++ codes ")")) (is_line-cond ps a)
        (is_line-append (cond_text names ps b) (codes ")") (is_line-cond ps b) refl)
    is_line-cond ps (holds l) = is_line-lifted ps l
    is_line-cond ps (same s t) =
        is_line-append (term_text names ps s) (codes " " ++ (term_text names ps t ++ codes ")")) (is_line-term ps s)
        (is_line-append (term_text names ps t) (codes ")") (is_line-term ps t) refl)
    is_line-cond ps (compares rel x y) =
        is_line-pair (rel_text rel) (expr_text names ps x) (expr_text names ps y) (is_line-rel rel) (is_line-expr ps x) (is_line-expr ps y)
    is_line-cond ps (is_a t kind) = refl
    is_line-cond ps (for_some qs c) =
        is_line-append (bound_text names qs) (codes " " ++ (cond_text names (ps ++ qs) c ++ codes ")")) (is_line-bound qs)
        (is_line-append (cond_text names (ps ++ qs) c) (codes ")") (is_line-cond (ps ++ qs) c) refl)
    is_line-cond ps (for_all qs c) =
        is_line-append (bound_text names qs) (codes " " ++ (cond_text names (ps ++ qs) c ++ codes ")")) (is_line-bound qs)
        (is_line-append (cond_text names (ps ++ qs) c) (codes ")") (is_line-cond (ps ++ qs) c) refl)

    is_line-conds : (ps : List Param) (cs : CondTrees) → is_line (conds_text names ps cs) ≡ true
    is_line-conds ps none = refl
    is_line-conds ps (more c cs) = is_line-append (cond_text names ps c) (conds_text names ps cs) (is_line-cond ps c) (is_line-conds ps cs)

  is_line-num_op : (how : NumOp) → is_line (num_op_text how) ≡ true
  is_line-num_op numeric.Assign = refl
  is_line-num_op numeric.Increase = refl
  is_line-num_op numeric.Decrease = refl
  is_line-num_op numeric.ScaleUp = refl
  is_line-num_op numeric.ScaleDown = refl

  is_line-effect : (ps : List Param) (e : Effect) → is_line (effect_text names ps e) ≡ true
  is_line-effect ps (effect.Add l) = is_line-lifted ps l
  is_line-effect ps (effect.Delete l) = is_line-append (lifted_text names ps l) (codes ")") (is_line-lifted ps l) refl
  is_line-effect ps (effect.Number how l x) =
      is_line-pair (num_op_text how) (lifted_text names ps l) (expr_text names ps (expr_tree x)) (is_line-num_op how) (is_line-lifted ps l) (is_line-expr ps (expr_tree x))

  -- parts after (and, with the parentheses that close them and what stands round them
  is_line-body : {X : Type 0} (text : X → List ℕ) (xs : List X) → ((x : X) → is_line (text x) ≡ true) → is_line (codes " (and" ++ (after_spaces (map text xs) ++ codes "))")) ≡ true
  is_line-body text xs h = is_line-append (after_spaces (map text xs)) (codes "))") (is_line-after_spaces text xs h) refl

  is_line-guarded : (ps : List Param) (g : Guarded) → is_line (guarded_text names ps g) ≡ true
  is_line-guarded ps (Plain e) = is_line-effect ps e
  is_line-guarded ps (When c es) =
      is_line-append (cond_text names ps (cond_tree c)) (codes " (and" ++ (after_spaces (map (effect_text names ps) es) ++ codes "))"))
      (is_line-cond ps (cond_tree c)) (is_line-body (effect_text names ps) es (is_line-effect ps))

  is_line-spread : (ps : List Param) (s : Spread) → is_line (spread_text names ps s) ≡ true
  is_line-spread ps (Once g) = is_line-guarded ps g
  is_line-spread ps (ForAll qs gs) =
      is_line-append (bound_text names qs) (codes " (and" ++ (after_spaces (map (guarded_text names (ps ++ qs)) gs) ++ codes "))"))
      (is_line-bound qs) (is_line-body (guarded_text names (ps ++ qs)) gs (is_line-guarded (ps ++ qs)))

  is_line-conditions : (a : ActionDef) → is_line (conditions_text names a) ≡ true
  is_line-conditions a =
      let text = cond_text names a.params in
      let one = is_line-cond a.params in
      is_line-append (timed_text (codes "at start") (map text a.conditions.at_start)) (timed_text (codes "over all") (map text a.conditions.over_all) ++ timed_text (codes "at end") (map text a.conditions.at_end))
      (is_line-timed (codes "at start") text a.conditions.at_start refl one)
      (is_line-append (timed_text (codes "over all") (map text a.conditions.over_all)) (timed_text (codes "at end") (map text a.conditions.at_end))
      (is_line-timed (codes "over all") text a.conditions.over_all refl one) (is_line-timed (codes "at end") text a.conditions.at_end refl one))

  is_line-effects : (a : ActionDef) → is_line (effects_text names a) ≡ true
  is_line-effects a =
      let text = spread_text names a.params in
      let one = is_line-spread a.params in
      is_line-append (timed_text (codes "at start") (map text a.effects.at_start)) (timed_text (codes "at end") (map text a.effects.at_end))
      (is_line-timed (codes "at start") text a.effects.at_start refl one) (is_line-timed (codes "at end") text a.effects.at_end refl one)

  are_lines-acted : (a : ActionDef) → are_lines (action_lines names a) ≡ true
  are_lines-acted a =
      let params = spaced (map (param_text names) a.params) in
      let duration = expr_text names a.params (expr_tree a.duration) in
      let name : is_line (name_text names a.name) ≡ true = is_line-name names a.name named in
      let second : is_line (params ++ codes ")") ≡ true = is_line-append params (codes ")") (is_line-spaced (param_text names) a.params is_line-param) refl in
      let third : is_line (duration ++ codes ")") ≡ true = is_line-append duration (codes ")") (is_line-expr a.params (expr_tree a.duration)) refl in
      let fourth : is_line (conditions_text names a ++ codes ")") ≡ true = is_line-append (conditions_text names a) (codes ")") (is_line-conditions a) refl in
      let fifth : is_line (effects_text names a ++ codes "))") ≡ true = is_line-append (effects_text names a) (codes "))") (is_line-effects a) refl in
      rw (name, second, third, fourth, fifth) refl

  are_lines-whole : (d : Domain) → are_lines (domain_lines names d) ≡ true
  are_lines-whole d =
      let types = section_lines (codes ":types") (map (typed_text names) d.types) in
      let constants = section_lines (codes ":constants") (map (typed_text names) d.constants) in
      let predicates = section_lines (codes ":predicates") (map (decl_text names) d.predicates) in
      let functions = section_lines (codes ":functions") (map (decl_text names) d.functions) in
      let actions = flat_map (action_lines names) d.actions in
      let end = codes ")" ∷ [] in
      are_lines-more (codes "(define (domain " ++ (name_text names d.name ++ codes ")")) (types ++ (constants ++ (predicates ++ (functions ++ (actions ++ end)))))
      (is_line-append (name_text names d.name) (codes ")") (is_line-name names d.name named) refl)
      (are_lines-append types (constants ++ (predicates ++ (functions ++ (actions ++ end)))) (are_lines-section (codes ":types") (typed_text names) d.types refl is_line-typed)
      (are_lines-append constants (predicates ++ (functions ++ (actions ++ end))) (are_lines-section (codes ":constants") (typed_text names) d.constants refl is_line-typed)
      (are_lines-append predicates (functions ++ (actions ++ end)) (are_lines-section (codes ":predicates") (decl_text names) d.predicates refl is_line-declared)
      (are_lines-append functions (actions ++ end) (are_lines-section (codes ":functions") (decl_text names) d.functions refl is_line-declared)
      (are_lines-append actions end (are_lines-flat_map (action_lines names) d.actions are_lines-acted) refl)))))

pub is_line-decl : (names : Table) (d : Decl) → AreLines names → is_line (decl_text names d) ≡ true
is_line-decl names d h = is_line-declared names h d

pub are_lines-action : (names : Table) (a : ActionDef) → AreLines names → are_lines (action_lines names a) ≡ true
are_lines-action names a h = are_lines-acted names h a

pub are_lines-domain : (names : Table) (d : Domain) → AreLines names → are_lines (domain_lines names d) ≡ true
are_lines-domain names d h = are_lines-whole names h d

-- ---- facts and edits

pub is_line-args : (names : Table) (ns : List Name) → AreLines names → is_line (args_text names ns) ≡ true
is_line-args names ns h = is_line-flat_map (λ n. codes " " ++ name_text names n) ns (λ n. is_line-name names n h)

pub is_line-fact : (names : Table) (f : Fact) → AreLines names → is_line (fact_text names f) ≡ true
is_line-fact names f h =
    is_line-append (name_text names f.head) (args_text names f.args ++ codes ")") (is_line-name names f.head h)
    (is_line-append (args_text names f.args) (codes ")") (is_line-args names f.args h) refl)

pub is_line-value : (names : Table) (f : Fact) (x : Num) → AreLines names → is_line (value_text names f x) ≡ true
is_line-value names f x h =
    is_line-append (fact_text names f) (codes " " ++ (number_text x ++ codes ")")) (is_line-fact names f h)
    (is_line-append (number_text x) (codes ")") (is_line-number x) refl)

pub is_line-goal : (names : Table) (goal : Cond) → AreLines names → is_line (goal_text names goal) ≡ true
is_line-goal names goal h = is_line-cond names h [] (cond_tree goal)

pub is_line-edit : (names : Table) (e : Edit) → AreLines names → is_line (edit_text names e) ≡ true
is_line-edit names (AddInstance n t) h =
    is_line-append (name_text names n) (codes " " ++ name_text names t) (is_line-name names n h) (is_line-name names t h)
is_line-edit names (RemoveInstance n) h = is_line-name names n h
is_line-edit names (AddFact f) h = is_line-fact names f h
is_line-edit names (RemoveFact f) h = is_line-fact names f h
is_line-edit names (SetValue f x) h = is_line-value names f x h
is_line-edit names (RemoveValue f) h = is_line-fact names f h
is_line-edit names (SetGoal goal) h = is_line-goal names goal h
is_line-edit names RemoveGoal h = refl

pub is_line-edit_refusal : (names : Table) (r : EditRefusal) → AreLines names → is_line (edit_refusal_text names r) ≡ true
is_line-edit_refusal names NoType h = refl
is_line-edit_refusal names InstanceThere h = refl
is_line-edit_refusal names Full h = refl
is_line-edit_refusal names (NoInstance n) h = is_line-name names n h
is_line-edit_refusal names Constant h = refl
is_line-edit_refusal names NoPredicate h = refl
is_line-edit_refusal names (Arity want got) h =
    is_line-append (decimal want) (codes " " ++ decimal got) (is_line-decimal want) (is_line-decimal got)
is_line-edit_refusal names (WrongType at) h = is_line-decimal at
is_line-edit_refusal names NoFact h = refl
is_line-edit_refusal names NoFunction h = refl
is_line-edit_refusal names NoValue h = refl
is_line-edit_refusal names NoGoal h = refl
