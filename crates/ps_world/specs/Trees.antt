-- Expressions and conditions as contracts see them: trees.
use Rattle.std.specs.Prelude.{◌≡◌, ℕ, suc, max, List, [], ◌∷◌, refl}
use Rattle.std.specs.Coded.{Coded, code_by}
use Rattle.std.proofs.Common.{ap}
use base.Stored.{Gv, gnil, gnum, gcons}
use Rattle.ps_world.specs.Codes.{name_code, term_code, lifted_code, num_code, op_code, rel_code, params_code}
use Rattle.ps_world.specs.declared.names.Name.{Name}
use Rattle.ps_world.specs.declared.numbers.Num.{Num}
use Rattle.ps_world.specs.declared.schemas.Term.{Term}
use Rattle.ps_world.specs.declared.schemas.Lifted.{Lifted}
use Rattle.ps_world.specs.declared.expressions.Op.{Op}
use Rattle.ps_world.specs.declared.conditions.Rel.{Rel}
use Rattle.ps_world.specs.declared.domains.Param.{Param}

-- a number, the value of a function, an expression with the other sign, an operation on two
pub data ExprTree : Type 0 where
  number : Num → ExprTree
  value_of : Lifted → ExprTree
  negated : ExprTree → ExprTree
  operated : Op → ExprTree → ExprTree → ExprTree

-- how many levels an expression has below its first
abbrev pub expr_rank : ExprTree → ℕ
expr_rank (number n) = 0
expr_rank (value_of l) = 0
expr_rank (negated e) = suc (expr_rank e)
expr_rank (operated op a b) = suc (max (expr_rank a) (expr_rank b))

-- the code of an expression: which form it has, and the codes of its parts
abbrev pub expr_code : ExprTree → Gv
expr_code (number n) = gcons (gnum 0) (num_code.code n)
expr_code (value_of l) = gcons (gnum 1) (lifted_code.code l)
expr_code (negated e) = gcons (gnum 2) (expr_code e)
expr_code (operated op a b) = gcons (gnum 3) (gcons (op_code.code op) (gcons (expr_code a) (expr_code b)))

pub expr_code_one : (x y : ExprTree) → expr_code x ≡ expr_code y → x ≡ y
expr_code_one (number n) (number m) p = ap number (num_code.inj n m (cc))
expr_code_one (value_of l) (value_of m) p = ap value_of (lifted_code.inj l m (cc))
expr_code_one (negated d) (negated e) p = ap negated (expr_code_one d e (cc))
expr_code_one (operated op a b) (operated oq c d) p =
    let o : op ≡ oq = op_code.inj op oq (cc) in
    let left : a ≡ c = expr_code_one a c (cc) in
    let right : b ≡ d = expr_code_one b d (cc) in
    cc
expr_code_one x y p = absurd (cc)

-- the same, with a proof that it tells expressions apart
abbrev pub expr_tree_code : Coded ExprTree
expr_tree_code = record { code = expr_code; inj = expr_code_one }

-- All of these, any of these, not this, the second where the first holds, a fact is known, two terms are the same, two numbers compare so, an
-- instance has a type; for some choice of instances that fit these variables, and for each choice.
mutual
  pub data CondTree : Type 0 where
    all_of : CondTrees → CondTree
    any_of : CondTrees → CondTree
    no : CondTree → CondTree
    implied : CondTree → CondTree → CondTree
    holds : Lifted → CondTree
    same : Term → Term → CondTree
    compares : Rel → ExprTree → ExprTree → CondTree
    is_a : Term → Name → CondTree
    for_some : List Param → CondTree → CondTree
    for_all : List Param → CondTree → CondTree

  pub data CondTrees : Type 0 where
    none : CondTrees
    more : CondTree → CondTrees → CondTrees

-- a list of conditions, as a tree holds it
abbrev pub cond_trees : List CondTree → CondTrees
cond_trees [] = none
cond_trees (c ∷ cs) = more c (cond_trees cs)

-- the list that a tree holds
abbrev pub list_of : CondTrees → List CondTree
list_of none = []
list_of (more c cs) = c ∷ list_of cs

pub list_of-cond_trees : (cs : List CondTree) → list_of (cond_trees cs) ≡ cs
list_of-cond_trees [] = refl
list_of-cond_trees (c ∷ cs) = ap (λ more. c ∷ more) (list_of-cond_trees cs)

-- how many levels a condition has below its first
abbrev mutual
  pub cond_rank : CondTree → ℕ
  cond_rank (all_of cs) = suc (cond_ranks cs)
  cond_rank (any_of cs) = suc (cond_ranks cs)
  cond_rank (no c) = suc (cond_rank c)
  cond_rank (implied a b) = suc (max (cond_rank a) (cond_rank b))
  cond_rank (holds l) = 0
  cond_rank (same s t) = 0
  cond_rank (compares r a b) = 0
  cond_rank (is_a t k) = 0
  cond_rank (for_some ps c) = suc (cond_rank c)
  cond_rank (for_all ps c) = suc (cond_rank c)

  pub cond_ranks : CondTrees → ℕ
  cond_ranks none = 0
  cond_ranks (more c cs) = max (cond_rank c) (cond_ranks cs)

-- how many levels the deepest of these conditions has below its first
abbrev pub conds_rank : List CondTree → ℕ
conds_rank cs = cond_ranks (cond_trees cs)

-- the code of a condition: which form it has, and the codes of its parts
abbrev mutual
  pub cond_code : CondTree → Gv
  cond_code (all_of cs) = gcons (gnum 0) (cond_codes cs)
  cond_code (no c) = gcons (gnum 1) (cond_code c)
  cond_code (holds l) = gcons (gnum 2) (lifted_code.code l)
  cond_code (same s t) = gcons (gnum 3) (gcons (term_code.code s) (term_code.code t))
  cond_code (compares r a b) = gcons (gnum 4) (gcons (rel_code.code r) (gcons (expr_code a) (expr_code b)))
  cond_code (is_a t k) = gcons (gnum 5) (gcons (term_code.code t) (name_code.code k))
  cond_code (any_of cs) = gcons (gnum 6) (cond_codes cs)
  cond_code (implied a b) = gcons (gnum 7) (gcons (cond_code a) (cond_code b))
  cond_code (for_some ps c) = gcons (gnum 8) (gcons (params_code.code ps) (cond_code c))
  cond_code (for_all ps c) = gcons (gnum 9) (gcons (params_code.code ps) (cond_code c))

  pub cond_codes : CondTrees → Gv
  cond_codes none = gnil
  cond_codes (more c cs) = gcons (cond_code c) (cond_codes cs)

mutual
  pub cond_code_one : (x y : CondTree) → cond_code x ≡ cond_code y → x ≡ y
  cond_code_one (all_of cs) (all_of ds) p = ap all_of (cond_codes_one cs ds (cc))
  cond_code_one (no c) (no d) p = ap no (cond_code_one c d (cc))
  cond_code_one (holds l) (holds m) p = ap holds (lifted_code.inj l m (cc))
  cond_code_one (same s t) (same u v) p =
      let one : s ≡ u = term_code.inj s u (cc) in
      let other : t ≡ v = term_code.inj t v (cc) in
      cc
  cond_code_one (compares r a b) (compares q c d) p =
      let rel : r ≡ q = rel_code.inj r q (cc) in
      let left : a ≡ c = expr_code_one a c (cc) in
      let right : b ≡ d = expr_code_one b d (cc) in
      cc
  cond_code_one (is_a t k) (is_a u l) p =
      let term : t ≡ u = term_code.inj t u (cc) in
      let kind : k ≡ l = name_code.inj k l (cc) in
      cc
  cond_code_one (any_of cs) (any_of ds) p = ap any_of (cond_codes_one cs ds (cc))
  cond_code_one (implied a b) (implied c d) p =
      let left : a ≡ c = cond_code_one a c (cc) in
      let right : b ≡ d = cond_code_one b d (cc) in
      cc
  cond_code_one (for_some ps c) (for_some qs d) p =
      let params : ps ≡ qs = params_code.inj ps qs (cc) in
      let part : c ≡ d = cond_code_one c d (cc) in
      cc
  cond_code_one (for_all ps c) (for_all qs d) p =
      let params : ps ≡ qs = params_code.inj ps qs (cc) in
      let part : c ≡ d = cond_code_one c d (cc) in
      cc
  cond_code_one x y p = absurd (cc)

  pub cond_codes_one : (x y : CondTrees) → cond_codes x ≡ cond_codes y → x ≡ y
  cond_codes_one none none p = refl
  cond_codes_one (more c cs) (more d ds) p =
      let first : c ≡ d = cond_code_one c d (cc) in
      let rest : cs ≡ ds = cond_codes_one cs ds (cc) in
      cc
  cond_codes_one none (more d ds) p = absurd (cc)
  cond_codes_one (more c cs) none p = absurd (cc)

-- the same, with a proof that it tells conditions apart
abbrev pub cond_tree_code : Coded CondTree
cond_tree_code = record { code = cond_code; inj = cond_code_one }

-- the same of the conditions that a tree holds
abbrev pub cond_trees_code : Coded CondTrees
cond_trees_code = record { code = cond_codes; inj = cond_codes_one }

-- the same of a list of conditions
abbrev pub conds_code : Coded (List CondTree)
conds_code = code_by CondTrees cond_trees_code cond_trees list_of list_of-cond_trees
