-- The words of terms and expressions mean them.
use Rattle.std.proofs.Common.{◌≡◌, ◌≤◌, ◌<◌, ℕ, suc, All, Bool, true, false, List, [], ◌∷◌, ◌++◌, length, find, get_or, position, slice_get, cond, Option, Some, None, Ok, refl, ap, subst, ◌∙◌, append_assoc, append-nil, arith}
use Rattle.std.specs.List.{position_or_len}
use Rattle.std.specs.Option.{option_map}
use Rattle.std.proofs.lemmas.Bool.{eq-eqb, le-leb, lt-ltb}
use Rattle.std.proofs.lemmas.List.Sums.{position_or_len_is}
use Rattle.std.proofs.lemmas.List.Elements.{All-head, All-tail}
use Rattle.std.proofs.lemmas.Option.{get_or_from_slice_get, slice_get_within}
use Rattle.ps_world.specs.ExprViews.{expr_tree}
use Rattle.ps_world.specs.Names.{Table, same_name, object}
use Rattle.ps_world.specs.Knowledge.{is_below, constant_of, predicate_of, function_of}
use Rattle.ps_world.specs.Trees.{ExprTree}
use Rattle.ps_world.specs.Trees as tree
use Rattle.ps_world.specs.declared.names.Name.{Name}
use Rattle.ps_world.specs.declared.domains.Param.{Param}
use Rattle.ps_world.specs.declared.domains.Decl.{Decl}
use Rattle.ps_world.specs.declared.domains.Domain.{Domain}
use Rattle.ps_world.specs.declared.schemas.Term.{Term}
use Rattle.ps_world.specs.declared.schemas.Term.TheVariants.{Var, Const}
use Rattle.ps_world.specs.declared.schemas.Lifted.{Lifted}
use Rattle.ps_world.specs.declared.actions.ActionDef.{ActionDef}
use Rattle.ps_world.specs.declared.expressions.Expr.{Expr}
use Rattle.ps_world.specs.declared.expressions.Expr.TheVariants.{Num, Fun, Neg, Bin}
use Rattle.ps_world.specs.declared.expressions.Op.{Op}
use Rattle.ps_world.specs.declared.expressions.Op.TheVariants as op
use Rattle.ps_grammar.specs.Marks.{is_name}
use Rattle.ps_grammar.specs.declared.marks.Mark.{Mark}
use Rattle.ps_grammar.specs.declared.marks.Mark.TheVariants as mark
use Rattle.ps_lists.specs.Nested.{Nested, Nesteds, word, none, more}
use Rattle.ps_lists.specs.Places.{count}
use Rattle.ps_lists.specs.declared.lexemes.Lexeme.{Lexeme}
use Rattle.ps_pddl.specs.Terms.{argument, arguments, applied, fact, param_at, resolved, term_of, value_of}
use Rattle.ps_conditions.specs.Signs.{operator_of}
use Rattle.ps_conditions.specs.Values.{function_value, operation}
use Rattle.ps_pddl.specs.Steps.{reads}
use Rattle.ps_pddl.specs.Words.{value, words}
use Rattle.ps_pddl.specs.WellFormed.{AreApart, AreSuited, HasKind, IsApplied, IsExpr, IsFactOf, IsValueOf}
use Rattle.ps_pddl.proofs.CanonicalForms.{param_name, op_mark, IsNamed, IsTermWord, AreTermForms, no_terms, more_terms, IsExprForm, a_number, a_value, a_negation, an_operation}
use Rattle.ps_pddl.proofs.CanonicalForms as form
use Rattle.ps_pddl.proofs.MeanMarks.{name-isnt, operator_of-name}
use Rattle.ps_pddl.proofs.NameMarks.{name_mark-is_name}
use Rattle.ps_pddl.proofs.Sound.{climbs_whole}
use Rattle.ps_pddl.proofs.SoundLists.{same_turned}
use Rattle.ps_pddl.proofs.SoundTerms.{acting}

-- ---- what is looked for is there

found_first : {A : Type 0} (P : A → Type 0) (test : A → Bool) (y x : A) (b : Bool) (o : Option A) → test y ≡ b → P y → (o ≡ Some x → P x × (test x ≡ true)) → cond b (Some y) o ≡ Some x → P x × (test x ≡ true)
found_first P test y x true o t p k e =
    let same : y ≡ x = cc in
    (subst P same p, subst (λ z. test z ≡ true) same t)
found_first P test y x false o t p k e = k e

-- what is found has what all have, and passes
pub found_all : {A : Type 0} (P : A → Type 0) (test : A → Bool) (xs : List A) (x : A) → All P xs → find test xs ≡ Some x → P x × (test x ≡ true)
found_all P test [] x h e = absurd (cc)
found_all P test (y ∷ ys) x h e =
    found_first P test y x (test y) (find test ys) refl (All-head P y ys h) (found_all P test ys x (All-tail P y ys h)) e

-- the first parameter of a name stands at its place
position-name : (ps : List Param) (i : ℕ) (p : Param) → AreApart (λ p. p.name) ps → slice_get ps i ≡ Some p → position (λ q. same_name (param_name ps i) q.name) ps ≡ Some i
position-name ps i p apart e =
    let nobody : Param = record { name = object; kind = object } in
    let within : i < length ps = slice_get_within ps i p e in
    let first : position_or_len (λ q. same_name (param_name ps i) q.name) ps ≡ i =
    position_or_len_is (λ q. same_name (param_name ps i) q.name) ps i nobody (omega arith)
    (λ k lt. same_turned (get_or ps k nobody).name (param_name ps i) (apart k i nobody lt within))
    (λ lt. eq-eqb (param_name ps i).0 (param_name ps i).0 refl) in
    rw (first, lt-ltb i (length ps) within) refl

-- ---- terms

-- a word that is a name has a name's mark
pub named-is_name : (names : Table) (n : Name) (l : Lexeme) → IsNamed names n l → is_name l.mark ≡ true
named-is_name names n l w = rw w.mark (name_mark-is_name names n)

term_of-name : (d : Domain) (ps : List Param) (m : Mark) (n : Name) → is_name m ≡ true → term_of d ps m n ≡ option_map (λ c. record { term = Const n; kind = c.kind }) (constant_of d n)
term_of-name d ps mark.Variable n h = absurd (cc)
term_of-name d ps m n h = refl

-- as many arguments as parameters
suited_length : (d : Domain) (ps wants : List Param) (us : List Term) → AreSuited d ps wants us → length wants ≡ length us
suited_length d ps [] [] h = refl
suited_length d ps (want ∷ wants) (u ∷ us) h = ap suc (suited_length d ps wants us h.1)
suited_length d ps [] (u ∷ us) h = absurd h
suited_length d ps (want ∷ wants) [] h = absurd h

-- as many words as terms
terms_count : (names : Table) (ps : List Param) (us : List Term) (ts : Nesteds) → AreTermForms names ps us ts → length us ≡ count ts
terms_count names ps _ _ no_terms = refl
terms_count names ps _ _ (more_terms u us l ts w rest) = ap suc (terms_count names ps us ts rest)

-- these declarations have 6 parameters at most
abbrev pub TakeFew : List Decl → Type 0
TakeFew decls = All (λ decl. length decl.params ≤ 6) decls

-- a declaration that is found takes 6 at most
abbrev IsFew : Option Decl → Type 0
IsFew o = (decl : Decl) → o ≡ Some decl → length decl.params ≤ 6

found_few : (test : Decl → Bool) (decls : List Decl) → TakeFew decls → IsFew (find test decls)
found_few test decls few decl e = (found_all (λ decl. length decl.params ≤ 6) test decls decl few e).0

-- the expression of a tree
abbrev pub untree : ExprTree → Expr
untree (tree.number n) = Num n
untree (tree.value_of f) = Fun f
untree (tree.negated x) = Neg x
untree (tree.operated o x y) = Bin o x y

pub expr_tree-untree : (x : ExprTree) → expr_tree (untree x) ≡ x
expr_tree-untree (tree.number n) = refl
expr_tree-untree (tree.value_of f) = refl
expr_tree-untree (tree.negated x) = refl
expr_tree-untree (tree.operated o x y) = refl

pub untree-expr_tree : (x : Expr) → untree (expr_tree x) ≡ x
untree-expr_tree (Num n) = refl
untree-expr_tree (Fun f) = refl
untree-expr_tree (Neg x) = refl
untree-expr_tree (Bin o x y) = refl

pub operator_of-op : (o : Op) → operator_of (op_mark o) ≡ Some o
operator_of-op op.Add = refl
operator_of-op op.Sub = refl
operator_of-op op.Mul = refl
operator_of-op op.Div = refl

module _ (names : Table) (d : Domain) (acts : List ActionDef) (ps : List Param) (apart : AreApart (λ p. p.name) ps) where
  pub resolved-means : (t : Term) (l : Lexeme) (kind : Name) → HasKind d ps t kind → IsTermWord names ps t l → resolved (acting d acts) ps l ≡ Ok (record { term = t; kind = kind })
  resolved-means (Var i) l kind h w =
      let here : param_at ps i ≡ h.0 = get_or_from_slice_get ps i h.0 (record { name = object; kind = object }) h.1 in
      let same : (param_at ps i).kind ≡ kind = ap (λ p. p.kind) here ∙ h.2 in
      rw (w.mark, w.name, position-name ps i h.0 apart h.1, same) refl
  resolved-means (Const n) l kind h w =
      rw (term_of-name (acting d acts) ps l.mark l.name (named-is_name names n l w), w.name, h.1, h.2) refl

  argument-means : (want : Name) (t : Term) (l : Lexeme) → (kind : Name) × HasKind d ps t kind × (is_below d kind want ≡ true) → IsTermWord names ps t l → argument (acting d acts) ps want l ≡ Ok t
  argument-means want t l h w =
      let below : is_below (acting d acts) h.0 want ≡ true = climbs_whole d d.constants d.predicates d.functions acts (length d.types) h.0 want ∙ h.2 in
      rw (resolved-means t l h.0 h.1 w, below) refl

  arguments-means : (wants : List Param) (us before : List Term) (ts : Nesteds) → AreSuited d ps wants us → AreTermForms names ps us ts → arguments (acting d acts) ps wants ts before ≡ Ok (before ++ us)
  arguments-means [] _ before _ h no_terms = rw append-nil refl
  arguments-means [] _ before _ h (more_terms u us l ts w rest) = absurd h
  arguments-means (want ∷ wants) _ before _ h no_terms = absurd h
  arguments-means (want ∷ wants) _ before _ h (more_terms u us l ts w rest) =
      rw (argument-means want.kind u l h.0 w, arguments-means wants us (before ++ u ∷ []) ts h.1 rest, append_assoc before (u ∷ []) us) refl

  applied-means : (o : Option Decl) (f : Lifted) (l : Lexeme) (ts : Nesteds) → IsFew o → IsApplied d ps o f.terms → IsNamed names f.head l → AreTermForms names ps f.terms ts → applied (acting d acts) ps o l ts ≡ Ok f
  applied-means None f l ts few h w u = absurd h
  applied-means (Some decl) f l ts few h w u =
      let as_many = suited_length d ps decl.params f.terms h in
      let one_each = eq-eqb (length decl.params) (count ts) (as_many ∙ terms_count names ps f.terms ts u) in
      let at_most : length f.terms ≤ 6 = omega (arith, few decl refl, as_many) in
      rw (one_each, arguments-means decl.params f.terms [] ts h u, le-leb (length f.terms) 6 at_most, w.name) refl

  pub fact-means : (f : Lifted) (l : Lexeme) (ts : Nesteds) → TakeFew d.predicates → IsFactOf d ps f → IsNamed names f.head l → AreTermForms names ps f.terms ts → fact (acting d acts) ps l ts ≡ Ok f
  fact-means f l ts few h w u =
      ap (λ n. applied (acting d acts) ps (predicate_of d n) l ts) w.name ∙ applied-means (predicate_of d f.head) f l ts (found_few (λ decl. same_name f.head decl.name) d.predicates few) h w u

  pub value_of-means : (f : Lifted) (l : Lexeme) (ts : Nesteds) → TakeFew d.functions → IsValueOf d ps f → IsNamed names f.head l → AreTermForms names ps f.terms ts → value_of (acting d acts) ps l ts ≡ Ok f
  value_of-means f l ts few h w u =
      ap (λ n. applied (acting d acts) ps (function_of d n) l ts) w.name ∙ applied-means (function_of d f.head) f l ts (found_few (λ decl. same_name f.head decl.name) d.functions few) h w u

  -- ---- numeric expressions

  -- a name at the head is that of a function
  operation-name : (l : Lexeme) (ts : Nesteds) → is_name l.mark ≡ true → operation reads (words (acting d acts) ps) (more (word l) ts) ≡ function_value reads (words (acting d acts) ps) l ts
  operation-name l none h = refl
  operation-name l (more a none) h = rw (name-isnt mark.Minus l.mark h refl) refl
  operation-name l (more a (more b ts)) h = rw (operator_of-name l.mark h) refl

  pub value-means : (few : TakeFew d.functions) (x : ExprTree) (t : Nested) → IsExpr d ps x → IsExprForm names ps x t → value (acting d acts) ps t ≡ Ok (untree x)
  value-means few _ _ h (a_number n l m e) = rw (m, e) refl
  value-means few _ _ h (a_value f _ (form.lifted _ l ts w u)) =
      rw (operation-name l ts (named-is_name names f.head l w), value_of-means f l ts few h w u) refl
  value-means few _ _ h (a_negation x l t m k) = rw (m, value-means few x t h k, expr_tree-untree x) refl
  value-means few _ _ h (an_operation o x y l t u m j k) =
      rw (m, operator_of-op o, value-means few x t h.0 j, value-means few y u h.1 k, expr_tree-untree x, expr_tree-untree y) refl
