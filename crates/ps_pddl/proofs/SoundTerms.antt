-- Terms and expressions that are read are declared, and suit.
use Rattle.std.proofs.Common.{◌≡◌, ◌==◌, nat_le, true, List, [], ◌∷◌, ◌++◌, length, position, Option, Some, None, Ok, Err, refl, sym, subst, ◌∙◌, append_assoc, append-nil, arith}
use Rattle.std.specs.Bool.{if◌then◌else◌}
use Rattle.std.proofs.lemmas.Bool.{eqb-true}
use Rattle.std.proofs.lemmas.List.Quantifiers.{position-Some}
use Rattle.std.proofs.lemmas.Option.{slice_get-get_or}
use Rattle.ps_world.specs.ExprViews.{expr_tree}
use Rattle.ps_world.specs.Names.{same_name, object}
use Rattle.ps_world.specs.Numbers.{IsCount}
use Rattle.ps_world.specs.Knowledge.{is_below, constant_of, predicate_of, function_of}
use Rattle.ps_world.specs.declared.names.Name.{Name}
use Rattle.ps_world.specs.declared.domains.Param.{Param}
use Rattle.ps_world.specs.declared.domains.Decl.{Decl}
use Rattle.ps_world.specs.declared.domains.Domain.{Domain}
use Rattle.ps_world.specs.declared.schemas.Term.{Term}
use Rattle.ps_world.specs.declared.schemas.Term.TheVariants.{Var, Const}
use Rattle.ps_world.specs.declared.schemas.Lifted.{Lifted}
use Rattle.ps_world.specs.declared.actions.ActionDef.{ActionDef}
use Rattle.ps_world.specs.declared.expressions.Expr.{Expr}
use Rattle.ps_world.specs.declared.expressions.Expr.TheVariants.{Num, Fun, Neg, Bin}
use Rattle.ps_world.specs.declared.expressions.Op.{Op}
use Rattle.ps_grammar.specs.Marks.{is}
use Rattle.ps_grammar.specs.declared.marks.Mark.{Mark}
use Rattle.ps_grammar.specs.declared.marks.Mark.TheVariants as mark
use Rattle.ps_lists.specs.Nested.{Nested, Nesteds, word, group, none, more}
use Rattle.ps_lists.specs.Places.{word_of, count}
use Rattle.ps_conditions.specs.Steps.{◌>>=◌}
use Rattle.ps_pddl.specs.Steps.{Read, reads}
use Rattle.ps_pddl.specs.Terms.{argument, arguments, applied, fact, lifted, param_at, resolved, term_of, value_of}
use Rattle.ps_conditions.specs.Signs.{operator_of}
use Rattle.ps_conditions.specs.Values.{function_value, operated, operation}
use Rattle.ps_pddl.specs.Words.{plain_value, value, words}
use Rattle.ps_pddl.specs.WellFormed.{AreCounted, AreSuited, HasKind, IsApplied, IsCounted, IsExpr, IsFactOf, IsValueOf}
use Rattle.ps_lists.specs.declared.lexemes.Lexeme.{Lexeme}
use Rattle.ps_pddl.specs.declared.refusals.DomainRefusal.TheVariants.{Unknown, Arity, Kind}
use Rattle.ps_pddl.proofs.Sound.{Sound, Fits, then_sound, also_sound, either_sound, made_fits, found_sound, whole, climbs_whole}

-- the domain with its actions, which come last
abbrev pub acting : Domain → List ActionDef → Domain
acting d acts = whole d d.constants d.predicates d.functions acts

module _ (d : Domain) (acts : List ActionDef) (ps : List Param) where
  term_fits : (m : Mark) (n : Name) → Fits (λ t. HasKind (acting d acts) ps t.term t.kind) (term_of d ps m n)
  term_fits mark.Variable n =
      made_fits (λ t. HasKind (acting d acts) ps t.term t.kind) (λ i. record { term = Var i; kind = (param_at ps i).kind }) (position (λ p. same_name n p.name) ps)
      (λ i e.
      let nobody : Param = record { name = object; kind = object } in
      let found = position-Some (λ p. same_name n p.name) ps i nobody e in
      (param_at ps i, slice_get-get_or ps i nobody found.0, refl))
  term_fits m n =
      made_fits (λ t. HasKind (acting d acts) ps t.term t.kind) (λ c. record { term = Const n; kind = c.kind }) (constant_of d n) (λ c e. (c, e, refl))

  pub resolved_sound : (l : Lexeme) → Sound (λ t. HasKind (acting d acts) ps t.term t.kind) (resolved d ps l)
  resolved_sound l =
      found_sound (λ t. HasKind (acting d acts) ps t.term t.kind) (term_of d ps l.mark l.name) (Unknown l.at l.name) (term_fits l.mark l.name)

  -- a term of the type that is wanted
  abbrev Suits : Name → Term → Type 0
  Suits want t = (kind : Name) × HasKind (acting d acts) ps t kind × (is_below (acting d acts) kind want ≡ true)

  argument_sound : (want : Name) (l : Lexeme) → Sound (Suits want) (argument d ps want l)
  argument_sound want l =
      then_sound (λ t. HasKind (acting d acts) ps t.term t.kind) (Suits want) (resolved d ps l) (λ t. if is_below d t.kind want then Ok t.term else Err (Kind l.at)) (resolved_sound l)
      (λ t h. either_sound (Suits want) (is_below d t.kind want) (Ok t.term) (Err (Kind l.at))
      (λ e. (t.kind, h, climbs_whole d d.constants d.predicates d.functions acts (length d.types) t.kind want ∙ e))
      (λ e. tt))

  -- what these arguments add suits
  abbrev Adds : List Param → List Term → List Term → Type 0
  Adds wants before all = (us : List Term) × (all ≡ before ++ us) × AreSuited (acting d acts) ps wants us

  arguments_sound : (wants : List Param) (ts : Nesteds) (before : List Term) → length wants ≡ count ts → Sound (Adds wants before) (arguments d ps wants ts before)
  arguments_sound [] ts before h = ([], sym (append-nil before), tt)
  arguments_sound (want ∷ wants) none before h = absurd (omega (arith, h))
  arguments_sound (want ∷ wants) (more t ts) before h =
      then_sound (Suits want.kind) (Adds (want ∷ wants) before) (argument d ps want.kind (word_of t)) (λ term. arguments d ps wants ts (before ++ term ∷ [])) (argument_sound want.kind (word_of t))
      (λ term a. also_sound (Adds wants (before ++ term ∷ [])) (Adds (want ∷ wants) before) (arguments d ps wants ts (before ++ term ∷ [])) (arguments_sound wants ts (before ++ term ∷ []) (omega (arith, h)))
      (λ all s. (term ∷ s.0, s.1 ∙ append_assoc before (term ∷ []) s.0, (a, s.2))))

  -- this head, with arguments that suit what is declared
  abbrev Applies : Option Decl → Name → Lifted → Type 0
  Applies o n l = (l.head ≡ n) × IsApplied (acting d acts) ps o l.terms

  applied_sound : (o : Option Decl) (l : Lexeme) (ts : Nesteds) → Sound (Applies o l.name) (applied d ps o l ts)
  applied_sound None l ts = tt
  applied_sound (Some decl) l ts =
      either_sound (Applies (Some decl) l.name) (length decl.params == count ts) (arguments d ps decl.params ts [] >>= lifted l) (Err (Arity l.at))
      (λ e. then_sound (Adds decl.params []) (Applies (Some decl) l.name) (arguments d ps decl.params ts []) (lifted l) (arguments_sound decl.params ts [] (eqb-true (length decl.params) (count ts) e))
      (λ all s. either_sound (Applies (Some decl) l.name) (nat_le (length all) 6) (Ok (record { head = l.name; terms = all })) (Err (Arity l.at))
      (λ few. (refl, subst (AreSuited (acting d acts) ps decl.params) (sym s.1) s.2))
      (λ many. tt)))
      (λ e. tt)

  pub fact_sound : (l : Lexeme) (ts : Nesteds) → Sound (IsFactOf (acting d acts) ps) (fact d ps l ts)
  fact_sound l ts =
      also_sound (Applies (predicate_of d l.name) l.name) (IsFactOf (acting d acts) ps) (fact d ps l ts) (applied_sound (predicate_of d l.name) l ts)
      (λ f a. subst (λ n. IsApplied (acting d acts) ps (predicate_of d n) f.terms) (sym a.0) a.1)

  pub value_of_sound : (l : Lexeme) (ts : Nesteds) → Sound (IsValueOf (acting d acts) ps) (value_of d ps l ts)
  value_of_sound l ts =
      also_sound (Applies (function_of d l.name) l.name) (IsValueOf (acting d acts) ps) (value_of d ps l ts) (applied_sound (function_of d l.name) l ts)
      (λ f a. subst (λ n. IsApplied (acting d acts) ps (function_of d n) f.terms) (sym a.0) a.1)

  -- ---- numeric expressions

  abbrev pub IsValue : Expr → Type 0
  IsValue x = IsExpr (acting d acts) ps (expr_tree x)

  plain_value_sound : (l : Lexeme) → IsCount l.number → Sound IsValue (plain_value d ps l)
  plain_value_sound l h =
      either_sound IsValue (is mark.Number l.mark) (Ok (Num l.number)) (resolved d ps l >>= λ t. Err (Kind l.at)) (λ e. h)
      (λ e. then_sound (λ t. HasKind (acting d acts) ps t.term t.kind) IsValue (resolved d ps l) (λ t. Err (Kind l.at)) (resolved_sound l) (λ t k. tt))

  function_value_sound : (l : Lexeme) (ts : Nesteds) → Sound IsValue (function_value reads (words d ps) l ts)
  function_value_sound l ts = then_sound (IsValueOf (acting d acts) ps) IsValue (value_of d ps l ts) (λ v. Ok (Fun v)) (value_of_sound l ts) (λ v h. h)

  operated_sound : (op : Option Op) (a b other : Read Expr) → Sound IsValue a → Sound IsValue b → Sound IsValue other → Sound IsValue (operated reads op a b other)
  operated_sound None a b other h k o = o
  operated_sound (Some op) a b other h k o =
      then_sound IsValue IsValue a (λ x. b >>= λ y. Ok (Bin op (expr_tree x) (expr_tree y))) h
      (λ x one. then_sound IsValue IsValue b (λ y. Ok (Bin op (expr_tree x) (expr_tree y))) k (λ y two. (one, two)))

  mutual
    pub value_sound : (t : Nested) → IsCounted t → Sound IsValue (value d ps t)
    value_sound (word l) h = plain_value_sound l h
    value_sound (group ts) h = operation_sound ts h

    operation_sound : (ts : Nesteds) → AreCounted ts → Sound IsValue (operation reads (words d ps) ts)
    operation_sound none h = omega arith
    operation_sound (more f none) h = function_value_sound (word_of f) none
    operation_sound (more f (more a none)) h =
        either_sound IsValue (is mark.Minus (word_of f).mark) (value d ps a >>= λ x. Ok (Neg (expr_tree x))) (function_value reads (words d ps) (word_of f) (more a none))
        (λ e. then_sound IsValue IsValue (value d ps a) (λ x. Ok (Neg (expr_tree x))) (value_sound a h.1.0) (λ x k. k))
        (λ e. function_value_sound (word_of f) (more a none))
    operation_sound (more f (more a (more b ts))) h =
        operated_sound (operator_of (word_of f).mark) (value d ps a) (value d ps b) (function_value reads (words d ps) (word_of f) (more a (more b ts)))
        (value_sound a h.1.0) (value_sound b h.1.1.0) (function_value_sound (word_of f) (more a (more b ts)))
