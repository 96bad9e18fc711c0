-- Terms and values that are read: their names stand in the table, and they have as few levels as their lists.
use Rattle.std.proofs.Common.{◌≡◌, ◌==◌, ℕ, suc, ◌<◌, nat_le, All, List, [], ◌∷◌, ◌++◌, length, position, Option, Some, None, Ok, Err, refl}
use Rattle.std.specs.Bool.{if◌then◌else◌}
use Rattle.std.proofs.lemmas.List.Elements.{All-nil, All-push}
use Rattle.std.proofs.lemmas.List.Quantifiers.{position-Some}
use Rattle.ps_world.specs.ExprViews.{expr_tree}
use Rattle.ps_world.specs.Names.{same_name, object, Table}
use Rattle.ps_world.specs.Knowledge.{is_below, constant_of, predicate_of, function_of}
use Rattle.ps_world.specs.declared.names.Name.{Name}
use Rattle.ps_world.specs.declared.domains.Param.{Param}
use Rattle.ps_world.specs.declared.domains.Decl.{Decl}
use Rattle.ps_world.specs.declared.domains.Domain.{Domain}
use Rattle.ps_world.specs.declared.schemas.Term.{Term}
use Rattle.ps_world.specs.declared.schemas.Term.TheVariants.{Var, Const}
use Rattle.ps_world.specs.declared.schemas.Lifted.{Lifted}
use Rattle.ps_world.specs.declared.expressions.Expr.{Expr}
use Rattle.ps_world.specs.declared.expressions.Expr.TheVariants.{Num, Fun, Neg, Bin}
use Rattle.ps_world.specs.declared.expressions.Op.{Op}
use Rattle.ps_grammar.specs.Marks.{is}
use Rattle.ps_grammar.specs.declared.marks.Mark.{Mark}
use Rattle.ps_grammar.specs.declared.marks.Mark.TheVariants as mark
use Rattle.ps_lists.specs.Conditions as written
use Rattle.ps_lists.specs.Grammar.{AreTerms, IsAtom, IsValue}
use Rattle.ps_lists.specs.Nested.{Nested, Nesteds, word, group, none, more}
use Rattle.ps_lists.specs.Places.{word_of, count}
use Rattle.ps_lists.specs.declared.lexemes.Lexeme.{Lexeme}
use Rattle.ps_print.specs.CanonicalWords.{IsTermOf, IsLiftedOf, IsExprOf}
use Rattle.ps_conditions.specs.Steps.{◌>>=◌}
use Rattle.ps_pddl.specs.Steps.{Read, reads}
use Rattle.ps_pddl.specs.Terms.{argument, arguments, applied, fact, lifted, param_at, resolved, term_of, value_of}
use Rattle.ps_conditions.specs.Signs.{operator_of}
use Rattle.ps_conditions.specs.Values.{function_value, operated, operation}
use Rattle.ps_pddl.specs.Words.{plain_value, value, words}
use Rattle.ps_pddl.specs.declared.meaning.terms.Typed.{Typed}
use Rattle.ps_pddl.specs.declared.refusals.DomainRefusal.TheVariants.{Unknown, Arity, Kind}
use Rattle.ps_pddl.proofs.Fits.{FitsExpr, fits_number, fits_value, fits_negation, fits_operation}
use Rattle.ps_pddl.proofs.ReadNames.{IsTold, AllTold, AreTold}
use Rattle.ps_pddl.proofs.Sound.{Sound, Fits, then_sound, either_sound, made_fits, found_sound}

module _ (after : Table) (first : 0 < length after) where
  -- a word's name stands in the table, also where no word stands
  pub word_below : (t : Nested) → AllTold after t → (word_of t).name.0 < length after
  word_below (word l) h = h.below
  word_below (group ts) h = first

  module _ (d : Domain) (ps : List Param) where
    -- ---- terms

    abbrev pub IsTermHere : Term → Type 0
    IsTermHere t = IsTermOf (length after) (length ps) t

    abbrev pub IsTypedHere : Typed → Type 0
    IsTypedHere t = IsTermHere t.term

    term_here : (m : Mark) (n : Name) → n.0 < length after → Fits IsTypedHere (term_of d ps m n)
    term_here mark.Variable n lt =
        made_fits IsTypedHere (λ i. record { term = Var i; kind = (param_at ps i).kind }) (position (λ p. same_name n p.name) ps)
        (λ i e. (position-Some (λ p. same_name n p.name) ps i (record { name = object; kind = object }) e).0)
    term_here m n lt = made_fits IsTypedHere (λ c. record { term = Const n; kind = c.kind }) (constant_of d n) (λ c e. lt)

    pub resolved_here : (l : Lexeme) → l.name.0 < length after → Sound IsTypedHere (resolved d ps l)
    resolved_here l lt = found_sound IsTypedHere (term_of d ps l.mark l.name) (Unknown l.at l.name) (term_here l.mark l.name lt)

    argument_here : (want : Name) (l : Lexeme) → l.name.0 < length after → Sound IsTermHere (argument d ps want l)
    argument_here want l lt =
        then_sound IsTypedHere IsTermHere (resolved d ps l) (λ t. if is_below d t.kind want then Ok t.term else Err (Kind l.at)) (resolved_here l lt)
        (λ t h. either_sound IsTermHere (is_below d t.kind want) (Ok t.term) (Err (Kind l.at)) (λ e. h) (λ e. tt))

    arguments_here : (wants : List Param) (ts : Nesteds) (before : List Term) → AreTold after ts → All IsTermHere before → Sound (All IsTermHere) (arguments d ps wants ts before)
    arguments_here [] ts before h k = k
    arguments_here (want ∷ wants) none before h k = k
    arguments_here (want ∷ wants) (more t ts) before h k =
        then_sound IsTermHere (All IsTermHere) (argument d ps want.kind (word_of t)) (λ term. arguments d ps wants ts (before ++ term ∷ [])) (argument_here want.kind (word_of t) (word_below t h.0))
        (λ term one. arguments_here wants ts (before ++ term ∷ []) h.1 (All-push IsTermHere before term k one))

    -- this head, with arguments that are there
    abbrev pub IsHeadHere : Lexeme → Lifted → Type 0
    IsHeadHere l f = (f.head ≡ l.name) × IsLiftedOf (length after) (length ps) f

    applied_here : (o : Option Decl) (l : Lexeme) (ts : Nesteds) → l.name.0 < length after → AreTold after ts → Sound (IsHeadHere l) (applied d ps o l ts)
    applied_here None l ts lt h = tt
    applied_here (Some decl) l ts lt h =
        either_sound (IsHeadHere l) (length decl.params == count ts) (arguments d ps decl.params ts [] >>= lifted l) (Err (Arity l.at))
        (λ e. then_sound (All IsTermHere) (IsHeadHere l) (arguments d ps decl.params ts []) (lifted l) (arguments_here decl.params ts [] h (All-nil IsTermHere))
        (λ all k. either_sound (IsHeadHere l) (nat_le (length all) 6) (Ok (record { head = l.name; terms = all })) (Err (Arity l.at)) (λ few. (refl, (lt, k))) (λ many. tt)))
        (λ e. tt)

    pub fact_here : (l : Lexeme) (ts : Nesteds) → l.name.0 < length after → AreTold after ts → Sound (IsHeadHere l) (fact d ps l ts)
    fact_here l ts lt h = applied_here (predicate_of d l.name) l ts lt h

    pub value_of_here : (l : Lexeme) (ts : Nesteds) → l.name.0 < length after → AreTold after ts → Sound (IsHeadHere l) (value_of d ps l ts)
    value_of_here l ts lt h = applied_here (function_of d l.name) l ts lt h

    -- ---- values

    -- an expression of what is there, with at most so many levels
    abbrev pub IsValueHere : ℕ → Expr → Type 0
    IsValueHere room x = IsExprOf (length after) (length ps) (expr_tree x) × FitsExpr room (expr_tree x)

    plain_value_here : (room : ℕ) (l : Lexeme) → IsTold after l → Sound (IsValueHere room) (plain_value d ps l)
    plain_value_here room l h =
        either_sound (IsValueHere room) (is mark.Number l.mark) (Ok (Num l.number)) (resolved d ps l >>= λ t. Err (Kind l.at)) (λ e. (h.counted, fits_number room l.number))
        (λ e. then_sound IsTypedHere (IsValueHere room) (resolved d ps l) (λ t. Err (Kind l.at)) (resolved_here l h.below) (λ t k. tt))

    function_value_here : (room : ℕ) (l : Lexeme) (ts : Nesteds) → l.name.0 < length after → AreTold after ts → Sound (IsValueHere (suc room)) (function_value reads (words d ps) l ts)
    function_value_here room l ts lt h =
        then_sound (IsHeadHere l) (IsValueHere (suc room)) (value_of d ps l ts) (λ f. Ok (Fun f)) (value_of_here l ts lt h) (λ f k. (k.1, fits_value room f))

    negated_here : (room : ℕ) (a : Read Expr) → Sound (IsValueHere room) a → Sound (IsValueHere (suc room)) (a >>= λ x. Ok (Neg (expr_tree x)))
    negated_here room a h = then_sound (IsValueHere room) (IsValueHere (suc room)) a (λ x. Ok (Neg (expr_tree x))) h (λ x k. (k.0, fits_negation room (expr_tree x) k.1))

    operated_here : (room : ℕ) (op : Option Op) (a b other : Read Expr) → Sound (IsValueHere room) a → Sound (IsValueHere room) b → Sound (IsValueHere (suc room)) other → Sound (IsValueHere (suc room)) (operated reads op a b other)
    operated_here room None a b other h k o = o
    operated_here room (Some op) a b other h k o =
        then_sound (IsValueHere room) (IsValueHere (suc room)) a (λ x. b >>= λ y. Ok (Bin op (expr_tree x) (expr_tree y))) h
        (λ x one. then_sound (IsValueHere room) (IsValueHere (suc room)) b (λ y. Ok (Bin op (expr_tree x) (expr_tree y))) k
        (λ y two. ((one.0, two.0), fits_operation room op (expr_tree x) (expr_tree y) one.1 two.1)))

    atom_value_here : (room : ℕ) (l : Lexeme) (ts : Nesteds) → AreTerms ts → IsTold after l → AreTold after ts → Sound (IsValueHere (suc room)) (operation reads (words d ps) (more (word l) ts))
    atom_value_here room l _ written.no_argument h k = function_value_here room l none h.below tt
    atom_value_here room l _ (written.one_argument a _ m written.no_argument) h k =
        either_sound (IsValueHere (suc room)) (is mark.Minus l.mark) (plain_value d ps a >>= λ x. Ok (Neg (expr_tree x))) (function_value reads (words d ps) l (more (word a) none))
        (λ e. negated_here room (plain_value d ps a) (plain_value_here room a k.0)) (λ e. function_value_here room l (more (word a) none) h.below k)
    atom_value_here room l _ (written.one_argument a _ m (written.one_argument b ts n r)) h k =
        operated_here room (operator_of l.mark) (plain_value d ps a) (plain_value d ps b) (function_value reads (words d ps) l (more (word a) (more (word b) ts)))
        (plain_value_here room a k.0) (plain_value_here room b k.1.0) (function_value_here room l (more (word a) (more (word b) ts)) h.below k)

    atom_here : (room : ℕ) (t : Nested) → IsAtom room t → AllTold after t → Sound (IsValueHere room) (value d ps t)
    atom_here _ _ (written.atom room l ts m r few) h = atom_value_here room l ts r h.0 h.1

    pub value_here : (room : ℕ) (t : Nested) → IsValue room t → AllTold after t → Sound (IsValueHere room) (value d ps t)
    value_here _ _ (written.a_number room l m) h = plain_value_here room l h
    value_here _ _ (written.an_argument room l values m) h = plain_value_here room l h
    value_here _ _ (written.an_atom room t a) h = atom_here room t a h
    value_here _ _ (written.negation room l x m v) h =
        either_sound (IsValueHere (suc room)) (is mark.Minus l.mark) (value d ps x >>= λ y. Ok (Neg (expr_tree y))) (function_value reads (words d ps) l (more x none))
        (λ e. negated_here room (value d ps x) (value_here room x v h.1.0)) (λ e. function_value_here room l (more x none) h.0.below h.1)
    value_here _ _ (written.operation room l x y m v w) h =
        operated_here room (operator_of l.mark) (value d ps x) (value d ps y) (function_value reads (words d ps) l (more x (more y none)))
        (value_here room x v h.1.0) (value_here room y w h.1.1.0) (function_value_here room l (more x (more y none)) h.0.below h.1)
