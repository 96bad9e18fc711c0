-- A condition with arguments put in holds where the condition does, its variables standing for the arguments.
use Rattle.std.proofs.Common.{◌≡◌, ℕ, zero, suc, ◌-◌, Bool, not, ◌&&◌, ◌||◌, Option, Some, None, option_map, neg_ℤ, List, [], ◌∷◌, ◌++◌, map, flat_map, length, slice_get, slice_index_or, refl, ap, sym, ◌∙◌, arith}
use Rattle.std.specs.List.{list_all, list_any}
use Rattle.std.proofs.lemmas.List.{append-nil, append_assoc, map-append}
use Rattle.std.proofs.lemmas.List.Folds.{list_all-map}
use Rattle.ps_world.specs.Bound.{ground_in, name_in}
use Rattle.ps_world.specs.Names.{object, same_name}
use Rattle.ps_world.specs.ExprViews.{expr_tree}
use Rattle.ps_world.specs.Knowledge.{ground, is_known, kind_of, name_of, value_in}
use Rattle.ps_world.specs.Trees.{CondTree, CondTrees, ExprTree, all_of, any_of, compares, for_all, for_some, holds, implied, is_a, more, negated, no, none, number, operated, same, value_of}
use Rattle.ps_world.specs.declared.names.Name.{Name}
use Rattle.ps_world.specs.declared.domains.Domain.{Domain}
use Rattle.ps_world.specs.declared.domains.Param.{Param}
use Rattle.ps_world.specs.declared.known.Knowledge.{Knowledge}
use Rattle.ps_world.specs.declared.schemas.Term.{Term}
use Rattle.ps_world.specs.declared.schemas.Term.TheVariants.{Var, Const}
use Rattle.ps_world.specs.declared.schemas.Lifted.{Lifted}
use Rattle.ps_world.specs.declared.expressions.Expr.{Expr}
use Rattle.ps_world.specs.declared.expressions.Expr.TheVariants.{Num, Fun, Neg, Bin}
use Rattle.ps_action.specs.Values.{computed, of_both, value, value_with}
use Rattle.ps_action.specs.Bindings.{bindings, fitting_names}
use Rattle.ps_action.specs.Truth.{are_true_with, compare_so, fits, is_one_true_with, is_true_with}
use Rattle.ps_action.specs.Grounded.{GroundedHoldsAsWell}
use Rattle.ps_action.specs.Grounding.{put_cond, put_conds, put_expr, put_lifted, put_term, put_tree, put_var}

index_front : (args e : List Name) (i : ℕ) (n : Name) → slice_get args i ≡ Some n → slice_index_or (args ++ e) i object ≡ n
index_front [] e i n h = absurd (cc)
index_front (a ∷ args) e zero n h = cc
index_front (a ∷ args) e (suc i) n h = index_front args e i n h

index_rest : (args e : List Name) (i : ℕ) → slice_get args i ≡ None → slice_index_or (args ++ e) i object ≡ slice_index_or e (i - length args) object
index_rest [] e i h =
    let same : i ≡ i - 0 = omega arith in
    ap (λ j. slice_index_or e j object) same
index_rest (a ∷ args) e zero h = absurd (cc)
index_rest (a ∷ args) e (suc i) h =
    let same : i - length args ≡ suc i - length (a ∷ args) = omega arith in
    index_rest args e i h ∙ ap (λ j. slice_index_or e j object) same

named : (args e : List Name) (i : ℕ) (o : Option Name) → slice_get args i ≡ o → name_in e (put_var args i o) ≡ slice_index_or (args ++ e) i object
named args e i (Some n) h = sym (index_front args e i n h)
named args e i None h = sym (index_rest args e i h)

name_put : (args e : List Name) (t : Term) → name_in e (put_term args t) ≡ name_in (args ++ e) t
name_put args e (Var i) = named args e i (slice_get args i) refl
name_put args e (Const n) = refl

names_put : (args e : List Name) (ts : List Term) → map (name_in e) (map (put_term args) ts) ≡ map (name_in (args ++ e)) ts
names_put args e [] = refl
names_put args e (t ∷ ts) = λ i. name_put args e t i ∷ names_put args e ts i

pub ground_put : (args e : List Name) (l : Lifted) → ground_in e (put_lifted args l) ≡ ground_in (args ++ e) l
ground_put args e l = λ i. record { head = l.head; args = names_put args e l.terms i }

value_put : (k : Knowledge) (args e : List Name) (x : ExprTree) → value_with k e (put_tree args x) ≡ value_with k (args ++ e) x
value_put k args e (number n) = refl
value_put k args e (value_of l) = ap (value_in k) (ground_put args e l)
value_put k args e (negated x) = λ i. option_map neg_ℤ (value_put k args e x i)
value_put k args e (operated op x y) = λ i. of_both (computed op) (value_put k args e x i) (value_put k args e y i)

-- ---- names put in, where no variable is left

none_named : (t : Term) → name_of t ≡ name_in [] t
none_named (Var i) = refl
none_named (Const n) = refl

none_grounded : (ts : List Term) → map name_of ts ≡ map (name_in []) ts
none_grounded [] = refl
none_grounded (t ∷ ts) = λ i. none_named t i ∷ none_grounded ts i

pub ground_put_in : (env : List Name) (l : Lifted) → ground (put_lifted env l) ≡ ground_in env l
ground_put_in env l =
    (λ i. record { head = l.head; args = none_grounded (map (put_term env) l.terms) i })
    ∙ ground_put env [] l
    ∙ ap (λ e. ground_in e l) (append-nil env)

pub value_put_in : (k : Knowledge) (env : List Name) (x : ExprTree) → value k (put_tree env x) ≡ value_with k env x
value_put_in k env x = value_put k env [] x ∙ ap (λ e. value_with k e x) (append-nil env)

pub tree_put : (env : List Name) (x : Expr) → expr_tree (put_expr env x) ≡ put_tree env (expr_tree x)
tree_put env (Num n) = refl
tree_put env (Fun l) = refl
tree_put env (Neg x) = refl
tree_put env (Bin op x y) = refl

-- ---- bound variables

-- what holds for each name holds for all
each_chosen : {A : Type 0} (f : A → A) (g h : Name → List A) → ((n : Name) → g n ≡ map f (h n)) → (ns : List Name) → flat_map g ns ≡ map f (flat_map h ns)
each_chosen f g h so [] = refl
each_chosen f g h so (n ∷ ns) = (λ i. so n i ++ each_chosen f g h so ns i) ∙ sym (map-append f (h n) (flat_map h ns))

pub chosen : (d : Domain) (is : List (Name × Name)) (ps : List Param) (args e : List Name) → bindings d is ps (args ++ e) ≡ map (λ x. args ++ x) (bindings d is ps e)
chosen d is [] args e = refl
chosen d is (p ∷ ps) args e =
    each_chosen (λ x. args ++ x) (λ n. bindings d is ps ((args ++ e) ++ n ∷ [])) (λ n. bindings d is ps (e ++ n ∷ []))
    (λ n. ap (bindings d is ps) (append_assoc args e (n ∷ [])) ∙ chosen d is ps args (e ++ n ∷ [])) (fitting_names d is p.kind)

any_mapped : {A B : Type 0} (p : B → Bool) (f : A → B) (xs : List A) → list_any p (map f xs) ≡ list_any (λ x. p (f x)) xs
any_mapped p f [] = refl
any_mapped p f (x ∷ xs) = ap (λ b. p (f x) || b) (any_mapped p f xs)

-- ---- conditions

module _ (d : Domain) (k : Knowledge) (args : List Name) where
  mutual
    pub holds_as_well : (e : List Name) (c : CondTree) → is_true_with d k e (put_cond args c) ≡ is_true_with d k (args ++ e) c
    holds_as_well e (all_of cs) = all_as_well e cs
    holds_as_well e (any_of cs) = any_as_well e cs
    holds_as_well e (no c) = ap not (holds_as_well e c)
    holds_as_well e (implied a b) = λ i. not (holds_as_well e a i) || holds_as_well e b i
    holds_as_well e (holds l) = ap (is_known k) (ground_put args e l)
    holds_as_well e (same s t) = λ i. same_name (name_put args e s i) (name_put args e t i)
    holds_as_well e (compares rel x y) = λ i. compare_so rel (value_put k args e x i) (value_put k args e y i)
    holds_as_well e (is_a t kind) = λ i. fits d (kind_of k (name_put args e t i)) kind
    holds_as_well e (for_some ps c) =
        (λ i. list_any (λ x. holds_as_well x c i) (bindings d k.instances ps e))
        ∙ sym (any_mapped (λ x. is_true_with d k x c) (λ x. args ++ x) (bindings d k.instances ps e))
        ∙ ap (list_any (λ x. is_true_with d k x c)) (sym (chosen d k.instances ps args e))
    holds_as_well e (for_all ps c) =
        (λ i. list_all (λ x. holds_as_well x c i) (bindings d k.instances ps e))
        ∙ sym (list_all-map (λ x. is_true_with d k x c) (λ x. args ++ x) (bindings d k.instances ps e))
        ∙ ap (list_all (λ x. is_true_with d k x c)) (sym (chosen d k.instances ps args e))

    all_as_well : (e : List Name) (cs : CondTrees) → are_true_with d k e (put_conds args cs) ≡ are_true_with d k (args ++ e) cs
    all_as_well e none = refl
    all_as_well e (more c cs) = λ i. holds_as_well e c i && all_as_well e cs i

    any_as_well : (e : List Name) (cs : CondTrees) → is_one_true_with d k e (put_conds args cs) ≡ is_one_true_with d k (args ++ e) cs
    any_as_well e none = refl
    any_as_well e (more c cs) = λ i. holds_as_well e c i || any_as_well e cs i

pub grounded_holds_as_well : GroundedHoldsAsWell
grounded_holds_as_well d k args e c = holds_as_well d k args e c
