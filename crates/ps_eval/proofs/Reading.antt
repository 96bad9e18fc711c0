-- Conditions hold by what they read alone.
use Rattle.std.proofs.Common.{◌≡◌, Bool, true, false, not, ◌&&◌, ◌||◌, if◌then◌else◌, List, [], ◌∷◌, ◌++◌, All, Option, option_map, neg_ℤ, refl, ap, sym, ◌∙◌}
use Rattle.std.specs.List.{list_all, list_any}
use Rattle.std.specs.Map.{lookup}
use Rattle.std.proofs.lemmas.List.Elements.{All-nil, All-cons, All-head, All-tail}
use Rattle.ps_world.specs.Bound.{ground_in, name_in}
use Rattle.ps_world.specs.Names.{same_name}
use Rattle.ps_world.specs.Trees.{ExprTree, number, value_of, negated, operated, CondTree, CondTrees, all_of, any_of, no, implied, holds, same, compares, is_a, for_some, for_all, none, more, cond_trees}
use Rattle.ps_world.specs.Knowledge.{ground, is_known, value_in}
use Rattle.ps_world.specs.declared.names.Name.{Name}
use Rattle.ps_world.specs.declared.numbers.Num.{Num}
use Rattle.ps_world.specs.declared.schemas.Term.TheVariants.{Var, Const}
use Rattle.ps_world.specs.declared.schemas.Lifted.{Lifted}
use Rattle.ps_world.specs.declared.domains.Domain.{Domain}
use Rattle.ps_world.specs.declared.known.Knowledge.{Knowledge}
use Rattle.ps_action.specs.Bindings.{bindings}
use Rattle.ps_action.specs.Places.{has_var, place_of}
use Rattle.ps_action.specs.Values.{computed, of_both, value_with}
use Rattle.ps_action.specs.Truth.{are_true_with, compare_so, fits, is_one_true_with, is_true_with}
use Rattle.ps_action.specs.declared.touched.Touched.TheVariants.{Fact, Value, Instance, Facts, Values, Instances}
use Rattle.ps_action.specs.Touching.{arguments, fact_of, read_by, read_by_all, read_by_expr, value_at}
use Rattle.ps_action.proofs.Standing.{alone, in_place}
use Rattle.ps_eval.specs.Laws.{Agree, TruthReadsWhatIsNamed}

-- what holds of each of two lists in a row
module _ {A : Type 0} (P : A → Type 0) where
  pub in_front : (xs ys : List A) → All P (xs ++ ys) → All P xs
  in_front [] ys h = All-nil P
  in_front (x ∷ xs) ys h = All-cons P x xs (All-head P x (xs ++ ys) h) (in_front xs ys (All-tail P x (xs ++ ys) h))

  pub in_rest : (xs ys : List A) → All P (xs ++ ys) → All P ys
  in_rest [] ys h = h
  in_rest (x ∷ xs) ys h = in_rest xs ys (All-tail P x (xs ++ ys) h)

module _ (d : Domain) (one other : Knowledge) where
  fact_by : (env : List Name) (l : Lifted) (b : Bool) → has_var l ≡ b → Agree one other (if b then Facts (place_of l) else Fact (ground l)) → is_known one (ground_in env l) ≡ is_known other (ground_in env l)
  fact_by env l true e h = h (ground_in env l) (in_place env l)
  fact_by env l false e h = ap (is_known one) (alone env l e) ∙ h ∙ sym (ap (is_known other) (alone env l e))

  -- a fact is known in both or in neither, and a function term has the same value, whatever the variables stand for
  same_fact_in : (env : List Name) (l : Lifted) → Agree one other (fact_of l) → is_known one (ground_in env l) ≡ is_known other (ground_in env l)
  same_fact_in env l h = fact_by env l (has_var l) refl h

  value_by : (env : List Name) (l : Lifted) (b : Bool) → has_var l ≡ b → Agree one other (if b then Values (place_of l) else Value (ground l)) → value_in one (ground_in env l) ≡ value_in other (ground_in env l)
  value_by env l true e h = h (ground_in env l) (in_place env l)
  value_by env l false e h = ap (value_in one) (alone env l e) ∙ h ∙ sym (ap (value_in other) (alone env l e))

  pub same_value_in : (env : List Name) (l : Lifted) → Agree one other (value_at l) → value_in one (ground_in env l) ≡ value_in other (ground_in env l)
  same_value_in env l h = value_by env l (has_var l) refl h

  -- an expression is worth the same
  pub same_value : (env : List Name) (x : ExprTree) → All (Agree one other) (read_by_expr x) → value_with one env x ≡ value_with other env x
  same_value env (number n) h = refl
  same_value env (value_of l) h = same_value_in env l (All-head (Agree one other) (value_at l) (arguments l) h)
  same_value env (negated x) h = ap (λ (o : Option Num). option_map neg_ℤ o) (same_value env x h)
  same_value env (operated op x y) h =
      let left = same_value env x (in_front (Agree one other) (read_by_expr x) (read_by_expr y) h) in
      let right = same_value env y (in_rest (Agree one other) (read_by_expr x) (read_by_expr y) h) in
      λ i. of_both (computed op) (left i) (right i)

  mutual
    pub same_truth : (env : List Name) (c : CondTree) → All (Agree one other) (read_by c) → is_true_with d one env c ≡ is_true_with d other env c
    same_truth env (all_of cs) h = same_truths env cs h
    same_truth env (any_of cs) h = same_one env cs h
    same_truth env (no c) h = ap not (same_truth env c h)
    same_truth env (implied a b) h =
        let left = same_truth env a (in_front (Agree one other) (read_by a) (read_by b) h) in
        let right = same_truth env b (in_rest (Agree one other) (read_by a) (read_by b) h) in
        λ i. not (left i) || right i
    same_truth env (holds l) h = same_fact_in env l (All-head (Agree one other) (fact_of l) (arguments l) h)
    same_truth env (same s t) h = refl
    same_truth env (compares rel x y) h =
        let left = same_value env x (in_front (Agree one other) (read_by_expr x) (read_by_expr y) h) in
        let right = same_value env y (in_rest (Agree one other) (read_by_expr x) (read_by_expr y) h) in
        λ i. compare_so rel (left i) (right i)
    same_truth env (is_a (Var j) kind) h =
        let is = All-head (Agree one other) Instances [] h in
        λ i. fits d (lookup (same_name (name_in env (Var j))) (is i)) kind
    same_truth env (is_a (Const n) kind) h = ap (λ (o : Option Name). fits d o kind) (All-head (Agree one other) (Instance n) [] h)
    same_truth env (for_some ps c) h =
        let is = All-head (Agree one other) Instances (read_by c) h in
        let part = All-tail (Agree one other) Instances (read_by c) h in
        λ i. list_any (λ e. same_truth e c part i) (bindings d (is i) ps env)
    same_truth env (for_all ps c) h =
        let is = All-head (Agree one other) Instances (read_by c) h in
        let part = All-tail (Agree one other) Instances (read_by c) h in
        λ i. list_all (λ e. same_truth e c part i) (bindings d (is i) ps env)

    same_truths : (env : List Name) (cs : CondTrees) → All (Agree one other) (read_by_all cs) → are_true_with d one env cs ≡ are_true_with d other env cs
    same_truths env none h = refl
    same_truths env (more c cs) h =
        let first = same_truth env c (in_front (Agree one other) (read_by c) (read_by_all cs) h) in
        let rest = same_truths env cs (in_rest (Agree one other) (read_by c) (read_by_all cs) h) in
        λ i. first i && rest i

    same_one : (env : List Name) (cs : CondTrees) → All (Agree one other) (read_by_all cs) → is_one_true_with d one env cs ≡ is_one_true_with d other env cs
    same_one env none h = refl
    same_one env (more c cs) h =
        let first = same_truth env c (in_front (Agree one other) (read_by c) (read_by_all cs) h) in
        let rest = same_one env cs (in_rest (Agree one other) (read_by c) (read_by_all cs) h) in
        λ i. first i || rest i

pub truth_reads_what_is_named : TruthReadsWhatIsNamed
truth_reads_what_is_named d one other cs h = same_truths d one other [] (cond_trees cs) h
