-- What conditions read goes unnamed where nothing that meets it is in a list: the arguments of each fact and term are read themselves.
use Rattle.std.proofs.Common.{◌≡◌, Bool, true, false, if◌then◌else◌, List, [], ◌∷◌, All, map, refl}
use Rattle.std.specs.List.{list_any}
use Rattle.std.proofs.lemmas.List.Elements.{All-append, All-cons, All-head, All-nil, All-tail}
use Rattle.std.proofs.lemmas.Bool.{or_from}
use Rattle.ps_world.specs.Trees.{ExprTree, number, value_of, negated, operated, CondTree, CondTrees, all_of, any_of, no, implied, holds, same, compares, is_a, for_some, for_all, none, more}
use Rattle.ps_world.specs.Knowledge.{ground, name_of}
use Rattle.ps_world.specs.declared.schemas.Term.{Term}
use Rattle.ps_world.specs.declared.schemas.Term.TheVariants.{Var, Const}
use Rattle.ps_world.specs.declared.schemas.Lifted.{Lifted}
use Rattle.ps_action.specs.Places.{has_var, is_var, place_of}
use Rattle.ps_action.specs.Touching.{arguments, fact_of, named_by, read_by, read_by_all, read_by_expr, value_at}
use Rattle.ps_action.specs.declared.touched.Touched.{Touched}
use Rattle.ps_action.specs.declared.touched.Touched.TheVariants.{Fact, Value, Instance, Facts, Values, Instances}
use Rattle.ps_users.proofs.Things.{in_front, in_rest}
use Rattle.ps_monitor.specs.Naming.{has, has_name, is_named}

module _ (changed : List Touched) where
  abbrev pub Absent : Touched → Type 0
  Absent t = has changed t ≡ false

  abbrev pub Unnamed : Touched → Type 0
  Unnamed t = is_named changed t ≡ false

  unnamed_term : (t : Term) → Absent (named_by t) → Unnamed (named_by t)
  unnamed_term (Var i) h = h
  unnamed_term (Const n) h = h

  unnamed_terms : (ts : List Term) → All Absent (map named_by ts) → All Unnamed (map named_by ts)
  unnamed_terms [] h = All-nil Unnamed
  unnamed_terms (t ∷ ts) h =
      All-cons Unnamed (named_by t) (map named_by ts) (unnamed_term t (All-head Absent (named_by t) (map named_by ts) h)) (unnamed_terms ts (All-tail Absent (named_by t) (map named_by ts) h))

  -- where no term is a variable, none of their names is in the list
  no_names : (ts : List Term) → list_any is_var ts ≡ false → All Absent (map named_by ts) → has_name changed (map name_of ts) ≡ false
  no_names [] v h = refl
  no_names (Var i ∷ ts) v h = absurd (cc)
  no_names (Const n ∷ ts) v h =
      or_from (has changed (Instance n)) (has_name changed (map name_of ts)) (All-head Absent (Instance n) (map named_by ts) h) (no_names ts v (All-tail Absent (Instance n) (map named_by ts) h))

  -- where one is, no instance is in the list
  no_instance : (ts : List Term) → list_any is_var ts ≡ true → All Absent (map named_by ts) → has changed Instances ≡ false
  no_instance [] v h = absurd (cc)
  no_instance (Var i ∷ ts) v h = All-head Absent Instances (map named_by ts) h
  no_instance (Const n ∷ ts) v h = no_instance ts v (All-tail Absent (Instance n) (map named_by ts) h)

  fact_by : (l : Lifted) (b : Bool) → has_var l ≡ b → Absent (if b then Facts (place_of l) else Fact (ground l)) → All Absent (arguments l) → Unnamed (if b then Facts (place_of l) else Fact (ground l))
  fact_by l true v e h = or_from (has changed (Facts (place_of l))) (has changed Instances) e (no_instance l.terms v h)
  fact_by l false v e h = or_from (has changed (Fact (ground l))) (has_name changed (map name_of l.terms)) e (no_names l.terms v h)

  value_by : (l : Lifted) (b : Bool) → has_var l ≡ b → Absent (if b then Values (place_of l) else Value (ground l)) → All Absent (arguments l) → Unnamed (if b then Values (place_of l) else Value (ground l))
  value_by l true v e h = or_from (has changed (Values (place_of l))) (has changed Instances) e (no_instance l.terms v h)
  value_by l false v e h = or_from (has changed (Value (ground l))) (has_name changed (map name_of l.terms)) e (no_names l.terms v h)

  unnamed_fact : (l : Lifted) → All Absent (fact_of l ∷ arguments l) → All Unnamed (fact_of l ∷ arguments l)
  unnamed_fact l h =
      let rest = All-tail Absent (fact_of l) (arguments l) h in
      All-cons Unnamed (fact_of l) (arguments l) (fact_by l (has_var l) refl (All-head Absent (fact_of l) (arguments l) h) rest) (unnamed_terms l.terms rest)

  unnamed_value : (l : Lifted) → All Absent (value_at l ∷ arguments l) → All Unnamed (value_at l ∷ arguments l)
  unnamed_value l h =
      let rest = All-tail Absent (value_at l) (arguments l) h in
      All-cons Unnamed (value_at l) (arguments l) (value_by l (has_var l) refl (All-head Absent (value_at l) (arguments l) h) rest) (unnamed_terms l.terms rest)

  unnamed_expr : (x : ExprTree) → All Absent (read_by_expr x) → All Unnamed (read_by_expr x)
  unnamed_expr (number n) h = All-nil Unnamed
  unnamed_expr (value_of l) h = unnamed_value l h
  unnamed_expr (negated x) h = unnamed_expr x h
  unnamed_expr (operated op x y) h =
      All-append Unnamed (read_by_expr x) (read_by_expr y)
      (unnamed_expr x (in_front Absent (read_by_expr x) (read_by_expr y) h))
      (unnamed_expr y (in_rest Absent (read_by_expr x) (read_by_expr y) h))

  mutual
    unnamed_cond : (c : CondTree) → All Absent (read_by c) → All Unnamed (read_by c)
    unnamed_cond (all_of cs) h = unnamed_conds cs h
    unnamed_cond (any_of cs) h = unnamed_conds cs h
    unnamed_cond (no c) h = unnamed_cond c h
    unnamed_cond (implied a b) h =
        All-append Unnamed (read_by a) (read_by b)
        (unnamed_cond a (in_front Absent (read_by a) (read_by b) h))
        (unnamed_cond b (in_rest Absent (read_by a) (read_by b) h))
    unnamed_cond (holds l) h = unnamed_fact l h
    unnamed_cond (same s t) h = unnamed_terms (s ∷ t ∷ []) h
    unnamed_cond (compares rel x y) h =
        All-append Unnamed (read_by_expr x) (read_by_expr y)
        (unnamed_expr x (in_front Absent (read_by_expr x) (read_by_expr y) h))
        (unnamed_expr y (in_rest Absent (read_by_expr x) (read_by_expr y) h))
    unnamed_cond (is_a t kind) h = unnamed_terms (t ∷ []) h
    unnamed_cond (for_some ps c) h = All-cons Unnamed Instances (read_by c) (All-head Absent Instances (read_by c) h) (unnamed_cond c (All-tail Absent Instances (read_by c) h))
    unnamed_cond (for_all ps c) h = All-cons Unnamed Instances (read_by c) (All-head Absent Instances (read_by c) h) (unnamed_cond c (All-tail Absent Instances (read_by c) h))

    -- what several conditions read goes unnamed
    pub unnamed_conds : (cs : CondTrees) → All Absent (read_by_all cs) → All Unnamed (read_by_all cs)
    unnamed_conds none h = All-nil Unnamed
    unnamed_conds (more c cs) h =
        All-append Unnamed (read_by c) (read_by_all cs)
        (unnamed_cond c (in_front Absent (read_by c) (read_by_all cs) h))
        (unnamed_conds cs (in_rest Absent (read_by c) (read_by_all cs) h))
