-- The words of a domain's canonical text, and the domains that have one: their names stand in the table.
use Rattle.std.specs.Prelude.{ℕ, ◌<◌, List, [], ◌∷◌, ◌++◌, codes, map, length, All}
use Rattle.std.specs.List.{flat_map}
use Rattle.ps_world.specs.Names.{Table, name_text}
use Rattle.ps_world.specs.Numbers.{IsCount, number_text}
use Rattle.ps_world.specs.DomainTexts.{term_text, op_text, rel_text, num_op_text}
use Rattle.ps_world.specs.Trees.{ExprTree, number, value_of, negated, operated, CondTree, CondTrees, all_of, any_of, no, implied, holds, same, compares, is_a, for_some, for_all, none, more}
use Rattle.ps_world.specs.Leaves.{AllIn, AllInEach}
use Rattle.ps_world.specs.Tables.{goal_leaves}
use Rattle.ps_world.specs.ExprViews.{expr_tree}
use Rattle.ps_world.specs.CondViews.{cond_tree}
use Rattle.ps_world.specs.declared.names.Name.{Name}
use Rattle.ps_world.specs.declared.schemas.Term.{Term}
use Rattle.ps_world.specs.declared.schemas.Term.TheVariants.{Var, Const}
use Rattle.ps_world.specs.declared.schemas.Lifted.{Lifted}
use Rattle.ps_world.specs.declared.actions.Effect.{Effect}
use Rattle.ps_world.specs.declared.actions.Effect.TheVariants as effect
use Rattle.ps_world.specs.declared.actions.Guarded.{Guarded}
use Rattle.ps_world.specs.declared.actions.Guarded.TheVariants.{Plain, When}
use Rattle.ps_world.specs.declared.actions.Spread.{Spread}
use Rattle.ps_world.specs.declared.actions.Spread.TheVariants.{Once, ForAll}
use Rattle.ps_world.specs.declared.actions.ActionDef.{ActionDef}
use Rattle.ps_world.specs.declared.domains.Param.{Param}
use Rattle.ps_world.specs.declared.domains.Decl.{Decl}
use Rattle.ps_world.specs.declared.domains.Domain.{Domain}

-- ---- the words

-- words between two parentheses
abbrev pub grouped : List (List ℕ) → List (List ℕ)
grouped ws = codes "(" ∷ (ws ++ codes ")" ∷ [])

-- a name with its type
abbrev pub typed_words : Table → Param → List (List ℕ)
typed_words names p = name_text names p.name ∷ codes "-" ∷ name_text names p.kind ∷ []

-- a parameter
abbrev pub param_words : Table → Param → List (List ℕ)
param_words names p = (codes "?" ++ name_text names p.name) ∷ codes "-" ∷ name_text names p.kind ∷ []

-- a predicate or a function
abbrev pub decl_words : Table → Decl → List (List ℕ)
decl_words names decl = grouped (name_text names decl.name ∷ flat_map (param_words names) decl.params)

-- a parameter's name or a constant, which is one word
abbrev pub term_words : Table → List Param → Term → List (List ℕ)
term_words names ps t = term_text names ps t ∷ []

-- (NAME TERM*)
abbrev pub lifted_words : Table → List Param → Lifted → List (List ℕ)
lifted_words names ps l = grouped (name_text names l.head ∷ flat_map (term_words names ps) l.terms)

-- NUMBER | (NAME TERM*) | (- X) | (OP X X)
abbrev pub expr_words : Table → List Param → ExprTree → List (List ℕ)
expr_words names ps (number n) = number_text n ∷ []
expr_words names ps (value_of l) = lifted_words names ps l
expr_words names ps (negated x) = grouped (codes "-" ∷ expr_words names ps x)
expr_words names ps (operated op x y) = grouped (op_text op ∷ (expr_words names ps x ++ expr_words names ps y))

-- the variables of a quantifier
abbrev pub bound_words : Table → List Param → List (List ℕ)
bound_words names qs = grouped (flat_map (param_words names) qs)

abbrev mutual
  -- (and C*) | (or C*) | (not C) | (imply C C) | (exists (VLIST) C) | (forall (VLIST) C) | (NAME TERM*) | (= TERM TERM) | (REL X X)
  pub cond_words : Table → List Param → CondTree → List (List ℕ)
  cond_words names ps (all_of cs) = grouped (codes "and" ∷ conds_words names ps cs)
  cond_words names ps (any_of cs) = grouped (codes "or" ∷ conds_words names ps cs)
  cond_words names ps (no c) = grouped (codes "not" ∷ cond_words names ps c)
  cond_words names ps (implied a b) = grouped (codes "imply" ∷ (cond_words names ps a ++ cond_words names ps b))
  cond_words names ps (holds l) = lifted_words names ps l
  cond_words names ps (same s t) = grouped (codes "=" ∷ (term_words names ps s ++ term_words names ps t))
  cond_words names ps (compares rel x y) = grouped (rel_text rel ∷ (expr_words names ps x ++ expr_words names ps y))
  cond_words names ps (is_a t kind) = []
  cond_words names ps (for_some qs c) = grouped (codes "exists" ∷ (bound_words names qs ++ cond_words names (ps ++ qs) c))
  cond_words names ps (for_all qs c) = grouped (codes "forall" ∷ (bound_words names qs ++ cond_words names (ps ++ qs) c))

  -- conditions, one after another
  pub conds_words : Table → List Param → CondTrees → List (List ℕ)
  conds_words names ps none = []
  conds_words names ps (more c cs) = cond_words names ps c ++ conds_words names ps cs

-- (NAME TERM*) | (not (NAME TERM*)) | (NOP (NAME TERM*) X)
abbrev pub effect_words : Table → List Param → Effect → List (List ℕ)
effect_words names ps (effect.Add l) = lifted_words names ps l
effect_words names ps (effect.Delete l) = grouped (codes "not" ∷ lifted_words names ps l)
effect_words names ps (effect.Number how l x) =
    grouped (num_op_text how ∷ (lifted_words names ps l ++ expr_words names ps (expr_tree x)))

-- an effect, or (when C (and G*))
abbrev pub guarded_words : Table → List Param → Guarded → List (List ℕ)
guarded_words names ps (Plain e) = effect_words names ps e
guarded_words names ps (When c es) =
    grouped (codes "when" ∷ (cond_words names ps (cond_tree c) ++ grouped (codes "and" ∷ flat_map (effect_words names ps) es)))

-- what stands once, or (forall (VLIST) (and W*))
abbrev pub spread_words : Table → List Param → Spread → List (List ℕ)
spread_words names ps (Once g) = guarded_words names ps g
spread_words names ps (ForAll qs gs) =
    grouped (codes "forall" ∷ (bound_words names qs ++ grouped (codes "and" ∷ flat_map (guarded_words names (ps ++ qs)) gs)))

-- parts with the same time
abbrev pub timed_words : List (List ℕ) → List (List (List ℕ)) → List (List ℕ)
timed_words time parts = flat_map (λ part. grouped (time ++ part)) parts

-- the two words of each time
abbrev pub at_start : List (List ℕ)
at_start = codes "at" ∷ codes "start" ∷ []

abbrev pub over_all : List (List ℕ)
over_all = codes "over" ∷ codes "all" ∷ []

abbrev pub at_end : List (List ℕ)
at_end = codes "at" ∷ codes "end" ∷ []

-- the parts of an action's condition
abbrev pub conditions_words : Table → ActionDef → List (List ℕ)
conditions_words names a =
    timed_words at_start (map (cond_words names a.params) a.conditions.at_start)
    ++ (timed_words over_all (map (cond_words names a.params) a.conditions.over_all)
    ++ timed_words at_end (map (cond_words names a.params) a.conditions.at_end))

-- the parts of an action's effect
abbrev pub effects_words : Table → ActionDef → List (List ℕ)
effects_words names a =
    timed_words at_start (map (spread_words names a.params) a.effects.at_start)
    ++ timed_words at_end (map (spread_words names a.params) a.effects.at_end)

-- an action
abbrev pub action_words : Table → ActionDef → List (List ℕ)
action_words names a =
    codes "(" ∷ codes ":durative-action" ∷ name_text names a.name
    ∷ codes ":parameters" ∷ (grouped (flat_map (param_words names) a.params)
    ++ (codes ":duration" ∷ (grouped (codes "=" ∷ codes "?duration" ∷ expr_words names a.params (expr_tree a.duration))
    ++ (codes ":condition" ∷ (grouped (codes "and" ∷ conditions_words names a)
    ++ (codes ":effect" ∷ (grouped (codes "and" ∷ effects_words names a)
    ++ codes ")" ∷ [])))))))

-- a section, unless nothing stands in it
abbrev pub section_words : List ℕ → List (List (List ℕ)) → List (List ℕ)
section_words key [] = []
section_words key (first ∷ rest) = grouped (key ∷ flat_map (λ part. part) (first ∷ rest))

-- a domain
abbrev pub domain_words : Table → Domain → List (List ℕ)
domain_words names d =
    codes "(" ∷ codes "define" ∷ codes "(" ∷ codes "domain" ∷ name_text names d.name ∷ codes ")"
    ∷ (section_words (codes ":types") (map (typed_words names) d.types)
    ++ (section_words (codes ":constants") (map (typed_words names) d.constants)
    ++ (section_words (codes ":predicates") (map (decl_words names) d.predicates)
    ++ (section_words (codes ":functions") (map (decl_words names) d.functions)
    ++ (flat_map (action_words names) d.actions ++ codes ")" ∷ [])))))

-- ---- the domains, by how many names the table has

-- a name stands in the table
abbrev pub IsNameOf : ℕ → Name → Type 0
IsNameOf count n = n.0 < count

-- the same of a name with its type
abbrev pub IsParamOf : ℕ → Param → Type 0
IsParamOf count p = IsNameOf count p.name × IsNameOf count p.kind

-- the same of a predicate or a function
abbrev pub IsDeclOf : ℕ → Decl → Type 0
IsDeclOf count decl = IsNameOf count decl.name × All (IsParamOf count) decl.params

-- a term names one of so many parameters, or its constant stands in the table
abbrev pub IsTermOf : ℕ → ℕ → Term → Type 0
IsTermOf count params (Var i) = i < params
IsTermOf count params (Const n) = IsNameOf count n

-- the same of a predicate or a function and its arguments
abbrev pub IsLiftedOf : ℕ → ℕ → Lifted → Type 0
IsLiftedOf count params l = IsNameOf count l.head × All (IsTermOf count params) l.terms

-- the same of an expression, whose numbers are in range
abbrev pub IsExprOf : ℕ → ℕ → ExprTree → Type 0
IsExprOf count params (number n) = IsCount n
IsExprOf count params (value_of l) = IsLiftedOf count params l
IsExprOf count params (negated x) = IsExprOf count params x
IsExprOf count params (operated op x y) = IsExprOf count params x × IsExprOf count params y

-- the same of a condition with the variables in force
abbrev pub IsCondOf : ℕ → List Param → CondTree → Type 0
IsCondOf count ps c = AllIn (goal_leaves count) ps c

-- the same of each of these conditions
abbrev pub AreCondsOf : ℕ → List Param → CondTrees → Type 0
AreCondsOf count ps cs = AllInEach (goal_leaves count) ps cs

-- the same of an effect
abbrev pub IsEffectOf : ℕ → ℕ → Effect → Type 0
IsEffectOf count params (effect.Add l) = IsLiftedOf count params l
IsEffectOf count params (effect.Delete l) = IsLiftedOf count params l
IsEffectOf count params (effect.Number how l x) = IsLiftedOf count params l × IsExprOf count params (expr_tree x)

-- the same of an effect, or of effects with their condition, where these variables are in force
abbrev pub IsGuardedOf : ℕ → List Param → Guarded → Type 0
IsGuardedOf count ps (Plain e) = IsEffectOf count (length ps) e
IsGuardedOf count ps (When c es) = IsCondOf count ps (cond_tree c) × All (IsEffectOf count (length ps)) es

-- the same of what stands in a list of effects
abbrev pub IsSpreadOf : ℕ → List Param → Spread → Type 0
IsSpreadOf count ps (Once g) = IsGuardedOf count ps g
IsSpreadOf count ps (ForAll qs gs) = All (IsParamOf count) qs × All (IsGuardedOf count (ps ++ qs)) gs

-- the same of an action and its own parameters
pub record IsActionOf (count : ℕ) (a : ActionDef) : Type 0 where
  pub name : IsNameOf count a.name
  pub params : All (IsParamOf count) a.params
  pub duration : IsExprOf count (length a.params) (expr_tree a.duration)
  pub conditions_at_start : All (IsCondOf count a.params) a.conditions.at_start
  pub conditions_over_all : All (IsCondOf count a.params) a.conditions.over_all
  pub conditions_at_end : All (IsCondOf count a.params) a.conditions.at_end
  pub effects_at_start : All (IsSpreadOf count a.params) a.effects.at_start
  pub effects_at_end : All (IsSpreadOf count a.params) a.effects.at_end

-- each name of a domain is one of so many, each variable one of those in force, and no condition says that an instance has a type
pub record IsDomainOf (count : ℕ) (d : Domain) : Type 0 where
  pub name : IsNameOf count d.name
  pub types : All (IsParamOf count) d.types
  pub constants : All (IsParamOf count) d.constants
  pub predicates : All (IsDeclOf count) d.predicates
  pub functions : All (IsDeclOf count) d.functions
  pub actions : All (IsActionOf count) d.actions
