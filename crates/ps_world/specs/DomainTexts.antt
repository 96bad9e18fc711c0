-- The canonical text of a domain. A text is a list of bytes.
use Rattle.std.specs.Prelude.{ℕ, List, [], ◌∷◌, ◌++◌, codes, map, slice_index_or}
use Rattle.std.specs.List.{flat_map}
use Rattle.ps_world.specs.Lines.{line_end}
use Rattle.ps_world.specs.Names.{Table, object, name_text}
use Rattle.ps_world.specs.Numbers.{number_text}
use Rattle.ps_world.specs.Trees.{ExprTree, number, value_of, negated, operated, CondTree, CondTrees, all_of, any_of, no, implied, holds, same, compares, is_a, for_some, for_all, none, more}
use Rattle.ps_world.specs.ExprViews.{expr_tree}
use Rattle.ps_world.specs.CondViews.{cond_tree}
use Rattle.ps_world.specs.declared.schemas.Term.{Term}
use Rattle.ps_world.specs.declared.schemas.Term.TheVariants.{Var, Const}
use Rattle.ps_world.specs.declared.schemas.Lifted.{Lifted}
use Rattle.ps_world.specs.declared.expressions.Op.{Op}
use Rattle.ps_world.specs.declared.expressions.Op.TheVariants.{Add, Sub, Mul, Div}
use Rattle.ps_world.specs.declared.conditions.Rel.{Rel}
use Rattle.ps_world.specs.declared.conditions.Rel.TheVariants.{Lt, Le, Eq, Ge, Gt}
use Rattle.ps_world.specs.declared.actions.NumOp.{NumOp}
use Rattle.ps_world.specs.declared.actions.NumOp.TheVariants as numeric
use Rattle.ps_world.specs.declared.actions.Effect.{Effect}
use Rattle.ps_world.specs.declared.actions.Effect.TheVariants as effect
use Rattle.ps_world.specs.declared.actions.Guarded.{Guarded}
use Rattle.ps_world.specs.declared.actions.Guarded.TheVariants.{Plain, When}
use Rattle.ps_world.specs.declared.actions.Spread.{Spread}
use Rattle.ps_world.specs.declared.actions.Spread.TheVariants.{Once, ForAll}
use Rattle.ps_world.specs.declared.actions.ActionDef.{ActionDef}
use Rattle.ps_world.specs.declared.domains.Param.{Param}
use Rattle.ps_world.specs.declared.domains.Decl.{Decl}
use Rattle.ps_world.specs.declared.domains.Domain.{Domain}

-- ---- lists

-- texts, each after a space
abbrev pub after_spaces : List (List ℕ) → List ℕ
after_spaces ts = flat_map (λ t. codes " " ++ t) ts

-- texts, with a space between neighbours
abbrev pub spaced : List (List ℕ) → List ℕ
spaced [] = []
spaced (t ∷ ts) = t ++ after_spaces ts

-- a name with its type, as robot - object
abbrev pub typed_text : Table → Param → List ℕ
typed_text names p = name_text names p.name ++ (codes " - " ++ name_text names p.kind)

-- a parameter, as ?r - robot
abbrev pub param_text : Table → Param → List ℕ
param_text names p = codes "?" ++ typed_text names p

-- a predicate or a function, as (robot_at ?r - robot ?ro - room)
abbrev pub decl_text : Table → Decl → List ℕ
decl_text names decl =
    codes "(" ++ (name_text names decl.name ++ (after_spaces (map (param_text names) decl.params) ++ codes ")"))

-- ---- terms and expressions, where these are the variables in force

-- a variable by its name, or a constant
abbrev pub term_text : Table → List Param → Term → List ℕ
term_text names ps (Var i) = codes "?" ++ name_text names (slice_index_or ps i (record { name = object; kind = object })).name
term_text names ps (Const n) = name_text names n

-- (NAME TERM*)
abbrev pub lifted_text : Table → List Param → Lifted → List ℕ
lifted_text names ps l =
    codes "(" ++ (name_text names l.head ++ (after_spaces (map (term_text names ps) l.terms) ++ codes ")"))

-- the sign of an operation
abbrev pub op_text : Op → List ℕ
op_text Add = codes "+"
op_text Sub = codes "-"
op_text Mul = codes "*"
op_text Div = codes "/"

-- NUMBER | (NAME TERM*) | (- X) | (OP X X)
abbrev pub expr_text : Table → List Param → ExprTree → List ℕ
expr_text names ps (number n) = number_text n
expr_text names ps (value_of l) = lifted_text names ps l
expr_text names ps (negated x) = codes "(- " ++ (expr_text names ps x ++ codes ")")
expr_text names ps (operated op x y) =
    codes "(" ++ (op_text op ++ (codes " " ++ (expr_text names ps x ++ (codes " " ++ (expr_text names ps y ++ codes ")")))))

-- ---- conditions

-- the sign of a comparison
abbrev pub rel_text : Rel → List ℕ
rel_text Lt = codes "<"
rel_text Le = codes "<="
rel_text Eq = codes "="
rel_text Ge = codes ">="
rel_text Gt = codes ">"

-- the variables of a quantifier, as (?r - robot ?ro - room)
abbrev pub bound_text : Table → List Param → List ℕ
bound_text names qs = codes "(" ++ (spaced (map (param_text names) qs) ++ codes ")")

abbrev mutual
  -- (and C*) | (or C*) | (not C) | (imply C C) | (exists (VLIST) C) | (forall (VLIST) C) | (NAME TERM*) | (= TERM TERM) | (REL X X), where each
  -- variable of a list stands with its type; that an instance has a type is never written
  pub cond_text : Table → List Param → CondTree → List ℕ
  cond_text names ps (all_of cs) = codes "(and" ++ (conds_text names ps cs ++ codes ")")
  cond_text names ps (any_of cs) = codes "(or" ++ (conds_text names ps cs ++ codes ")")
  cond_text names ps (no c) = codes "(not " ++ (cond_text names ps c ++ codes ")")
  cond_text names ps (implied a b) =
      codes "(imply " ++ (cond_text names ps a ++ (codes " " ++ (cond_text names ps b ++ codes ")")))
  cond_text names ps (holds l) = lifted_text names ps l
  cond_text names ps (same s t) =
      codes "(= " ++ (term_text names ps s ++ (codes " " ++ (term_text names ps t ++ codes ")")))
  cond_text names ps (compares rel x y) =
      codes "(" ++ (rel_text rel ++ (codes " " ++ (expr_text names ps x ++ (codes " " ++ (expr_text names ps y ++ codes ")")))))
  cond_text names ps (is_a t kind) = []
  cond_text names ps (for_some qs c) =
      codes "(exists " ++ (bound_text names qs ++ (codes " " ++ (cond_text names (ps ++ qs) c ++ codes ")")))
  cond_text names ps (for_all qs c) =
      codes "(forall " ++ (bound_text names qs ++ (codes " " ++ (cond_text names (ps ++ qs) c ++ codes ")")))

  -- conditions, each after a space
  pub conds_text : Table → List Param → CondTrees → List ℕ
  conds_text names ps none = []
  conds_text names ps (more c cs) = codes " " ++ (cond_text names ps c ++ conds_text names ps cs)

-- ---- effects

-- the word of a change of a number
abbrev pub num_op_text : NumOp → List ℕ
num_op_text numeric.Assign = codes "assign"
num_op_text numeric.Increase = codes "increase"
num_op_text numeric.Decrease = codes "decrease"
num_op_text numeric.ScaleUp = codes "scale-up"
num_op_text numeric.ScaleDown = codes "scale-down"

-- (NAME TERM*) | (not (NAME TERM*)) | (NOP (NAME TERM*) X)
abbrev pub effect_text : Table → List Param → Effect → List ℕ
effect_text names ps (effect.Add l) = lifted_text names ps l
effect_text names ps (effect.Delete l) = codes "(not " ++ (lifted_text names ps l ++ codes ")")
effect_text names ps (effect.Number how l x) =
    codes "(" ++ (num_op_text how ++ (codes " " ++ (lifted_text names ps l ++ (codes " " ++ (expr_text names ps (expr_tree x) ++ codes ")")))))

-- an effect, or (when C (and G*))
abbrev pub guarded_text : Table → List Param → Guarded → List ℕ
guarded_text names ps (Plain e) = effect_text names ps e
guarded_text names ps (When c es) =
    codes "(when " ++ (cond_text names ps (cond_tree c) ++ (codes " (and" ++ (after_spaces (map (effect_text names ps) es) ++ codes "))")))

-- what stands once, or (forall (VLIST) (and W*))
abbrev pub spread_text : Table → List Param → Spread → List ℕ
spread_text names ps (Once g) = guarded_text names ps g
spread_text names ps (ForAll qs gs) =
    codes "(forall " ++ (bound_text names qs ++ (codes " (and" ++ (after_spaces (map (guarded_text names (ps ++ qs)) gs) ++ codes "))")))

-- ---- actions

-- parts with the same time, each after a space: (at start C), (over all C) or (at end C), and the same of effects
abbrev pub timed_text : List ℕ → List (List ℕ) → List ℕ
timed_text time parts = flat_map (λ part. codes " (" ++ (time ++ (codes " " ++ (part ++ codes ")")))) parts

-- the parts of an action's condition: those of the start, those over all, and those of the end
abbrev pub conditions_text : Table → ActionDef → List ℕ
conditions_text names a =
    timed_text (codes "at start") (map (cond_text names a.params) a.conditions.at_start)
    ++ (timed_text (codes "over all") (map (cond_text names a.params) a.conditions.over_all)
    ++ timed_text (codes "at end") (map (cond_text names a.params) a.conditions.at_end))

-- the parts of an action's effect: those of the start, and those of the end
abbrev pub effects_text : Table → ActionDef → List ℕ
effects_text names a =
    timed_text (codes "at start") (map (spread_text names a.params) a.effects.at_start)
    ++ timed_text (codes "at end") (map (spread_text names a.params) a.effects.at_end)

-- the five lines of an action
abbrev pub action_lines : Table → ActionDef → List (List ℕ)
action_lines names a =
    (codes "(:durative-action " ++ name_text names a.name)
    ∷ (codes ":parameters (" ++ (spaced (map (param_text names) a.params) ++ codes ")"))
    ∷ (codes ":duration (= ?duration " ++ (expr_text names a.params (expr_tree a.duration) ++ codes ")"))
    ∷ (codes ":condition (and" ++ (conditions_text names a ++ codes ")"))
    ∷ (codes ":effect (and" ++ (effects_text names a ++ codes "))"))
    ∷ []

-- ---- domains

-- the line of a section, unless nothing stands in it
abbrev pub section_lines : List ℕ → List (List ℕ) → List (List ℕ)
section_lines key [] = []
section_lines key (t ∷ ts) = (codes "(" ++ (key ++ (after_spaces (t ∷ ts) ++ codes ")"))) ∷ []

-- the lines of a domain, without the LF that ends each
abbrev pub domain_lines : Table → Domain → List (List ℕ)
domain_lines names d =
    (codes "(define (domain " ++ (name_text names d.name ++ codes ")"))
    ∷ (section_lines (codes ":types") (map (typed_text names) d.types)
    ++ (section_lines (codes ":constants") (map (typed_text names) d.constants)
    ++ (section_lines (codes ":predicates") (map (decl_text names) d.predicates)
    ++ (section_lines (codes ":functions") (map (decl_text names) d.functions)
    ++ (flat_map (action_lines names) d.actions ++ codes ")" ∷ [])))))

-- the canonical text of a domain
unfoldable pub domain_text : Table → Domain → List ℕ
domain_text names d = flat_map (λ line. line ++ line_end) (domain_lines names d)
