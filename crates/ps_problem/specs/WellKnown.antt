-- That what is known suits the domain.
use Rattle.std.specs.Prelude.{◌≡◌, ◌≤◌, false, true, Option, None, Some, Ok, List, [], filter_map, length, All, IfSome}
use Rattle.std.specs.List.{AllPairs, AllZip, Contains}
use Rattle.ps_world.specs.Names.{same_name}
use Rattle.ps_world.specs.CondViews.{cond_tree}
use Rattle.ps_world.specs.Knowledge.{kind_of, value_in, is_type, is_below, predicate_of, function_of, fault_of_cond, most_instances, edited, opening}
use Rattle.ps_world.specs.declared.names.Name.{Name}
use Rattle.ps_world.specs.declared.numbers.Num.{Num}
use Rattle.ps_world.specs.declared.facts.Fact.{Fact}
use Rattle.ps_world.specs.declared.domains.Param.{Param}
use Rattle.ps_world.specs.declared.domains.Decl.{Decl}
use Rattle.ps_world.specs.declared.domains.Domain.{Domain}
use Rattle.ps_world.specs.declared.known.Knowledge.{Knowledge}
use Rattle.ps_world.specs.declared.actions.Effect.{Effect}
use Rattle.ps_world.specs.declared.edits.Edit.{Edit}
use Rattle.ps_action.specs.Effects.{added_by, made}
use Rattle.ps_problem.specs.Changes.{Rises}

-- the name is an instance, and its type is the parameter's or below it
abbrev pub Fits : Domain → Knowledge → Param → Name → Type 0
Fits d k p n = (kind : Name) × (kind_of k n ≡ Some kind) × (is_below d kind p.kind ≡ true)

-- the head is declared, with a parameter for each argument, and each argument fits its parameter
abbrev pub Suits : Domain → Knowledge → Option Decl → List Name → Type 0
Suits d k o ns = (decl : Decl) × (o ≡ Some decl) × AllZip (Fits d k) decl.params ns

-- what is known suits the domain
pub record IsWellKnown (d : Domain) (k : Knowledge) : Type 0 where
  -- no name, no fact and no function term stands in its list twice
  pub rises : Rises k
  pub few : length k.instances ≤ most_instances
  pub types : (n t : Name) → kind_of k n ≡ Some t → is_type d t ≡ true
  pub constants : (c : Param) → Contains d.constants c → kind_of k c.name ≡ Some c.kind
  pub facts : (f : Fact) → Contains k.facts f → Suits d k (predicate_of d f.head) f.args
  pub values : (f : Fact) (x : Num) → value_in k f ≡ Some x → Suits d k (function_of d f.head) f.args
  -- the goal, where there is one, is one that could be set now
  pub goal : IfSome k.goal (λ goal. fault_of_cond d k [] (cond_tree goal) ≡ None)

-- at most 1,000 constants, none twice, and each of a declared type
pub record HasConstants (d : Domain) : Type 0 where
  pub few : length d.constants ≤ most_instances
  pub apart : AllPairs (λ x y. same_name x.name y.name ≡ false) d.constants
  pub kinds : All (λ c. is_type d c.kind ≡ true) d.constants

-- a session opens with knowledge that suits its domain, and an accepted edit leaves it so
pub record EditsKeepWellKnown : Type 0 where
  pub first : (d : Domain) → HasConstants d → IsWellKnown d (opening d)
  pub next : (d : Domain) (old : Knowledge) (edit : Edit) (new : Knowledge) → edited d old edit ≡ Ok new → IsWellKnown d old → IsWellKnown d new

-- each fact that is added is declared and fits, and so does each term that is given a value
pub record PutSuits (d : Domain) (k : Knowledge) (effects : List Effect) (ready : List (Fact × Num)) : Type 0 where
  pub facts : (f : Fact) → Contains (filter_map added_by effects) f → Suits d k (predicate_of d f.head) f.args
  pub terms : (v : Fact × Num) → Contains ready v → Suits d k (function_of d v.0.head) v.0.args

-- effects and values that suit the domain leave what is known so
abbrev pub PutsKeepWellKnown : Type 0
PutsKeepWellKnown = (d : Domain) (k : Knowledge) (effects : List Effect) (ready : List (Fact × Num)) → PutSuits d k effects ready → IsWellKnown d k → IsWellKnown d (made k effects ready)
