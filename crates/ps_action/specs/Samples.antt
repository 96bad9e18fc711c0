-- A sample that is computed: boxes of a lab are sealed.
use Rattle.std.specs.Prelude.{◌≡◌, pos, true, false, None, Ok, Err, List, [], ◌∷◌}
use Rattle.ps_world.specs.Names.{object}
use Rattle.ps_world.specs.Trees.{CondTree, holds, for_all, for_some}
use Rattle.ps_world.specs.declared.names.Name.{Name}
use Rattle.ps_world.specs.declared.facts.Fact.{Fact}
use Rattle.ps_world.specs.declared.schemas.Term.{Term}
use Rattle.ps_world.specs.declared.schemas.Term.TheVariants.{Var, Const}
use Rattle.ps_world.specs.declared.schemas.Lifted.{Lifted}
use Rattle.ps_world.specs.declared.expressions.Expr.TheVariants.{Num}
use Rattle.ps_world.specs.declared.conditions.Cond.TheVariants.{Holds}
use Rattle.ps_world.specs.declared.actions.NumOp.TheVariants.{Assign}
use Rattle.ps_world.specs.declared.actions.Effect.TheVariants.{Add, Delete, Number}
use Rattle.ps_world.specs.declared.actions.Guarded.TheVariants.{Plain, When}
use Rattle.ps_world.specs.declared.actions.Spread.{Spread}
use Rattle.ps_world.specs.declared.actions.Spread.TheVariants.{Once, ForAll}
use Rattle.ps_world.specs.declared.domains.Param.{Param}
use Rattle.ps_world.specs.declared.domains.Domain.{Domain}
use Rattle.ps_world.specs.declared.known.Knowledge.{Knowledge}
use Rattle.ps_action.specs.Effects.{effect, flat}
use Rattle.ps_action.specs.Truth.{is_true}
use Rattle.ps_action.specs.declared.refusals.EffectRefusal.TheVariants.{Clash}

abbrev pub box : Name
box = record { 0 = 1 }

abbrev pub clear : Name
clear = record { 0 = 2 }

abbrev pub sealed : Name
sealed = record { 0 = 3 }

abbrev pub one_box : Name
one_box = record { 0 = 4 }

abbrev pub other_box : Name
other_box = record { 0 = 5 }

-- a domain with one type
abbrev pub lab : Domain
lab = record { name = record { 0 = 6 }; types = record { name = box; kind = object } ∷ []; constants = []; predicates = []; functions = []; actions = [] }

-- a variable for a box
abbrev pub a_box : Param
a_box = record { name = record { 0 = 7 }; kind = box }

abbrev pub is_clear : Term → Lifted
is_clear t = record { head = clear; terms = t ∷ [] }

abbrev pub is_sealed : Lifted
is_sealed = record { head = sealed; terms = [] }

-- two boxes, where these facts are known
abbrev pub boxes : List Fact → Knowledge
boxes facts = record { instances = (one_box, box) ∷ (other_box, box) ∷ []; facts = facts; values = []; goal = None }

-- the first box is clear
abbrev pub first_clear : Knowledge
first_clear = boxes (record { head = clear; args = one_box ∷ [] } ∷ [])

-- each box that is clear no longer is, and the lab is sealed
abbrev pub seals : List Spread
seals = ForAll (a_box ∷ []) (When (Holds (is_clear (Var 0))) (Delete (is_clear (Var 0)) ∷ []) ∷ []) ∷ Once (Plain (Add is_sealed)) ∷ []

-- one number for each box, which all are given to one function
abbrev pub counts : List Spread
counts = ForAll (a_box ∷ []) (Plain (Number Assign is_sealed (Num (pos 1000))) ∷ []) ∷ []

-- The first box alone is deleted, and the lab is sealed afterwards; the second box makes a number clash; and not each box is clear, but some is.
abbrev pub SamplesComeOut : Type 0
SamplesComeOut =
    (flat lab first_clear seals ≡ Delete (is_clear (Const one_box)) ∷ Add is_sealed ∷ [])
    × (effect lab first_clear seals ≡ Ok (boxes (record { head = sealed; args = [] } ∷ [])))
    × (effect lab first_clear counts ≡ Err (Clash 1))
    × (is_true lab first_clear (for_all (a_box ∷ []) (holds (is_clear (Var 0)))) ≡ false)
    × (is_true lab first_clear (for_some (a_box ∷ []) (holds (is_clear (Var 0)))) ≡ true)
