-- What is answered of a robot that moves between two rooms, which the definitions compute.
use Rattle.std.specs.Prelude.{◌≡◌, ℕ, pos, Some, [], ◌∷◌}
use Rattle.ps_world.specs.declared.names.Name.{Name}
use Rattle.ps_world.specs.declared.schemas.Term.TheVariants.{Var, Const}
use Rattle.ps_world.specs.declared.schemas.Lifted.{Lifted}
use Rattle.ps_world.specs.declared.conditions.Cond.{Cond}
use Rattle.ps_world.specs.declared.conditions.Cond.TheVariants.{Holds}
use Rattle.ps_world.specs.declared.expressions.Expr.TheVariants.{Num}
use Rattle.ps_world.specs.declared.actions.Effect.TheVariants.{Add, Delete}
use Rattle.ps_world.specs.declared.actions.ActionDef.{ActionDef}
use Rattle.ps_world.specs.declared.domains.Domain.{Domain}
use Rattle.ps_world.specs.declared.known.Knowledge.{Knowledge}
use Rattle.ps_world.specs.CondViews.{cond_tree}
use Rattle.ps_action.specs.Effects.{plainly}
use Rattle.ps_action.specs.declared.acts.Act.{Act}
use Rattle.ps_action.specs.declared.answers.Answer.TheVariants.{Plan, NoPlan, Spent}
use Rattle.ps_action.specs.Search.{answer}

abbrev pub name : ℕ → Name
name n = record { 0 = n }

-- 1: robot, 2: room, 3: at, 4: move, 5: leia, 6: hall, 7: study, 8: attic
abbrev pub at_parameter : ℕ → Lifted
at_parameter i = record { head = name 3; terms = Var i ∷ [] }

abbrev pub at_room : ℕ → Lifted
at_room room = record { head = name 3; terms = Const (name room) ∷ [] }

-- a move from the first room to the second
abbrev pub move : ActionDef
move = record {
  name = name 4;
  params = record { name = name 9; kind = name 2 } ∷ record { name = name 10; kind = name 2 } ∷ [];
  duration = Num (pos 1000);
  conditions = record { at_start = cond_tree (Holds (at_parameter 0)) ∷ []; over_all = []; at_end = [] };
  effects = record { at_start = plainly (Delete (at_parameter 0) ∷ []); at_end = plainly (Add (at_parameter 1) ∷ []) };
}

abbrev pub rooms : Domain
rooms = record {
  name = name 11;
  types = record { name = name 2; kind = name 0 } ∷ [];
  constants = [];
  predicates = record { name = name 3; params = record { name = name 9; kind = name 2 } ∷ [] } ∷ [];
  functions = [];
  actions = move ∷ [];
}

-- the hall and the study are rooms, the robot is in the hall, and this is the goal
abbrev pub in_hall : Cond → Knowledge
in_hall goal = record {
  instances = (name 6, name 2) ∷ (name 7, name 2) ∷ [];
  facts = record { head = name 3; args = name 6 ∷ [] } ∷ [];
  values = [];
  goal = Some goal;
}

-- an act that moves
abbrev pub moving : ℕ → ℕ → Act
moving from to = record { action = name 4; args = name from ∷ name to ∷ [] }

pub record AreSampleAnswers : Type 0 where
  pub there : answer rooms (in_hall (Holds (at_room 6))) 1 ≡ Plan []
  pub planned : answer rooms (in_hall (Holds (at_room 7))) 9 ≡ Plan (moving 6 7 ∷ [])
  pub spent : answer rooms (in_hall (Holds (at_room 7))) 1 ≡ Spent 0
  pub none : answer rooms (in_hall (Holds (at_room 8))) 9 ≡ NoPlan
