-- Runs of robots in rooms, which the definitions compute: one that is planned anew, and one of two acts for one worker.
use Rattle.std.specs.Prelude.{◌≡◌, ℕ, pos, true, None, Ok, List, [], ◌∷◌, codes, drop, map}
use Rattle.ps_world.specs.Names.{Table}
use Rattle.ps_world.specs.Trees.{CondTree, holds}
use Rattle.ps_world.specs.declared.names.Name.{Name}
use Rattle.ps_world.specs.declared.conditions.Cond.TheVariants.{And}
use Rattle.ps_world.specs.declared.schemas.Term.TheVariants.{Var, Const}
use Rattle.ps_world.specs.declared.schemas.Lifted.{Lifted}
use Rattle.ps_world.specs.declared.domains.Param.{Param}
use Rattle.ps_world.specs.declared.domains.Domain.{Domain}
use Rattle.ps_world.specs.declared.actions.ActionDef.{ActionDef}
use Rattle.ps_world.specs.declared.actions.Effect.{Effect}
use Rattle.ps_world.specs.declared.actions.Effect.TheVariants.{Add, Delete}
use Rattle.ps_world.specs.declared.expressions.Expr.TheVariants.{Num}
use Rattle.ps_world.specs.declared.edits.Edit.TheVariants.{AddInstance, AddFact, RemoveFact, SetGoal}
use Rattle.ps_world.specs.declared.facts.Fact.{Fact}
use Rattle.ps_action.specs.Effects.{plainly}
use Rattle.ps_action.specs.declared.acts.Act.{Act}
use Rattle.ps_action.specs.declared.acts.PlanStep.{PlanStep}
use Rattle.ps_action.specs.declared.answers.Answer.TheVariants.{NoPlan, Plan}
use Rattle.ps_machine.specs.Texts.{entry_line}
use Rattle.ps_machine.specs.declared.inputs.Command.TheVariants as command
use Rattle.ps_machine.specs.declared.inputs.Line.{Line}
use Rattle.ps_machine.specs.declared.inputs.Line.TheVariants.{Good}
use Rattle.ps_machine.specs.declared.inputs.Input.{Input}
use Rattle.ps_machine.specs.declared.members.Unit.{Unit as Task}
use Rattle.ps_machine.specs.declared.members.Unit.TheVariants as unit
use Rattle.ps_machine.specs.declared.members.Member.{Member}
use Rattle.ps_machine.specs.declared.members.Member.TheVariants as member
use Rattle.ps_rules.specs.Choices.{Says, session_ordered}

-- ---- names

-- the name with this number
abbrev pub name : ℕ → Name
name n = record { 0 = n }

-- object, the names of the domain, and those of the scripts and of the members
abbrev pub names : Table
names =
    codes "object"
    ∷ codes "robot"
    ∷ codes "room"
    ∷ codes "robot_at"
    ∷ codes "connected"
    ∷ codes "battery_full"
    ∷ codes "battery_low"
    ∷ codes "charging_point_at"
    ∷ codes "move"
    ∷ codes "askcharge"
    ∷ codes "charge"
    ∷ codes "leia"
    ∷ codes "r2"
    ∷ codes "entrance"
    ∷ codes "kitchen"
    ∷ codes "chargingroom"
    ∷ codes "asker"
    ∷ codes "charger"
    ∷ codes "weak"
    ∷ codes "worker"
    ∷ codes "rooms"
    ∷ codes "r"
    ∷ codes "a"
    ∷ codes "b"
    ∷ []

-- the type above all others
abbrev pub object : Name
object = name 0

-- the type of robots
abbrev pub robot : Name
robot = name 1

-- the type of rooms
abbrev pub room : Name
room = name 2

-- that a robot is in a room
abbrev pub robot_at : Name
robot_at = name 3

-- that a way leads from a room to another
abbrev pub connected : Name
connected = name 4

-- that a robot's battery is full
abbrev pub battery_full : Name
battery_full = name 5

-- that a robot's battery is low
abbrev pub battery_low : Name
battery_low = name 6

-- that a room has a charging point
abbrev pub charging_point_at : Name
charging_point_at = name 7

-- the action of going to another room
abbrev pub move : Name
move = name 8

-- the action of going to a charging point
abbrev pub askcharge : Name
askcharge = name 9

-- the action of charging
abbrev pub charge : Name
charge = name 10

-- a robot
abbrev pub leia : Name
leia = name 11

-- another robot
abbrev pub r2 : Name
r2 = name 12

-- the room where robots begin
abbrev pub entrance : Name
entrance = name 13

-- the room where they are to go
abbrev pub kitchen : Name
kitchen = name 14

-- the room with the charging point
abbrev pub chargingroom : Name
chargingroom = name 15

-- ---- the domain

-- a name with its type
abbrev pub typed : Name → Name → Param
typed n kind = record { name = n; kind = kind }

-- the parameters of an action: a robot and a room
abbrev pub one_room : List Param
one_room = typed (name 21) robot ∷ typed (name 22) room ∷ []

-- the parameters of an action: a robot and two rooms
abbrev pub two_rooms : List Param
two_rooms = typed (name 21) robot ∷ typed (name 22) room ∷ typed (name 23) room ∷ []

-- a head with these parameters
abbrev pub of : Name → List ℕ → Lifted
of head places = record { head = head; terms = map Var places }

-- an action of five seconds, with its start conditions, its over-all conditions, its start effects and its end effects
abbrev pub five_seconds : Name → List Param → List CondTree → List CondTree → List Effect → List Effect → ActionDef
five_seconds n params start over first last = record {
  name = n;
  params = params;
  duration = Num (pos 5000);
  conditions = record { at_start = start; over_all = over; at_end = [] };
  effects = record { at_start = plainly first; at_end = plainly last };
}

-- a robot goes from a room to one that it is connected to, while its battery is full
abbrev pub moving : ActionDef
moving =
    five_seconds move two_rooms
    (holds (of connected (1 ∷ 2 ∷ [])) ∷ holds (of robot_at (0 ∷ 1 ∷ [])) ∷ [])
    (holds (of battery_full (0 ∷ [])) ∷ [])
    (Delete (of robot_at (0 ∷ 1 ∷ [])) ∷ []) (Add (of robot_at (0 ∷ 2 ∷ [])) ∷ [])

-- a robot goes from a room to one with a charging point
abbrev pub asking : ActionDef
asking =
    five_seconds askcharge two_rooms (holds (of robot_at (0 ∷ 1 ∷ [])) ∷ holds (of charging_point_at (2 ∷ [])) ∷ []) []
    (Delete (of robot_at (0 ∷ 1 ∷ [])) ∷ []) (Add (of robot_at (0 ∷ 2 ∷ [])) ∷ [])

-- a robot in a room with a charging point is charged
abbrev pub charging : ActionDef
charging =
    five_seconds charge one_room (holds (of robot_at (0 ∷ 1 ∷ [])) ∷ holds (of charging_point_at (1 ∷ [])) ∷ []) [] []
    (Delete (of battery_low (0 ∷ [])) ∷ Add (of battery_full (0 ∷ [])) ∷ [])

-- robots that go from room to room
abbrev pub rooms : Domain
rooms = record {
  name = name 20;
  types = typed robot object ∷ typed room object ∷ [];
  constants = [];
  predicates =
      record { name = robot_at; params = one_room }
      ∷ record { name = connected; params = typed (name 22) room ∷ typed (name 23) room ∷ [] }
      ∷ record { name = battery_full; params = typed (name 21) robot ∷ [] }
      ∷ record { name = battery_low; params = typed (name 21) robot ∷ [] }
      ∷ record { name = charging_point_at; params = typed (name 22) room ∷ [] }
      ∷ [];
  functions = [];
  actions = moving ∷ asking ∷ charging ∷ [];
}

-- ---- scripts and members

-- a line that sets an instance
abbrev pub there : Name → Name → Line
there n kind = Good (command.Edit (AddInstance n kind))

-- a fact
abbrev pub fact : Name → List Name → Fact
fact head args = record { head = head; args = args }

-- a line that sets a fact
abbrev pub known : Name → List Name → Line
known head args = Good (command.Edit (AddFact (fact head args)))

-- the condition that a fact is known
abbrev pub wanted : Name → List Name → CondTree
wanted head args = holds (record { head = head; terms = map Const args })

-- an act
abbrev pub act : Name → List Name → Act
act action args = record { action = action; args = args }

-- an act as a step of a file's plan
abbrev pub step : Act → PlanStep
step a = record { time = pos 0; act = a; duration = pos 5000 }

-- a performer that does whatever act of an action of three parameters
abbrev pub does_three : Name → Name → List (List Task) → Member
does_three n action jobs = member.Performer (record { name = n; action = action; pattern = None ∷ None ∷ None ∷ []; jobs = jobs })

-- a performer that does whatever act of an action of two parameters
abbrev pub does_two : Name → Name → List (List Task) → Member
does_two n action jobs = member.Performer (record { name = n; action = action; pattern = None ∷ None ∷ []; jobs = jobs })

-- the lines of the entries of a session in order, in which a solver answers so
abbrev pub lines_in_order : Says → Input → ℕ → List (List ℕ)
lines_in_order says i turns = map (entry_line names) (session_ordered says i turns)

-- ---- a run that is planned anew

-- a performer whose first job empties the battery
abbrev pub weak : Member
weak =
    does_three (name 18) move (
    (unit.Edit (AddFact (fact robot_at (leia ∷ entrance ∷ []))) ∷ unit.Edit (RemoveFact (fact battery_full (leia ∷ []))) ∷ unit.Finish true ∷ [])
    ∷ (unit.Finish true ∷ [])
    ∷ [])

-- leia is to go to the kitchen, by a plan of one act
abbrev pub replanned : Input
replanned = record {
  domain = rooms;
  members =
      does_three (name 16) askcharge ((unit.Work ∷ unit.Finish true ∷ []) ∷ [])
      ∷ does_two (name 17) charge ((unit.Work ∷ unit.Finish true ∷ []) ∷ [])
      ∷ weak
      ∷ [];
  lines =
      there leia robot
      ∷ there entrance room
      ∷ there kitchen room
      ∷ there chargingroom room
      ∷ known robot_at (leia ∷ entrance ∷ [])
      ∷ known connected (entrance ∷ kitchen ∷ [])
      ∷ known connected (chargingroom ∷ kitchen ∷ [])
      ∷ known charging_point_at (chargingroom ∷ [])
      ∷ known battery_full (leia ∷ [])
      ∷ Good (command.Edit (SetGoal (And (wanted robot_at (leia ∷ kitchen ∷ []) ∷ []))))
      ∷ Good (command.RunPlan (Ok (step (act move (leia ∷ entrance ∷ kitchen ∷ [])) ∷ [])))
      ∷ [];
  budget = 20000;
  replans = 3;
}

-- a solver that sends leia by the charging room
abbrev pub by_charging : Says
by_charging d k budget =
    Plan (
    act askcharge (leia ∷ entrance ∷ chargingroom ∷ [])
    ∷ act charge (leia ∷ chargingroom ∷ [])
    ∷ act move (leia ∷ chargingroom ∷ kitchen ∷ [])
    ∷ [])

-- After its edits the session goes so: the act is cancelled, and the run goes on with the solver's plan.
abbrev pub ReplannedIsRight : Type 0
ReplannedIsRight =
    drop 10 (lines_in_order by_charging replanned 100) ≡
    codes "0 run plan (move leia entrance kitchen)"
    ∷ codes "1 start 0"
    ∷ codes "1 request 0 0"
    ∷ codes "1 pass 0 asker other"
    ∷ codes "1 pass 0 charger other"
    ∷ codes "1 offer 0 weak"
    ∷ codes "1 confirm 0 weak"
    ∷ codes "1 begin 0 weak"
    ∷ codes "1 edit performer 0 weak set predicate (robot_at leia entrance)"
    ∷ codes "1 edit performer 0 weak remove predicate (battery_full leia)"
    ∷ codes "1 cancel 0 overall"
    ∷ codes "1 stopped 0 weak"
    ∷ codes "1 replan (askcharge leia entrance chargingroom) (charge leia chargingroom) (move leia chargingroom kitchen)"
    ∷ codes "1 start 0"
    ∷ codes "1 request 1 0"
    ∷ codes "1 offer 1 asker"
    ∷ codes "1 pass 1 charger other"
    ∷ codes "1 pass 1 weak other"
    ∷ codes "1 confirm 1 asker"
    ∷ codes "1 begin 1 asker"
    ∷ codes "1 unitwork 1 asker"
    ∷ codes "1 finish 1 asker ok"
    ∷ codes "1 end 0"
    ∷ codes "1 start 1"
    ∷ codes "1 request 2 1"
    ∷ codes "1 pass 2 asker other"
    ∷ codes "1 offer 2 charger"
    ∷ codes "1 pass 2 weak other"
    ∷ codes "1 confirm 2 charger"
    ∷ codes "1 begin 2 charger"
    ∷ codes "1 unitwork 2 charger"
    ∷ codes "1 finish 2 charger ok"
    ∷ codes "1 end 1"
    ∷ codes "1 start 2"
    ∷ codes "1 request 3 2"
    ∷ codes "1 pass 3 asker other"
    ∷ codes "1 pass 3 charger other"
    ∷ codes "1 offer 3 weak"
    ∷ codes "1 confirm 3 weak"
    ∷ codes "1 begin 3 weak"
    ∷ codes "1 finish 3 weak ok"
    ∷ codes "1 end 2"
    ∷ codes "1 over success"
    ∷ []

-- ---- two acts and one worker

-- both robots are to go to the kitchen, and one performer, which does one act at a time, does both acts
abbrev pub shared : Input
shared = record {
  domain = rooms;
  members = does_three (name 19) move ((unit.Work ∷ unit.Work ∷ unit.Finish true ∷ []) ∷ []) ∷ [];
  lines =
      there leia robot
      ∷ there r2 robot
      ∷ there entrance room
      ∷ there kitchen room
      ∷ known connected (entrance ∷ kitchen ∷ [])
      ∷ known robot_at (leia ∷ entrance ∷ [])
      ∷ known robot_at (r2 ∷ entrance ∷ [])
      ∷ known battery_full (leia ∷ [])
      ∷ known battery_full (r2 ∷ [])
      ∷ Good (command.Edit (SetGoal (And (wanted robot_at (leia ∷ kitchen ∷ []) ∷ wanted robot_at (r2 ∷ kitchen ∷ []) ∷ []))))
      ∷ Good (command.RunPlan (Ok (step (act move (leia ∷ entrance ∷ kitchen ∷ [])) ∷ step (act move (r2 ∷ entrance ∷ kitchen ∷ [])) ∷ [])))
      ∷ [];
  budget = 20000;
  replans = 3;
}

-- After its edits the session goes so: the second act's first request is unserved, and it gets another.
abbrev pub SharedIsRight : Type 0
SharedIsRight =
    drop 10 (lines_in_order (λ d k budget. NoPlan) shared 60) ≡
    codes "0 run plan (move leia entrance kitchen) (move r2 entrance kitchen)"
    ∷ codes "1 start 0"
    ∷ codes "1 request 0 0"
    ∷ codes "1 offer 0 worker"
    ∷ codes "1 confirm 0 worker"
    ∷ codes "1 begin 0 worker"
    ∷ codes "1 start 1"
    ∷ codes "1 unitwork 0 worker"
    ∷ codes "1 request 1 1"
    ∷ codes "1 pass 1 worker busy"
    ∷ codes "1 unserved 1"
    ∷ codes "1 unitwork 0 worker"
    ∷ codes "1 finish 0 worker ok"
    ∷ codes "1 end 0"
    ∷ codes "1 request 2 1"
    ∷ codes "1 offer 2 worker"
    ∷ codes "1 confirm 2 worker"
    ∷ codes "1 begin 2 worker"
    ∷ codes "1 unitwork 2 worker"
    ∷ codes "1 unitwork 2 worker"
    ∷ codes "1 finish 2 worker ok"
    ∷ codes "1 end 1"
    ∷ codes "1 over success"
    ∷ []
