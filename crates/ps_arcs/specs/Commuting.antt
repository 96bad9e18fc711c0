-- Good plans of ground actions, and that each order of their starts and ends that the arcs allow goes well.
use Rattle.std.specs.Prelude.{◌≡◌, ℕ, true, Some, Ok, List, [], ◌∷◌, length, map, slice_get}
use Rattle.ps_world.specs.declared.domains.Domain.{Domain}
use Rattle.ps_world.specs.declared.known.Knowledge.{Knowledge}
use Rattle.ps_world.specs.declared.names.Name.{Name}
use Rattle.ps_action.specs.declared.acts.Act.{Act}
use Rattle.ps_action.specs.declared.acts.GroundAction.{GroundAction}
use Rattle.ps_action.specs.Effects.{effect}
use Rattle.ps_action.specs.Grounding.{ground_act}
use Rattle.ps_action.specs.Plans.{judged, step_of}
use Rattle.ps_action.specs.Truth.{all_true}
use Rattle.ps_action.specs.declared.touched.Touched.{Touched}
use Rattle.ps_eval.specs.Laws.{Agree}
use Rattle.ps_order_laws.specs.Orders.{Event, begins, ends, IsOrder, Stage, running, ended, all_waiting, moved}
use Rattle.ps_action.specs.Arcs.{is_arc}
use Rattle.ps_action.specs.ArcTables.{Pairs, has_pair}

-- ---- a plan

-- ground actions, taken one after another as the steps of a plan, never fail, and come to a last knowledge
abbrev pub IsGood : Domain → Knowledge → List GroundAction → Knowledge → Type 0
IsGood d k [] last = k ≡ last
IsGood d k (a ∷ gs) last = (next : Knowledge) × (step_of d k 0 a ≡ Ok next) × IsGood d next gs last

-- these are the ground actions of these acts, in their order
abbrev pub AreGrounded : Domain → List (Name × Name) → List Act → List GroundAction → Type 0
AreGrounded d instances acts gs = map (ground_act d instances) acts ≡ map Ok gs

-- acts whose plan is judged good have ground actions
abbrev pub JudgedIsGrounded : Type 0
JudgedIsGrounded =
    (d : Domain) (k last : Knowledge) (acts : List Act)
    → judged d k acts ≡ Ok last
    → (gs : List GroundAction) × AreGrounded d k.instances acts gs

-- the ground actions of acts whose plan is judged good are a good plan, which comes to the same
abbrev pub JudgedIsGood : Type 0
JudgedIsGood =
    (d : Domain) (k last : Knowledge) (acts : List Act) (gs : List GroundAction)
    → judged d k acts ≡ Ok last
    → AreGrounded d k.instances acts gs
    → IsGood d k gs last

-- ---- an order

-- two states have the same instances and the same goal, and tell the same of each fact and function term
pub record TellTheSame (one other : Knowledge) : Type 0 where
  pub instances : one.instances ≡ other.instances
  pub goal : one.goal ≡ other.goal
  pub things : (t : Touched) → Agree one other t

-- the over-all condition of each ground action that runs is true
abbrev pub AllHold : Domain → List GroundAction → (ℕ → Stage) → Knowledge → Type 0
AllHold d gs now k = (i : ℕ) (a : GroundAction) → slice_get gs i ≡ Some a → now i ≡ running → all_true d k a.conditions.over_all ≡ true

-- Events go well from a knowledge, where the ground actions are at these stages: each one starts with its start condition true and its
-- start effects defined, and ends with its end condition true and its end effects defined, after each event the over-all condition of
-- each one that runs is true, and in the end all is known as in the last knowledge that is given.
abbrev pub GoWell : Domain → List GroundAction → Knowledge → (ℕ → Stage) → Knowledge → List Event → Type 0
GoWell d gs last now k [] = TellTheSame k last
GoWell d gs last now k (begins i ∷ es) =
    (a : GroundAction) × (next : Knowledge) × (slice_get gs i ≡ Some a) × (all_true d k a.conditions.at_start ≡ true) × (effect d k a.effects.at_start ≡ Ok next)
    × AllHold d gs (moved now i running) next × GoWell d gs last (moved now i running) next es
GoWell d gs last now k (ends i ∷ es) =
    (a : GroundAction) × (next : Knowledge) × (slice_get gs i ≡ Some a) × (all_true d k a.conditions.at_end ≡ true) × (effect d k a.effects.at_end ≡ Ok next)
    × AllHold d gs (moved now i ended) next × GoWell d gs last (moved now i ended) next es

-- from where ground actions are a good plan, each order that their arcs allow goes well, and comes to what the plan comes to
abbrev pub OrdersGoWell : Type 0
OrdersGoWell =
    (d : Domain) (k last : Knowledge) (gs : List GroundAction) (es : List Event)
    → IsGood d k gs last
    → IsOrder (is_arc gs) (length gs) all_waiting es
    → GoWell d gs last all_waiting k es

-- from where ground actions are a good plan, each order that these arcs allow goes well, and comes to what the plan comes to
abbrev pub EveryOrderGoesWell : List GroundAction → Pairs → Type 0
EveryOrderGoesWell gs arcs =
    (d : Domain) (k last : Knowledge) (es : List Event)
    → IsGood d k gs last
    → IsOrder (λ i j. has_pair i j arcs.pairs) (length gs) all_waiting es
    → GoWell d gs last all_waiting k es
