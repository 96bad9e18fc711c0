-- Beginnings of orders: where starts and ends of a good plan's ground actions lead to, also before all have ended.
use Rattle.std.specs.Prelude.{◌≡◌, ℕ, ◌<◌, true, Some, Ok, is_ok, List, length, slice_get}
use Rattle.ps_world.specs.Trees.{CondTree}
use Rattle.ps_world.specs.declared.domains.Domain.{Domain}
use Rattle.ps_world.specs.declared.known.Knowledge.{Knowledge}
use Rattle.ps_action.specs.declared.acts.GroundAction.{GroundAction}
use Rattle.ps_action.specs.Arcs.{is_arc}
use Rattle.ps_action.specs.Effects.{effect}
use Rattle.ps_action.specs.Truth.{all_true}
use Rattle.ps_order_laws.specs.Beginnings.{IsReady}
use Rattle.ps_order_laws.specs.Orders.{Stage, waiting, running, ended, all_waiting, moved}
use Rattle.ps_arcs.specs.Commuting.{AllHold, IsGood, TellTheSame}

-- The stages to which ground actions come, and the state then, from a first state: one that waits may start where each one with an arc
-- to it has ended, and one that runs may end. A state may give way to one that tells the same.
pub data Come (d : Domain) (gs : List GroundAction) (first : Knowledge) : (ℕ → Stage) → Knowledge → Type 0 where
  opened : Come d gs first all_waiting first
  started : (now : ℕ → Stage) (k l : Knowledge) (i : ℕ) (a : GroundAction) → Come d gs first now k → slice_get gs i ≡ Some a
      → now i ≡ waiting → IsReady (is_arc gs) now i → effect d k a.effects.at_start ≡ Ok l → Come d gs first (moved now i running) l
  closed : (now : ℕ → Stage) (k l : Knowledge) (i : ℕ) (a : GroundAction) → Come d gs first now k → slice_get gs i ≡ Some a
      → now i ≡ running → effect d k a.effects.at_end ≡ Ok l → Come d gs first (moved now i ended) l
  retold : (now : ℕ → Stage) (k l : Knowledge) → Come d gs first now k → TellTheSame k l → Come d gs first now l

-- Ground actions at these stages can go on from a state.
pub record CanGoOn (d : Domain) (gs : List GroundAction) (last : Knowledge) (now : ℕ → Stage) (k : Knowledge) : Type 0 where
  -- each one that waits and is ready can start: its start condition is true and its start effects are defined
  pub start : (i : ℕ) (a : GroundAction) → slice_get gs i ≡ Some a → now i ≡ waiting → IsReady (is_arc gs) now i
      → (all_true d k a.conditions.at_start ≡ true) × (is_ok (effect d k a.effects.at_start) ≡ true)
  -- the over-all condition of each one that runs is true
  pub hold : AllHold d gs now k
  -- each one that runs can end: its end condition is true and its end effects are defined
  pub end : (i : ℕ) (a : GroundAction) → slice_get gs i ≡ Some a → now i ≡ running
      → (all_true d k a.conditions.at_end ≡ true) × (is_ok (effect d k a.effects.at_end) ≡ true)
  -- where all have ended, all is known as in the last state that is given
  pub come : ((i : ℕ) → i < length gs → now i ≡ ended) → TellTheSame k last

-- from where ground actions are a good plan, wherever starts and ends that their arcs allow lead to, they can go on, to what the plan
-- comes to
abbrev pub BeginningsGoWell : Type 0
BeginningsGoWell =
    (d : Domain) (k last : Knowledge) (gs : List GroundAction) (now : ℕ → Stage) (l : Knowledge)
    → IsGood d k gs last
    → Come d gs k now l
    → CanGoOn d gs last now l

-- where two states tell the same, the same conditions hold
abbrev pub TruthReadsWhatIsTold : Type 0
TruthReadsWhatIsTold =
    (d : Domain) (one other : Knowledge) (cs : List CondTree) → TellTheSame one other → all_true d one cs ≡ all_true d other cs
