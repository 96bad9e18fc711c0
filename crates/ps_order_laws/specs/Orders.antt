-- Orders of starts and ends that arcs allow, and what they come to.
use Rattle.std.specs.Prelude.{◌≡◌, ℕ, ◌<◌, Bool, true, if◌then◌else◌, nat_eq, Some, List, [], ◌∷◌}
use Rattle.ps_order_laws.specs.Acts.{Acts, Acting, GoodPlan}

-- the start or the end of an act
pub data Event : Type 0 where
  begins : ℕ → Event
  ends : ℕ → Event

-- how far an act is
pub data Stage : Type 0 where
  waiting : Stage
  running : Stage
  ended : Stage

-- at first each act waits
abbrev pub all_waiting : ℕ → Stage
all_waiting i = waiting

-- one act comes to a stage, and each other one stays at its own
abbrev pub moved : (ℕ → Stage) → ℕ → Stage → ℕ → Stage
moved now i s j = if nat_eq i j then s else now j

-- The events that may come, in order, where the first n acts are at these stages: an act that waits may start where each act with an
-- arc to it has ended, an act that runs may end, and in the end all have ended. So, from where all wait, these are the lists in which
-- the start and the end of each act stand once and nothing else stands, the start before the end, and the end of each act with an arc
-- to it before the start.
abbrev pub IsOrder : (ℕ → ℕ → Bool) → ℕ → (ℕ → Stage) → List Event → Type 0
IsOrder arc n now [] = (i : ℕ) → i < n → now i ≡ ended
IsOrder arc n now (begins i ∷ es) =
    (i < n) × (now i ≡ waiting) × ((j : ℕ) → j < i → arc j i ≡ true → now j ≡ ended) × IsOrder arc n (moved now i running) es
IsOrder arc n now (ends i ∷ es) = (i < n) × (now i ≡ running) × IsOrder arc n (moved now i ended) es

module _ {K X : Type 0} (same : K → K → X → Type 0) (n : ℕ) (a : Acts K X) where
  -- the over-all condition of each act that runs is true
  abbrev pub AllHold : (ℕ → Stage) → K → Type 0
  AllHold now k = (i : ℕ) → i < n → now i ≡ running → a.over i k ≡ true

  -- Events go well from a knowledge, where acts are at these stages: each act starts with its start condition true and its start effect
  -- defined, and ends with its end condition true and its end effect defined, after each event the over-all condition of each act that
  -- runs is true, and the last knowledge is at every thing the same as the one that is given.
  abbrev pub GoesWell : K → (ℕ → Stage) → K → List Event → Type 0
  GoesWell last now k [] = (x : X) → same k last x
  GoesWell last now k (begins i ∷ es) =
      (a.start i k ≡ true) × (l : K) × (a.begin i k ≡ Some l) × AllHold (moved now i running) l × GoesWell last (moved now i running) l es
  GoesWell last now k (ends i ∷ es) =
      (a.end i k ≡ true) × (l : K) × (a.finish i k ≡ Some l) × AllHold (moved now i ended) l × GoesWell last (moved now i ended) l es

-- from where a plan is good, each order that its arcs allow goes well, and comes to what the plan comes to
abbrev pub AnyOrder : (K X : Type 0) → (K → K → X → Type 0) → Type 0
AnyOrder K X same =
    (n : ℕ) (a : Acts K X) → Acting same n a → (k : K) (plan : GoodPlan a n k) (es : List Event) → IsOrder a.arc n all_waiting es
    → GoesWell same n a (plan.before n) all_waiting k es
