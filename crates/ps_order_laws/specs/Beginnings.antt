-- Orders that have not ended: where starts and ends that arcs allow lead to, also before all acts have ended.
use Rattle.std.specs.Prelude.{◌≡◌, ℕ, ◌<◌, Bool, true, Some, is_some}
use Rattle.ps_order_laws.specs.Acts.{Acts, Acting, GoodPlan}
use Rattle.ps_order_laws.specs.Orders.{AllHold, Stage, waiting, running, ended, all_waiting, moved}

-- each act with an arc to this one has ended
abbrev pub IsReady : (ℕ → ℕ → Bool) → (ℕ → Stage) → ℕ → Type 0
IsReady arc now i = (j : ℕ) → j < i → arc j i ≡ true → now j ≡ ended

-- The stages to which the first n acts come, and the state then, from a first state: an act that waits may start where it is ready,
-- and one that runs may end. A state may give way to one that is at every thing the same.
pub data Comes {K X : Type 0} (same : K → K → X → Type 0) (n : ℕ) (a : Acts K X) (first : K) : (ℕ → Stage) → K → Type 0 where
  opened : Comes same n a first all_waiting first
  started : (now : ℕ → Stage) (k l : K) (i : ℕ) → Comes same n a first now k → i < n → now i ≡ waiting → IsReady a.arc now i
      → a.begin i k ≡ Some l → Comes same n a first (moved now i running) l
  closed : (now : ℕ → Stage) (k l : K) (i : ℕ) → Comes same n a first now k → i < n → now i ≡ running
      → a.finish i k ≡ Some l → Comes same n a first (moved now i ended) l
  retold : (now : ℕ → Stage) (k l : K) → Comes same n a first now k → ((x : X) → same k l x) → Comes same n a first now l

-- Acts at these stages can go on from a state.
pub record CanGoOn {K X : Type 0} (same : K → K → X → Type 0) (n : ℕ) (a : Acts K X) (last : K) (now : ℕ → Stage) (k : K) : Type 0 where
  -- each one that waits and is ready can start: its start condition is true and its start effect defined
  pub start : (i : ℕ) → i < n → now i ≡ waiting → IsReady a.arc now i → (a.start i k ≡ true) × (is_some (a.begin i k) ≡ true)
  -- the over-all condition of each one that runs is true
  pub hold : AllHold same n a now k
  -- each one that runs can end: its end condition is true and its end effect defined
  pub end : (i : ℕ) → i < n → now i ≡ running → (a.end i k ≡ true) × (is_some (a.finish i k) ≡ true)
  -- where all have ended, the state is at every thing the same as the last one that is given
  pub come : ((i : ℕ) → i < n → now i ≡ ended) → (x : X) → same k last x

-- from where a plan is good, wherever starts and ends that its arcs allow lead to, the acts can go on, to what the plan comes to
abbrev pub AnyBeginning : (K X : Type 0) → (K → K → X → Type 0) → Type 0
AnyBeginning K X same =
    (n : ℕ) (a : Acts K X) → Acting same n a → (k : K) (plan : GoodPlan a n k) (now : ℕ → Stage) (l : K) → Comes same n a k now l
    → CanGoOn same n a (plan.before n) now l
