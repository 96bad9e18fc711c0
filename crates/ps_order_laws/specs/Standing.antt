-- Orders of starts and ends, told by how often and where events stand.
use Rattle.std.specs.Prelude.{◌≡◌, ℕ, ◌<◌, Bool, false, ◌&&◌, nat_eq, nat_lt, ◌↔◌, List, All, AllPairs}
use Rattle.std.specs.List.{count_by}
use Rattle.ps_order_laws.specs.Orders.{Event, begins, ends, IsOrder, all_waiting}

-- the act of an event
abbrev pub act_of : Event → ℕ
act_of (begins i) = i
act_of (ends i) = i

-- whether two events are the same
abbrev pub same_event : Event → Event → Bool
same_event (begins i) (begins j) = nat_eq i j
same_event (ends i) (ends j) = nat_eq i j
same_event e f = false

-- whether an event has to stand before another: the start of an act before its end, and the end before the start of each later act that
-- an arc leads to
abbrev pub comes_first : (ℕ → ℕ → Bool) → Event → Event → Bool
comes_first arc (begins i) (ends j) = nat_eq i j
comes_first arc (ends i) (begins j) = nat_lt i j && arc i j
comes_first arc e f = false

-- Each start and each end of the first n acts stands once, nothing else stands, and none stands before one that has to stand before it.
pub record Stands (arc : ℕ → ℕ → Bool) (n : ℕ) (es : List Event) : Type 0 where
  pub own : All (λ e. act_of e < n) es
  pub once : (e : Event) → act_of e < n → count_by (same_event e) es ≡ 1
  pub ordered : AllPairs (λ e f. comes_first arc f e ≡ false) es

-- from where all acts wait, the events that may come are those lists
abbrev pub OrdersStand : Type 0
OrdersStand = (arc : ℕ → ℕ → Bool) (n : ℕ) (es : List Event) → IsOrder arc n all_waiting es ↔ Stands arc n es
