-- Sending and draining, as contracts tell of them.
use Rattle.std.specs.Prelude.{◌≡◌, ℕ, ◌^◌, ◌<◌, ◌≤◌, Bool, true, false, Option, Some, None, Result, Ok, Err, List, [], ◌∷◌, ◌++◌, fold, length}
use Rattle.std.specs.declared.alloc.AllocError.{AllocError}
use Rattle.ps_machine.specs.declared.members.Unit.{Unit as Task}
use Rattle.ps_hub.specs.Belts.{DeskView, TrayView}
use Rattle.ps_hub.specs.Looks.{HeldReports, Nothing}
use Rattle.ps_hub.specs.Reports.{of, on, IsNumbered}
use Rattle.ps_hub.specs.declared.desk.Sent.{Sent}
use Rattle.ps_hub.specs.declared.desk.Sent.TheVariants.{Put, Full, OutOfMemory}
use Rattle.ps_hub.specs.declared.report.Report.{Report}

-- the request of the last report; 0 where there is none
abbrev pub last_request : List Report → ℕ
last_request sent = fold (λ r x. x.r) 0 sent

-- a report on this request may be sent: none was sent on a later one, and fewer than 2^31 on this one
abbrev pub MaySend : List Report → ℕ → Type 0
MaySend sent r = (last_request sent ≤ r) × (length (on r sent) < 2 ^ 31)

-- the next report of a desk
abbrev pub next_report : DeskView → ℕ → Task → Report
next_report d r u = record { by = d.by; r = r; n = length (on r d.sent); unit = u }

-- the desk has sent one more report
abbrev pub with_report : DeskView → Report → DeskView
with_report d x = record d { sent = d.sent ++ x ∷ [] }

-- At one moment the belt held as many reports as it has room for. After some that were got before, all that this desk had sent stood
-- there in order.
pub record WasFull (fact : List Report → Type 0) (d : DeskView) : Type 0 where
  pub items : List Report
  pub got : List Report
  pub full : length items ≡ d.belt.room
  pub own : d.sent ≡ of d.by (got ++ items)
  pub numbered : IsNumbered (got ++ items)
  pub learned : fact items

-- what a desk is after it sent a report of this unit, by the answer
abbrev pub Sends : (List Report → Type 0) → DeskView → ℕ → Task → Sent → DeskView → Type 0
Sends fact d r u Put d' = d' ≡ with_report d (next_report d r u)
Sends fact d r u Full d' = (d' ≡ d) × WasFull fact d
Sends fact d r u OutOfMemory d' = d' ≡ d

-- a report of this unit was sent, or none may be sent on this request and the desk is unchanged
abbrev pub SendsIfItMay : DeskView → ℕ → Task → Option Sent → DeskView → Type 0
SendsIfItMay d r u None d' = (MaySend d.sent r → ⊥) × (d' ≡ d)
SendsIfItMay d r u (Some sent) d' = MaySend d.sent r × Sends Nothing d r u sent d'

-- the tray has got one more report, or is unchanged
abbrev pub GetsOne : (List Report → Type 0) → TrayView → Result Bool AllocError → TrayView → Type 0
GetsOne fact t (Ok true) t' = (x : Report) × (t' ≡ record t { got = t.got ++ x ∷ [] })
GetsOne fact t (Ok false) t' = (t' ≡ t) × HeldReports fact 0
GetsOne fact t (Err e) t' = t' ≡ t

abbrev pub TakesOne : (List Report → Type 0) → TrayView → Result Bool AllocError → TrayView → Type 0
TakesOne fact t answer t' = GetsOne fact t answer t' × IsNumbered t'.got

-- The tray has got some more reports, at most as many as the belt has room for, and as many as it answers; fewer only where the belt was
-- empty at a step.
pub record Drains (fact : List Report → Type 0) (t : TrayView) (answer : Result ℕ AllocError) (t' : TrayView) : Type 0 where
  pub more : List Report
  pub after : t' ≡ record t { got = t.got ++ more }
  pub few : length more ≤ t.belt.room
  pub count : (n : ℕ) → answer ≡ Ok n → length more ≡ n
  pub empty : (n : ℕ) → answer ≡ Ok n → n < t.belt.room → HeldReports fact 0
  pub numbered : IsNumbered t'.got
