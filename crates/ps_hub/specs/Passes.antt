-- What a desk's and the tray's passes of the queue have to do with them.
use Rattle.std.specs.Prelude.{◌≡◌, ℕ, ◌<◌, true, false, Bool, Result, Ok, Err, List, [], ◌∷◌, ◌++◌, length}
use Rattle.std.specs.declared.alloc.AllocError.{AllocError}
use Rattle.crossbeam_queue.specs.Passes.{Pass, view}
use Rattle.ps_hub.specs.Belts.{BeltView}
use Rattle.ps_hub.specs.Looks.{HeldReports}
use Rattle.ps_hub.specs.Reports.{on, IsNumbered}
use Rattle.ps_hub.specs.Sending.{last_request}
use Rattle.ps_hub.specs.Steps.{getting, tray, ToldTray}
use Rattle.ps_hub.specs.declared.report.Report.{Report}
use Rattle.ps_hub.specs.declared.view.Note.{Note}
use Rattle.ps_hub.specs.declared.view.View.{View}

-- the last request, and how many reports were sent on it
pub record Counts (last count : ℕ) (sent : List Report) : Type 0 where
  pub last_is : last ≡ last_request sent
  pub count_is : count ≡ length (on last sent)
  pub later : (r : ℕ) → last < r → on r sent ≡ []

-- a desk's pass
pub record AtDesk (by last count : ℕ) (p : Pass Report View) : Type 0 where
  pub slots : p.me.1 ≡ []
  pub sends : (view p).sends ≡ true
  pub aside : (view p).drains ≡ false
  pub by_is : (view p).by ≡ by
  pub counts : Counts last count (view p).sent

-- the tray's pass, before any desk is taken in
pub record AtTray (performers : ℕ) (got : List Report) (p : Pass Report View) : Type 0 where
  pub slots : p.me.1 ≡ []
  pub view_is : view p ≡ tray got performers []
  pub numbered : IsNumbered got

-- the pass has taken in these as well
abbrev pub with_notes : View → List Note → View
with_notes v more = record v { notes = more ++ v.notes }

-- the tray's pass of this belt, which has dealt so many desks
abbrev pub IsDealing : BeltView → ℕ → Pass Report View → Type 0
IsDealing belt made p = (p.table_id ≡ belt.identity) × (p.me.1 ≡ []) × (view p ≡ tray [] made [])

-- the tray's pass of this belt
pub record IsTraysPass (belt : BeltView) (p : Pass Report View) : Type 0 where
  pub table : p.table_id ≡ belt.identity
  pub slots : p.me.1 ≡ []
  pub drains : (view p).drains ≡ true
  pub aside : (view p).sends ≡ false

-- the oldest report was taken, or there was none, or memory ran out
abbrev pub PopsInto : (List Report → Type 0) → BeltView → Pass Report View → List Report → Result Bool AllocError
    → Pass Report View → List Report → Type 0
PopsInto fact belt p got (Ok true) p' got' =
    IsTraysPass belt p' × ((x : Report) × (got' ≡ got ++ x ∷ []) × (view p' ≡ getting (view p) x)) × IsNumbered got'
PopsInto fact belt p got (Ok false) p' got' =
    IsTraysPass belt p' × (got' ≡ got) × (view p' ≡ view p) × ToldTray (view p) [] × HeldReports fact 0
PopsInto fact belt p got (Err e) p' got' = IsTraysPass belt p' × (got' ≡ got) × (view p' ≡ view p)

-- all reports that were left were taken, and the belt was empty then
pub record EmptiesInto (belt : BeltView) (p : Pass Report View) (got : List Report) (p' : Pass Report View) (got' : List Report) : Type 0 where
  pub more : List Report
  pub after : got' ≡ got ++ more
  pub view_is : view p' ≡ record (view p) { got = got' }
  pub told : ToldTray (view p') []
