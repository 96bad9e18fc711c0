-- What a belt gives when it is closed.
use Rattle.std.specs.Prelude.{◌≡◌, ℕ, ◌<◌, List}
use Rattle.std.specs.List.{All, Any}
use Rattle.ps_hub.specs.Belts.{BeltView, DeskView, TrayView}
use Rattle.ps_hub.specs.Reports.{of, IsNumbered, IsPrefix}
use Rattle.ps_hub.specs.declared.report.Report.{Report}
use Rattle.ps_hub.specs.declared.view.Note.{Note}

-- a desk that is taken in, as a note
abbrev pub desk_note : DeskView → Note
desk_note d = record { by = d.by; sent = d.sent }

-- The reports begin with what the tray had got. Each performer of the belt has a desk among these. The reports have of each just what
-- was sent from its desk, in order, each once, and they have no others.
pub record Gathers (belt : BeltView) (desks : List DeskView) (tray : TrayView) (reports : List Report) : Type 0 where
  pub begins : IsPrefix tray.got reports
  pub whole : All (λ d. of d.by reports ≡ d.sent) desks
  pub every : (by : ℕ) → by < belt.performers → Any (λ d. d.by ≡ by) desks
  pub none_else : All (λ x. x.by < belt.performers) reports
  pub numbered : IsNumbered reports
