-- What is true of the belt's queue and of all passes between any two steps.
use Rattle.std.specs.Prelude.{◌≡◌, ℕ, ◌<◌, ◌⊎◌, true, List, [], ◌∷◌, ◌++◌}
use Rattle.std.specs.List.{All}
use mathlib.Core.Option.{some}
use lib.ListN.{get_elem?}
use Rattle.ps_hub.specs.Reports.{of, IsNumbered}
use Rattle.ps_hub.specs.declared.report.Report.{Report}
use Rattle.ps_hub.specs.declared.view.Note.{Note}
use Rattle.ps_hub.specs.declared.view.View.{View}

-- this view is known by this number
abbrev pub IsAt : List View → ℕ → View → Type 0
IsAt views id v = get_elem? views id ≡ some v

-- some note is of this performer
abbrev pub HasNote : ℕ → List Note → Type 0
HasNote by [] = ⊥
HasNote by (note ∷ notes) = (note.by ≡ by) ⊎ HasNote by notes

-- each note is of a performer whose desk was dealt, has just what it sent, and no two are of one
abbrev pub AreNoted : ℕ → List Report → List Note → Type 0
AreNoted made all [] = Unit {0}
AreNoted made all (note ∷ notes) =
    (note.by < made) × (note.sent ≡ of note.by all) × (HasNote note.by notes → ⊥) × AreNoted made all notes

-- what a desk sent is just what the reports, got and on the belt, have of its performer
pub record FitsDesk (made : ℕ) (all : List Report) (v : View) : Type 0 where
  pub dealt : v.by < made
  pub own : v.sent ≡ of v.by all

-- there is one tray
pub record FitsTray (seat made : ℕ) (got all : List Report) (id : ℕ) (v : View) : Type 0 where
  pub one : id ≡ seat
  pub got_is : v.got ≡ got
  pub made_is : v.made ≡ made
  pub notes : AreNoted made all v.notes

-- What was got and what is on the belt were sent by desks that were dealt, no two of one performer, and none is left out. A desk that was
-- taken in is no desk any more.
pub record Carries (items : List Report) (views : List View) : Type 0 where
  pub seat : ℕ
  pub made : ℕ
  pub got : List Report
  pub desks : (id : ℕ) (v : View) → IsAt views id v → v.sends ≡ true → FitsDesk made (got ++ items) v
  pub trays : (id : ℕ) (v : View) → IsAt views id v → v.drains ≡ true → FitsTray seat made got (got ++ items) id v
  pub apart : (i j : ℕ) (v w : View) → IsAt views i v → IsAt views j w
      → v.sends ≡ true → w.sends ≡ true → v.by ≡ w.by → i ≡ j
  pub noted : (i j : ℕ) (v w : View) → IsAt views i v → IsAt views j w
      → v.sends ≡ true → w.drains ≡ true → HasNote v.by w.notes → ⊥
  pub dealt : All (λ x. x.by < made) (got ++ items)
  pub numbered : IsNumbered (got ++ items)
