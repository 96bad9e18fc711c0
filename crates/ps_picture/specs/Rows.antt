-- The rows of a picture: the bars and the marks of an act or a member in some entries, each of which stands with its
-- line.
use Rattle.std.specs.Prelude.{ℕ, suc, if◌then◌else◌, Option, Some, None, List, [], ◌∷◌, ◌++◌}
use Rattle.std.specs.List.{flat_map, fold, list_any}
use Rattle.std.specs.Option.{unwrap_or}
use Rattle.ps_world.specs.Names.{same_name}
use Rattle.ps_world.specs.declared.names.Name.{Name}
use Rattle.ps_action.specs.declared.acts.Act.{Act}
use Rattle.ps_machine.specs.declared.journal.Entry.{Entry}
use Rattle.ps_picture.specs.Touches.{touch_in, touch_of, touch_on}
use Rattle.ps_picture.specs.declared.rows.Bar.{Bar}
use Rattle.ps_picture.specs.declared.rows.Label.{Label}
use Rattle.ps_picture.specs.declared.rows.Label.TheVariants as label
use Rattle.ps_picture.specs.declared.rows.Mark.{Mark}
use Rattle.ps_picture.specs.declared.rows.Row.{Row}
use Rattle.ps_picture.specs.declared.touches.Ending.{Ending}
use Rattle.ps_picture.specs.declared.touches.Ending.TheVariants.{Open}
use Rattle.ps_picture.specs.declared.touches.Subject.{Subject}
use Rattle.ps_picture.specs.declared.touches.Subject.TheVariants as subject
use Rattle.ps_picture.specs.declared.touches.Touch.{Touch}
use Rattle.ps_picture.specs.declared.touches.Touch.TheVariants.{Begins, Ends, Marks}

-- an entry with its line
abbrev pub Placed : Type 0
Placed = ℕ × Entry

-- the mark that a line is
abbrev pub marks_by : ℕ → Option Touch → List Mark
marks_by line (Some (Marks sign)) = record { at = line; sign = sign } ∷ []
marks_by line other = []

-- the mark in a row that an entry is
abbrev pub marks_at : Subject → Placed → List Mark
marks_at s (line, e) = marks_by line (touch_on s e.what)

-- the marks in a row
abbrev pub marks_of : Subject → List Placed → List Mark
marks_of s es = flat_map (marks_at s) es

-- where and how a bar ends by what is done to its row at a line, if it does: it ends, or another begins
abbrev pub ended_by : ℕ → Option Touch → Option (ℕ × Ending)
ended_by line (Some (Ends how)) = Some (line, how)
ended_by line (Some Begins) = Some (line, Open)
ended_by line other = None

-- where and how a bar of a row ends that is open before these entries: with the first of them that ends it, else it is
-- open at the last line
abbrev pub ending_in : Subject → ℕ → List Placed → ℕ × Ending
ending_in s last [] = (last, Open)
ending_in s last ((line, e) ∷ es) = unwrap_or (ended_by line (touch_on s e.what)) (ending_in s last es)

-- the bar from a line to where it ends
abbrev pub bar_to : ℕ → ℕ × Ending → Bar
bar_to line (to, how) = record { from = line; to = to; ending = how }

-- the bar that begins at a line, if one does, which ends so
abbrev pub bars_by : ℕ → Option Touch → ℕ × Ending → List Bar
bars_by line (Some Begins) end = bar_to line end ∷ []
bars_by line other end = []

-- the bars in a row, where the entries end with this line
abbrev pub bars_of : Subject → ℕ → List Placed → List Bar
bars_of s last [] = []
bars_of s last ((line, e) ∷ es) = bars_by line (touch_on s e.what) (ending_in s last es) ++ bars_of s last es

-- a row
abbrev pub row_of : Label → Subject → ℕ → List Placed → Row
row_of l s last es = record { label = l; bars = bars_of s last es; marks = marks_of s es }

-- the rows of a plan's acts, the first of which has this place
abbrev pub act_rows : ℕ → List Placed → ℕ → List Act → List Row
act_rows last es place [] = []
act_rows last es place (act ∷ acts) =
    row_of (label.Act act) (subject.Act place) last es ∷ act_rows last es (suc place) acts

-- these names with this one, unless it is among them
abbrev pub with_name : List Name → Name → List Name
with_name ns n = if list_any (λ m. same_name m n) ns then ns else ns ++ n ∷ []

-- these names with that of a member that is touched
abbrev pub with_touched : List Name → Option (Subject × Touch) → List Name
with_touched ns (Some (subject.Member n, touch)) = with_name ns n
with_touched ns other = ns

-- the members with rows: those of the entries, in the order in which they come there
abbrev pub members_of : List Placed → List Name
members_of es = fold (λ ns (p : Placed). with_touched ns (touch_of p.1.what)) [] es

-- the rows of members
abbrev pub member_rows : ℕ → List Placed → List Name → List Row
member_rows last es ns = flat_map (λ n. row_of (label.Member n) (subject.Member n) last es ∷ []) ns
