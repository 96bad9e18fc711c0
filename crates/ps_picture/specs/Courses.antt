-- The parts of a picture: one for each plan of a run.
use Rattle.std.specs.Prelude.{ℕ, Option, Some, None, List, [], ◌∷◌, ◌++◌}
use Rattle.std.specs.List.{fold}
use Rattle.std.specs.Option.{unwrap_or}
use Rattle.ps_action.specs.declared.acts.Act.{Act}
use Rattle.ps_machine.specs.declared.journal.Entry.{Entry}
use Rattle.ps_machine.specs.declared.journal.Event.{Event}
use Rattle.ps_machine.specs.declared.journal.Event.TheVariants as event
use Rattle.ps_picture.specs.Rows.{Placed, act_rows, member_rows, members_of}
use Rattle.ps_picture.specs.declared.courses.Close.{Close}
use Rattle.ps_picture.specs.declared.courses.Close.TheVariants.{Cut, NewPlan, Over}
use Rattle.ps_picture.specs.declared.courses.Course.{Course}
use Rattle.ps_picture.specs.declared.courses.Opening.{Opening}
use Rattle.ps_picture.specs.declared.courses.Opening.TheVariants as opening

-- what makes a plan, if an event does
abbrev pub opening_of : Event → Option Opening
opening_of (event.Run kind acts) = Some (opening.Run kind)
opening_of (event.Replan acts) = Some opening.Replan
opening_of other = None

-- the plan that an event makes
abbrev pub plan_of : Event → List Act
plan_of (event.Run kind acts) = acts
plan_of (event.Replan acts) = acts
plan_of other = []

-- how a plan ends by an event, if it does: with its run, by a new plan, or by another run
abbrev pub closed_by : Event → Option Close
closed_by (event.Over how) = Some (Over how)
closed_by (event.Replan acts) = Some NewPlan
closed_by (event.Run kind acts) = Some Cut
closed_by other = None

-- how a plan ends before these entries: as the first of them says that does, else it is cut off
abbrev pub close_of : List Placed → Close
close_of [] = Cut
close_of ((line, e) ∷ es) = unwrap_or (closed_by e.what) (close_of es)

-- the first entry and those after it, as far as they are of a plan that the first one ends so, or doesn't end
abbrev pub body_by : Option Close → Placed → List Placed → List Placed
body_by None e rest = e ∷ rest
body_by (Some (Over how)) e rest = e ∷ []
body_by (Some other) e rest = []

-- the entries of a plan, of those after the one that makes it: up to the run's end, and none of the next run or plan
abbrev pub body_of : List Placed → List Placed
body_of [] = []
body_of (e ∷ es) = body_by (closed_by e.1.what) e (body_of es)

-- the line of the last of some entries, or this
abbrev pub last_line : ℕ → List Placed → ℕ
last_line line es = fold (λ n (e : Placed). e.0) line es

-- a plan made at a line, with the entries that are its own and how it ends
abbrev pub course_of : ℕ → Opening → List Act → List Placed → Close → Course
course_of line how acts es end =
    let last = last_line line es in
    record {
      from = line;
      to = last;
      opening = how;
      close = end;
      acts = act_rows last es 0 acts;
      members = member_rows last es (members_of es);
    }

-- the part of a picture that an entry of this line opens, if it opens one, before the others
abbrev pub courses_by : ℕ → Option Opening → List Act → List Placed → List Course
courses_by line None acts es = []
courses_by line (Some how) acts es = course_of line how acts (body_of es) (close_of es) ∷ []

-- the picture of a journal's entries: a part for each plan, in order
abbrev pub picture_of : List Placed → List Course
picture_of [] = []
picture_of (e ∷ es) = courses_by e.0 (opening_of e.1.what) (plan_of e.1.what) es ++ picture_of es
