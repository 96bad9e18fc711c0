-- The lines that tell what a journal bears out of reports.
use Rattle.std.specs.Prelude.{ℕ, Bool, if◌then◌else◌, List, [], ◌++◌, codes, count_by, length, map, slice_get}
use Rattle.std.specs.Fmt.{decimal}
use Rattle.std.specs.List.{flat_map}
use Rattle.std.specs.Option.{option_map_or}
use Rattle.ps_world.specs.Lines.{line_end}
use Rattle.ps_world.specs.Names.{Table, name_text}
use Rattle.ps_world.specs.Texts.{edit_text}
use Rattle.ps_world.specs.declared.names.Name.{Name}
use Rattle.ps_machine.specs.Texts.{finish_text}
use Rattle.ps_machine.specs.declared.inputs.Input.{Input}
use Rattle.ps_machine.specs.declared.journal.Entry.{Entry}
use Rattle.ps_machine.specs.declared.members.Unit.{Unit as Task}
use Rattle.ps_machine.specs.declared.members.Unit.TheVariants as task
use Rattle.ps_rules.specs.Members.{performers}
use Rattle.ps_hub.specs.declared.report.Report.{Report}
use Rattle.ps_reports.specs.Audit.{kept, missing}

-- ---- one report

-- a unit, as the file of a performer says it
abbrev pub unit_text : Table → Task → List ℕ
unit_text names task.Work = codes "work"
unit_text names (task.Feedback percent note) = codes "feedback " ++ (decimal percent ++ (codes " " ++ note))
unit_text names (task.Edit edit) = edit_text names edit
unit_text names (task.Finish ok) = codes "finish" ++ finish_text ok

-- the name of the performer with this place among these
abbrev pub reporter_text : Table → List Name → ℕ → List ℕ
reporter_text names who by = option_map_or (name_text names) (slice_get who by) []

-- a report: its performer, its request, its number and its unit
abbrev pub report_text : Table → List Name → Report → List ℕ
report_text names who x =
    reporter_text names who x.by ++ (codes " " ++ (decimal x.r ++ (codes " " ++ (decimal x.n ++ (codes " " ++ unit_text names x.unit)))))

-- the word for a report that is late, or isn't
abbrev pub kept_word : Bool → List ℕ
kept_word late = if late then codes "late " else codes "report "

-- the line of a report that is kept
abbrev pub kept_line : Table → List Name → Bool × Report → List ℕ
kept_line names who k = kept_word k.0 ++ (report_text names who k.1 ++ line_end)

-- ---- all lines

-- the last line: how many reports are kept, how many of these are late, and how many units no report tells of
abbrev pub count_line : List (Bool × Report) → ℕ → List ℕ
count_line all missing =
    codes "reports " ++ (decimal (length all)
    ++ (codes " late " ++ (decimal (count_by (λ k. k.0) all) ++ (codes " missing " ++ (decimal missing ++ line_end)))))

-- the lines of the reports that are kept, and the last line, where these are the performers
abbrev pub kept_lines : Table → List Name → List (Bool × Report) → ℕ → List ℕ
kept_lines names who all missing = flat_map (kept_line names who) all ++ count_line all missing

-- the names of the performers, in order
abbrev pub reporters : Input → List Name
reporters i = map (λ p. p.name) (performers i)

-- the lines that tell what a journal bears out of these reports
abbrev pub report_lines : Table → Input → List Entry → List Report → List ℕ
report_lines names i h rs = kept_lines names (reporters i) (kept i h rs) (missing i h rs)
