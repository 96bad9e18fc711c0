-- What a journal bears out of a list of reports.
use Rattle.std.specs.Prelude.{◌≡◌, ℕ, ◌+◌, ◌-◌, ◌==◌, nat_lt, if◌then◌else◌, Bool, true, false, not, ◌&&◌, Option, Some, None, option_map, option_and_then, List, [], ◌∷◌, ◌++◌, filter_map, fold, length, slice_get}
use Rattle.std.specs.List.{list_any}
use Rattle.std.specs.Option.{option_map_or}
use Rattle.ps_world.specs.Names.{same_name}
use Rattle.ps_world.specs.declared.names.Name.{Name}
use Rattle.ps_machine.specs.declared.inputs.Input.{Input}
use Rattle.ps_machine.specs.declared.members.Unit.{Unit as Task}
use Rattle.ps_machine.specs.declared.members.Performer.{Performer}
use Rattle.ps_machine.specs.declared.members.Member.{Member}
use Rattle.ps_machine.specs.declared.members.Member.TheVariants as member
use Rattle.ps_machine.specs.declared.journal.Event.{Event}
use Rattle.ps_machine.specs.declared.journal.Entry.{Entry}
use Rattle.ps_rules.specs.Reading.{times}
use Rattle.ps_rules.specs.Members.{job}
use Rattle.ps_hub.specs.declared.report.Report.{Report}
use Rattle.ps_legal.specs.Same.{same_unit}
use Rattle.ps_reports.specs.Stints.{stint, unit_by}
use Rattle.ps_reports.specs.declared.audited.Audit.{Audit}
use Rattle.ps_reports.specs.declared.stints.Stint.{Stint}

-- ---- one report

-- the unit of this number in the job that a performer has in a stint
abbrev pub unit_in : Performer → Stint → ℕ → Option Task
unit_in p s n = option_and_then (λ units. slice_get units n) (option_and_then (job p) s.turn)

-- whether a report's unit is the one of its number in the job of the stint, which has begun
abbrev pub is_of_job : Performer → Stint → Report → Bool
is_of_job p s x = option_map_or (same_unit x.unit) (unit_in p s x.n) false

-- on time is a report whose unit is recorded; late is one whose unit was the next when its performer stopped
abbrev pub lateness : ℕ → Stint → Option Bool
lateness n s = if nat_lt n s.units then Some false else (if (n == s.units) && s.stopped then Some true else None)

-- whether a report of this performer is late, where it is of its job and on time or late
abbrev pub verdict : Performer → Stint → Report → Option Bool
verdict p s x = if is_of_job p s x then lateness x.n s else None

-- ---- all reports

-- whether two reports are of one performer and request and have one number
abbrev pub same_place : Report → Report → Bool
same_place x y = ((x.by == y.by) && (x.r == y.r)) && (x.n == y.n)

-- these reports and one more, unless one of them has its performer, request and number
abbrev pub with_first : List Report → Report → List Report
with_first firsts x = if list_any (same_place x) firsts then firsts else firsts ++ x ∷ []

-- the first report of each performer, request and number, in order
abbrev pub firsts : List Report → List Report
firsts rs = fold with_first [] rs

-- a report as it is kept, if it is, where this performer has this place
abbrev pub told : Performer → ℕ → Stint → Report → Option (Bool × Report)
told p place s x = if x.by == place then option_map (λ late. (late, x)) (verdict p s x) else None

-- the reports of this performer that are kept, and whether each is late
abbrev pub kept_of : Performer → ℕ → List Entry → List Report → List (Bool × Report)
kept_of p place h rs = filter_map (λ x. told p place (stint x.r p.name h) x) rs

-- how many performers there are so far, and what is kept of them
abbrev pub with_member : List Entry → List Report → ℕ × List (Bool × Report) → Member → ℕ × List (Bool × Report)
with_member h rs s (member.Performer p) = (s.0 + 1, s.1 ++ kept_of p s.0 h rs)
with_member h rs s (member.Observer o) = s

abbrev pub kept_by : List Entry → List Report → List Member → ℕ × List (Bool × Report)
kept_by h rs members = fold (with_member h rs) (0, []) members

-- those that are kept, by performers and then in list order, where no two are of one performer and request and have one number
abbrev pub kept_of_all : Input → List Entry → List Report → List (Bool × Report)
kept_of_all i h rs = (kept_by h rs i.members).1

-- those that are kept
abbrev pub kept : Input → List Entry → List Report → List (Bool × Report)
kept i h rs = kept_of_all i h (firsts rs)

-- ---- what is missing

-- whether a member is a performer of this name
abbrev pub is_performer : Name → Member → Bool
is_performer q (member.Performer p) = same_name p.name q
is_performer q (member.Observer o) = false

-- whether an event is a unit of a performer of the input
abbrev pub is_recorded : Input → Event → Bool
is_recorded i e = option_map_or (λ u. list_any (is_performer u.1) i.members) (unit_by e) false

-- how many units are recorded, on all requests and of all performers
abbrev pub all_recorded : Input → List Entry → ℕ
all_recorded i h = times (is_recorded i) h

-- how many reports are on time
abbrev pub on_time : List (Bool × Report) → ℕ
on_time kept = fold (λ n k. if k.0 then n else n + 1) 0 kept

-- how many recorded units none of these that are kept tells of in time
abbrev pub untold : Input → List Entry → List (Bool × Report) → ℕ
untold i h kept = all_recorded i h - on_time kept

-- how many recorded units no report on time tells of
abbrev pub missing : Input → List Entry → List Report → ℕ
missing i h rs = untold i h (kept i h rs)

-- ---- the audit

-- an audit of these reports
pub record IsAudit (i : Input) (h : List Entry) (rs : List Report) (a : Audit) : Type 0 where
  pub kept_is : a.kept ≡ kept i h rs
  pub missing_is : a.missing ≡ missing i h rs

-- an audit of reports of which no two are of one performer and request and have one number
pub record IsAuditOfFirsts (i : Input) (h : List Entry) (rs : List Report) (a : Audit) : Type 0 where
  pub kept_is : a.kept ≡ kept_of_all i h rs
  pub missing_is : a.missing ≡ untold i h (kept_of_all i h rs)
