use Rattle.std.proofs.Common.{◌≡◌, ◌++◌, drop}
use Rattle.std.specs.List.{flat_map}
use Rattle.ps_report_lines.specs.Lines.{kept_line}
use Rattle.ps_report_lines.proofs.lines.push_all_kept.Given as goal

abbrev pub invariant-loop-kept : goal.invariant-loop-kept
invariant-loop-kept l =
    l.out.items ++ flat_map (kept_line l.names l.who) (drop l.kept-index l.all) ≡ l.initial.out.items ++ flat_map (kept_line l.names l.who) l.all
