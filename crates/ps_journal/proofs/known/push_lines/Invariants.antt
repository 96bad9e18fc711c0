use Rattle.std.proofs.Common.{◌≡◌, ◌++◌, drop}
use Rattle.ps_rules.specs.Journal.{reply_text}
use Rattle.ps_journal.proofs.known.push_lines.Given as goal

abbrev pub invariant-loop-line : goal.invariant-loop-line
invariant-loop-line l = l.out.items ++ reply_text (drop l.line-index l.lines) ≡ l.initial.out.items ++ reply_text l.lines
