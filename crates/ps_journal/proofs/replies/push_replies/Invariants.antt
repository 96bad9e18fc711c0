use Rattle.std.proofs.Common.{◌≡◌, ◌++◌, map, drop}
use Rattle.ps_rules.specs.Journal.{reply_text}
use Rattle.ps_journal.proofs.replies.push_replies.Given as goal

abbrev pub invariant-loop-value : goal.invariant-loop-value
invariant-loop-value g l =
    l.out.items ++ reply_text (map (g.T.Printed.text l.names) (drop l.value-index l.values)) ≡ l.initial.out.items ++ reply_text (map (g.T.Printed.text l.names) l.values)
