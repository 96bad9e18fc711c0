use Rattle.std.proofs.Common.{◌≡◌, ◌++◌, drop}
use Rattle.ps_text.specs.Words.{pieces}
use Rattle.ps_rules.specs.Journal.{reply_text}
use Rattle.ps_journal.proofs.replies.push_indented.Given as goal

abbrev pub invariant-loop-span : goal.invariant-loop-span
invariant-loop-span l =
    l.out.items ++ reply_text (pieces l.block (drop l.span-index l.span-items)) ≡ l.initial.out.items ++ reply_text (pieces l.block l.span-items)
