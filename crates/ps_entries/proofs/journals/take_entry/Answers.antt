use Rattle.ps_entries.proofs.JournalLines.{takes_entry}
use Rattle.ps_entries.proofs.journals.take_entry.Goals as goal

pub returns-in_ok-push-in-Ok-Some-clause-takes : goal.returns-in_ok-push-in-Ok-Some-clause-takes
returns-in_ok-push-in-Ok-Some-clause-takes c =
    takes_entry c.args.n c.args.names.now c.args.line.now c.args.entries.now _ _ c.in-Ok-Some.entry _ c.requires c.in-Ok-Some.ensures.read c.in-Ok-Some.field-0-is c.in_ok-push-in-Ok-Some.ensures
