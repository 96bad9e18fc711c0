use Rattle.std.proofs.Common.{◌∙◌, sym}
use Rattle.ps_entries.specs.Journals.Takes.{reply}
use Rattle.ps_entries.proofs.journals.take_line.Goals as goal

pub returns-then-is_reply-clause-takes : goal.returns-then-is_reply-clause-takes
returns-then-is_reply-clause-takes c = reply (sym c.is_reply.ensures ∙ c.if-is_reply.true)
