use Rattle.std.proofs.Common.{◌∙◌, sym}
use Rattle.ps_entries.proofs.SaidOnce.{note_found, plain_found}
use Rattle.ps_entries.proofs.entries.event_of.Goals as goal

pub returns-then-reads-3-clause-finds : goal.returns-then-reads-3-clause-finds
returns-then-reads-3-clause-finds c =
    note_found c.args.names.now c.args.words.now c.args.known.now c.args.tail.now c.feedback_of.result (sym c.reads.ensures ∙ c.if-reads.false) (sym c.reads-else-reads.ensures ∙ c.if-reads-2.false) (sym c.reads-else-reads-2.ensures ∙ c.if-reads-3.true) c.feedback_of.ensures

pub returns-else-reads-3-clause-finds : goal.returns-else-reads-3-clause-finds
returns-else-reads-3-clause-finds c =
    plain_found c.args.names.now c.args.words.now c.args.known.now c.args.tail.now c.plain_event.result (sym c.reads.ensures ∙ c.if-reads.false) (sym c.reads-else-reads.ensures ∙ c.if-reads-2.false) (sym c.reads-else-reads-2.ensures ∙ c.if-reads-3.false) c.plain_event.ensures
