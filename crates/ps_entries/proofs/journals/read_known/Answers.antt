use Rattle.std.proofs.Common.{inl, refl}
use Rattle.ps_entries.proofs.HeadLines.{begins-text}
use Rattle.ps_entries.proofs.journals.read_known.Goals as goal

pub returns-in-Untitled-clause-refused : goal.returns-in-Untitled-clause-refused
returns-in-Untitled-clause-refused c =
    begins-text c.args.bytes.now _ _ _ _ c.in_ok-lines.ensures.lines c.deref.ensures.value c.in_ok-heading_of.ensures c.in-Untitled.is

pub returns-clause-refused : goal.returns-clause-refused
returns-clause-refused c =
    inl (begins-text c.args.bytes.now _ _ _ _ c.in_ok-lines.ensures.lines c.deref.ensures.value c.in_ok-heading_of.ensures c.in-Unsettled.is, refl)
