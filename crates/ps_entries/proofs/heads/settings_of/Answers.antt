use Rattle.ps_entries.proofs.HeadLines.{other-settings}
use Rattle.ps_entries.proofs.heads.settings_of.Goals as goal

pub returns : goal.returns
returns c =
    other-settings c.args.bytes.now c.in_ok-lines.lines.items _ c.in_ok-settings.field-0 c.in_ok-lines.ensures.lines c.deref.ensures.value c.in_ok-settings.ensures
    c.in-Untitled.is
