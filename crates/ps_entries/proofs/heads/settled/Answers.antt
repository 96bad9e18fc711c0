use Rattle.ps_entries.proofs.HeadLines.{settled-none, settled-some}
use Rattle.ps_entries.proofs.heads.settled.Goals as goal

pub returns-in-Some : goal.returns-in-Some
returns-in-Some c =
    settled-some c.args.bytes.now c.args.rest.now _ c.in_ok-settings.field-0 c.in-Some.settings c.in-len1-up.len_at_least c.in_ok-settings.ensures c.in-Some.is

pub returns-in-None : goal.returns-in-None
returns-in-None c = settled-none c.args.bytes.now c.args.rest.now _ c.in_ok-settings.field-0 c.in-len1-up.len_at_least c.in_ok-settings.ensures c.in-None.is
