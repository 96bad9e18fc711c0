use Rattle.ps_entries.proofs.FirstLines.{first-answer}
use Rattle.ps_entries.proofs.heads.settings_in.Goals as goal

pub returns : goal.returns
returns c = first-answer c.args.bytes.now c.two_lines_end.result c.settings_of.result c.two_lines_end.ensures.end c.settings_of.ensures
