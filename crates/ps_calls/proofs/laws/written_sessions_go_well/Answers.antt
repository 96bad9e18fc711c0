use Rattle.ps_calls.specs.Headline.{turns_of}
use Rattle.ps_calls.proofs.laws.written_sessions_go_well.Goals as goal

pub returns : goal.returns
returns c s bytes status is = c.sessions_go_well.ensures (turns_of s) s.input is.journal is.is
