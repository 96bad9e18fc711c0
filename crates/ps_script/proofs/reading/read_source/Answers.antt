use Rattle.ps_script.proofs.LineReads.{source_nothing_read, source_read}
use Rattle.ps_script.proofs.reading.read_source.Goals as goal

pub returns-in-Some : goal.returns-in-Some
returns-in-Some c = λ table. source_read table c.args.bytes.now _ _ _ c.requires.something c.requires.source c.after_run.ensures c.in_ok-file.ensures c.in-Some.is

pub returns-in-None : goal.returns-in-None
returns-in-None c = λ table. source_nothing_read table c.args.bytes.now _ _ _ c.requires.something c.requires.source c.after_run.ensures c.in_ok-file.ensures c.in-None.is c.bad.ensures
