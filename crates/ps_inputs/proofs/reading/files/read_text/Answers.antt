use Rattle.std.proofs.Common.{arith}
use Rattle.ps_inputs.proofs.ReadParts.{text_read}
use Rattle.ps_inputs.proofs.reading.files.read_text.Goals as goal

pub returns-else-len-gt-LONGEST_FILE-clause-reads : goal.returns-else-len-gt-LONGEST_FILE-clause-reads
returns-else-len-gt-LONGEST_FILE-clause-reads g c =
    text_read c.args.file.now (g.F.Files.shown c.args.files.now) (g.F.Files.shown c.read.new.self) c.in-Ok.text (omega (arith, c.len.ensures, c.if-len-gt-LONGEST_FILE.false)) c.in-Ok.ensures
