use Rattle.std.proofs.Common.{arith}
use Rattle.ps_shows.proofs.pictures.read_text.Goals as goal

pub returns-else-len-gt-LONGEST_FILE : goal.returns-else-len-gt-LONGEST_FILE
returns-else-len-gt-LONGEST_FILE g c = (c.in-Ok.ensures, omega (arith, c.len.ensures, c.if-len-gt-LONGEST_FILE.false))

pub returns-then-len-gt-LONGEST_FILE : goal.returns-then-len-gt-LONGEST_FILE
returns-then-len-gt-LONGEST_FILE g c = (c.in-Ok.text, c.in-Ok.ensures, omega (arith, c.len.ensures, c.if-len-gt-LONGEST_FILE.true))
