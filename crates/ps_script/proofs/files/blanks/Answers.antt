use Rattle.std.proofs.Common.{arith, not, refl}
use Rattle.ps_text.specs.Words.{is_blank}
use Rattle.ps_text.proofs.Pieces.{first-from}
use Rattle.ps_script.proofs.files.blanks.Goals as goal

pub returns-clause-blanks : goal.returns-clause-blanks
returns-clause-blanks c =
    omega (arith, first-from (λ b. not (is_blank b)) c.args.bytes.now c.args.bytes.now 0 c.unwrap_or.result c.first_black_byte.result refl c.first_black_byte.ensures c.unwrap_or.ensures)
