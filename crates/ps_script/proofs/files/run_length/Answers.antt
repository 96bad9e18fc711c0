use Rattle.std.proofs.Common.{arith, not, refl}
use Rattle.ps_text.specs.Words.{is_run_byte}
use Rattle.ps_text.proofs.Pieces.{first-from}
use Rattle.ps_script.proofs.files.run_length.Goals as goal

pub returns-clause-run : goal.returns-clause-run
returns-clause-run c =
    omega (arith, first-from (λ b. not (is_run_byte b)) c.args.bytes.now c.args.bytes.now 0 c.unwrap_or.result c.first_other_byte.result refl c.first_other_byte.ensures c.unwrap_or.ensures)
