use Rattle.ps_text.proofs.Printed.{number_of-printed}
use Rattle.ps_text.proofs.decimals.printed_numbers_are_read.Goals as goal

pub returns : goal.returns
returns c = number_of-printed
