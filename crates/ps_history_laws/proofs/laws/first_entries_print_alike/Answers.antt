use Rattle.ps_history_laws.proofs.Printed.{first_entries_print_alike}
use Rattle.ps_history_laws.proofs.laws.first_entries_print_alike.Goals as goal

pub returns : goal.returns
returns c = first_entries_print_alike
