use Rattle.ps_entries.proofs.OneEntry.{line-once}
use Rattle.ps_entries.proofs.laws.lines_are_one_entry.Goals as goal

pub returns : goal.returns
returns c = λ names line e f after other are x y. line-once names line are e f after other x y
