use Rattle.ps_undo.proofs.SavedEdits.{saved_give_it}
use Rattle.ps_undo.proofs.laws.saved_edits_give_it.Goals as goal

pub returns : goal.returns
returns c = saved_give_it
