use Rattle.ps_undo.proofs.Suited.{edits_are_undone}
use Rattle.ps_undo.proofs.laws.edits_are_undone.Goals as goal

pub returns : goal.returns
returns c = edits_are_undone
