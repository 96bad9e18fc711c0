use Rattle.ps_script_laws.proofs.LineLexing.{word_names_are_kept}
use Rattle.ps_script_laws.proofs.laws.word_names_are_kept.Goals as goal

pub returns : goal.returns
returns c = word_names_are_kept
