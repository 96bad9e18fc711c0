use Rattle.ps_input_laws.proofs.FlattenedScripts.{flattened_scripts_are_commands}
use Rattle.ps_input_laws.proofs.laws.flattened_scripts_are_commands.Goals as goal

pub returns : goal.returns
returns c = flattened_scripts_are_commands
