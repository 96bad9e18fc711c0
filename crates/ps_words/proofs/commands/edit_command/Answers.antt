use Rattle.ps_words.specs.Words.{edit_app}
use Rattle.ps_words.proofs.commands.edit_command.Goals as goal

pub returns : goal.returns
unfolding edit_app
returns c = c.with_option.ensures _ (c.with_option-command.ensures _ c.bare_command.ensures)
