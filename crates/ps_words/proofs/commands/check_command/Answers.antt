use Rattle.ps_words.specs.Words.{check_app}
use Rattle.ps_words.proofs.commands.check_command.Goals as goal

pub returns : goal.returns
unfolding check_app
returns c = c.with_option.ensures _ c.bare_command.ensures
