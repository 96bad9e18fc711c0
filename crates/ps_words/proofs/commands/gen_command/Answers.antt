use Rattle.ps_words.specs.Words.{gen_app}
use Rattle.ps_words.proofs.commands.gen_command.Goals as goal

pub returns : goal.returns
unfolding gen_app
returns c = c.with_word.ensures _ c.bare_command.ensures
