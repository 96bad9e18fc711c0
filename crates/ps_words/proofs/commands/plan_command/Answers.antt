use Rattle.ps_words.specs.Words.{plan_app}
use Rattle.ps_words.proofs.commands.plan_command.Goals as goal

pub returns : goal.returns
unfolding plan_app
returns c = c.with_option.ensures _ (c.with_option-command-2.ensures _ (c.with_option-command.ensures _ c.bare_command.ensures))
