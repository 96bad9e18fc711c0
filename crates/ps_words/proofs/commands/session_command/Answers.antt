use Rattle.ps_words.specs.Words.{session_app}
use Rattle.ps_words.proofs.commands.session_command.Goals as goal

pub returns : goal.returns
unfolding session_app
returns c =
    c.with_words.ensures _ (c.with_flag-command-2.ensures _ (c.with_flag-command.ensures _ (c.with_option-command-5.ensures _ (c.with_option-command-4.ensures _ (c.with_option-command-3.ensures _ (c.with_option-command-2.ensures _ (c.with_option-command.ensures _ c.bare_command.ensures)))))))
