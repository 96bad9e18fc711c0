use Rattle.std.proofs.Common.{◌∙◌, ap}
use Rattle.clap.specs.Faults.{is_simple_and_free}
use Rattle.ps_words.proofs.Takes.{mode_simple}
use Rattle.ps_words.proofs.asked.asked_in.Goals as goal

pub taken-requires : goal.taken-requires
taken-requires c = ap is_simple_and_free c.in_ok-command.ensures ∙ mode_simple c.args.mode
