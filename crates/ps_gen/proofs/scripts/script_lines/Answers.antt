use Rattle.std.proofs.Common.{rules, append_assoc}
use Rattle.ps_gen.specs.Texts.{script_lines}
use Rattle.ps_gen.proofs.scripts.script_lines.Goals as goal

pub returns : goal.returns
unfolding script_lines
returns c = search (rules, append_assoc)
