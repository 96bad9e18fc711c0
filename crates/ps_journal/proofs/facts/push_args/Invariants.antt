use Rattle.std.proofs.Common.{◌≡◌, ◌++◌, drop}
use Rattle.ps_world.specs.Texts.{args_text}
use Rattle.ps_journal.proofs.facts.push_args.Given as goal

abbrev pub invariant-loop-name : goal.invariant-loop-name
invariant-loop-name l = l.out.items ++ args_text l.names (drop l.name-index l.args) ≡ l.initial.out.items ++ args_text l.names l.args
