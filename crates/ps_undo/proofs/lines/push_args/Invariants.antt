use Rattle.std.proofs.Common.{◌≡◌, ◌++◌, take}
use Rattle.ps_world.specs.Texts.{args_text}
use Rattle.ps_undo.proofs.lines.push_args.Given as goal

abbrev pub invariant-loop-name : goal.invariant-loop-name
invariant-loop-name l = l.out.items ≡ l.initial.out.items ++ args_text l.names (take l.name-index l.args)
