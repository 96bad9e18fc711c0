use Rattle.std.proofs.Common.{◌≡◌, ◌++◌, map, drop}
use Rattle.ps_world.specs.Names.{name_text}
use Rattle.ps_rules.specs.Journal.{reply_text}
use Rattle.ps_journal.proofs.replies.push_types.Given as goal

abbrev pub invariant-loop-param : goal.invariant-loop-param
invariant-loop-param l =
    l.out.items ++ reply_text (map (λ p. name_text l.names p.name) (drop l.param-index l.types)) ≡ l.initial.out.items ++ reply_text (map (λ p. name_text l.names p.name) l.types)
