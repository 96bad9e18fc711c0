use Rattle.std.proofs.Common.{◌≡◌, ◌++◌, map, drop}
use Rattle.ps_world.specs.Names.{name_text}
use Rattle.ps_rules.specs.Journal.{reply_text}
use Rattle.ps_journal.proofs.replies.push_action_names.Given as goal

abbrev pub invariant-loop-action : goal.invariant-loop-action
invariant-loop-action l =
    l.out.items ++ reply_text (map (λ a. name_text l.names a.name) (drop l.action-index l.actions)) ≡ l.initial.out.items ++ reply_text (map (λ a. name_text l.names a.name) l.actions)
