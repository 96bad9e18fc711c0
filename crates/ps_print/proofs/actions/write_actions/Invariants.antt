use Rattle.std.proofs.Common.{◌≡◌, ◌++◌, drop}
use Rattle.std.specs.List.{flat_map}
use Rattle.ps_world.specs.Lines.{line_end}
use Rattle.ps_world.specs.DomainTexts.{action_lines}
use Rattle.ps_print.proofs.actions.write_actions.Given as goal

abbrev pub invariant-loop-action : goal.invariant-loop-action
invariant-loop-action l =
    l.text ++ flat_map (λ line. line ++ line_end) (flat_map (action_lines l.names) (drop l.action-index l.actions)) ≡ l.initial.text ++ flat_map (λ line. line ++ line_end) (flat_map (action_lines l.names) l.actions)
