use Rattle.std.proofs.Common.{◌≡◌, ◌++◌, drop, filter, not}
use Rattle.std.specs.List.{list_any}
use Rattle.ps_action.specs.Effects.{deletes}
use Rattle.ps_plain.proofs.effect_lists.facts_kept.Given as goal

abbrev pub invariant-loop-there : goal.invariant-loop-there
invariant-loop-there l =
    l.kept.items ++ filter (λ f. not (list_any (deletes f) l.effects)) (drop l.there-index l.facts) ≡ filter (λ f. not (list_any (deletes f) l.effects)) l.facts
