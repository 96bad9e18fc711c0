use Rattle.std.proofs.Common.{◌≡◌, not, filter, length, drop}
use Rattle.std.specs.List.{list_any}
use Rattle.ps_action.specs.Effects.{deletes}
use Rattle.ps_solve.specs.Rows.{facts_of}
use Rattle.ps_solve.proofs.rows.delete_all.Given as goal

-- what the effects that are left delete of what is left
abbrev pub invariant-loop-effect : goal.invariant-loop-effect
invariant-loop-effect l = record {
  facts : filter (λ f. not (list_any (deletes f) (drop l.effect-index l.effects))) (facts_of l.atoms l.flags) ≡ filter (λ f. not (list_any (deletes f) l.effects)) (facts_of l.atoms l.initial.flags);
  wide : length l.flags ≡ length l.initial.flags;
}
