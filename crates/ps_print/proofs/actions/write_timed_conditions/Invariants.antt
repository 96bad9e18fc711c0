use Rattle.std.proofs.Common.{◌≡◌, ◌++◌, codes, map, drop}
use Rattle.std.specs.List.{flat_map}
use Rattle.ps_world.specs.CondViews.{cond_tree}
use Rattle.ps_world.specs.DomainTexts.{cond_text}
use Rattle.ps_print.proofs.actions.write_timed_conditions.Given as goal

abbrev pub invariant-loop-cond : goal.invariant-loop-cond
invariant-loop-cond l =
    l.text ++ flat_map (λ cond. l.opening ++ (cond ++ codes ")")) (map (cond_text l.names l.params) (map cond_tree (drop l.cond-index l.cond-items))) ≡ l.initial.text ++ flat_map (λ cond. l.opening ++ (cond ++ codes ")")) (map (cond_text l.names l.params) l.conds)
