use Rattle.std.proofs.Common.{◌≡◌, ◌++◌, map, drop}
use Rattle.ps_world.specs.DomainTexts.{after_spaces, param_text}
use Rattle.ps_print.proofs.declared.write_more_params.Given as goal

abbrev pub invariant-loop-param : goal.invariant-loop-param
invariant-loop-param l =
    l.text ++ after_spaces (map (param_text l.names) (drop l.param-index l.params)) ≡ l.initial.text ++ after_spaces (map (param_text l.names) l.params)
