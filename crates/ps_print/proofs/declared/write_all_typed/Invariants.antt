use Rattle.std.proofs.Common.{◌≡◌, ◌++◌, map, take}
use Rattle.ps_world.specs.DomainTexts.{after_spaces, typed_text}
use Rattle.ps_print.proofs.declared.write_all_typed.Given as goal

abbrev pub invariant-loop-param : goal.invariant-loop-param
invariant-loop-param l =
    l.text ≡ l.initial.text ++ after_spaces (map (typed_text l.names) (take l.param-index l.params))
