use Rattle.std.proofs.Common.{◌≡◌, ◌++◌, map, drop}
use Rattle.ps_world.specs.DomainTexts.{after_spaces, decl_text}
use Rattle.ps_print.proofs.declared.write_decls.Given as goal

abbrev pub invariant-loop-decl : goal.invariant-loop-decl
invariant-loop-decl l =
    l.text ++ after_spaces (map (decl_text l.names) (drop l.decl-index l.decls)) ≡ l.initial.text ++ after_spaces (map (decl_text l.names) l.decls)
