use Rattle.std.proofs.Common.{◌≡◌, ◌++◌, map, drop}
use Rattle.ps_world.specs.DomainTexts.{after_spaces, term_text}
use Rattle.ps_print.proofs.terms.write_terms.Given as goal

abbrev pub invariant-loop-term : goal.invariant-loop-term
invariant-loop-term l =
    l.text ++ after_spaces (map (term_text l.names l.params) (drop l.term-index l.terms)) ≡ l.initial.text ++ after_spaces (map (term_text l.names l.params) l.terms)
