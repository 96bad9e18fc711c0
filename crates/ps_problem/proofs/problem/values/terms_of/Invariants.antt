use Rattle.std.proofs.Common.{◌≡◌, take}
use Rattle.std.specs.List.{list_any}
use Rattle.std.specs.Map.{keys_of}
use Rattle.ps_world.specs.Knowledge.{same_fact}
use Rattle.ps_world.specs.declared.facts.Fact.{Fact}
use Rattle.ps_problem.proofs.problem.values.terms_of.Given as goal

abbrev pub invariant-loop-term : goal.invariant-loop-term
invariant-loop-term l = (f : Fact) → list_any (same_fact f) l.all ≡ list_any (same_fact f) (keys_of (take l.term-index l.ready))
