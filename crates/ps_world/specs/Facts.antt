-- The order of facts.
use Rattle.std.specs.Cmp.Lexicographic.{slice_cmp}
use Rattle.std.specs.Ordering.{on, then_cmp}
use Rattle.std.specs.declared.cmp.Ordering.{Ordering}
use Rattle.ps_world.specs.Names.{name_cmp}
use Rattle.ps_world.specs.declared.facts.Fact.{Fact}

-- by predicate, then by arguments
abbrev pub fact_cmp : Fact → Fact → Ordering
fact_cmp = then_cmp (on (λ f. f.head) name_cmp) (on (λ f. f.args) (slice_cmp name_cmp))
