use Rattle.std.proofs.Common.{◌≡◌, List, [], length, take, drop, map}
use Rattle.ps_world.specs.declared.schemas.Term.{Term}
use Rattle.ps_lists.specs.Nested.{nesteds}
use Rattle.ps_lists.specs.NestedViews.{nested}
use Rattle.ps_pddl.specs.Terms.{arguments}
use Rattle.ps_pddl.proofs.meaning.terms.applied.Given as goal

-- the arguments that are left, after those before, are all of them; of those before the first 6 are kept
abbrev pub invariant-loop-i : goal.invariant-loop-i
invariant-loop-i l = record {
  before : List Term;
  as_many : length before ≡ l.i;
  rest : arguments l.scope.domain.now l.scope.params.now (drop l.i l.wants) (nesteds (map nested (drop l.i l.trees))) before
      ≡ arguments l.scope.domain.now l.scope.params.now l.wants (nesteds (map nested l.trees)) [];
  kept : l.terms ≡ take 6 before;
}
