use Rattle.std.proofs.Common.{◌≡◌, ◌-◌, length}
use Rattle.ps_pddl.specs.Types.{leads_to}
use Rattle.ps_pddl.proofs.meaning.types.leads_to.Given as goal

-- the steps that are left lead from here as all steps lead from the start
abbrev pub invariant-loop-climbed : goal.invariant-loop-climbed
invariant-loop-climbed l = leads_to (length l.d.types - l._climbed) l.d l.at l.goal ≡ leads_to (length l.d.types) l.d l.fn.from l.goal
