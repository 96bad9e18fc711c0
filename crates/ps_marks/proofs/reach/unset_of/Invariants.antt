use Rattle.std.proofs.Common.{◌≡◌, ◌++◌, Bool, drop, filter}
use Rattle.ps_world.specs.declared.facts.Fact.{Fact}
use Rattle.ps_marks.specs.Marking.{IsUnset}
use Rattle.ps_marks.proofs.reach.unset_of.Given as goal

-- those so far, with those that pass among the facts that are left, are all that pass, by any test that tells which places are unset
abbrev pub invariant-loop-fact : goal.invariant-loop-fact
invariant-loop-fact l =
    (p : Fact → Bool) → ((f : Fact) (b : Bool) → IsUnset l.places l.flags f b → p f ≡ b)
    → l.unset.items ++ filter p (drop l.fact-index l.facts) ≡ filter p l.facts
