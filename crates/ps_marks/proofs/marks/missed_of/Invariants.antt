use Rattle.std.proofs.Common.{◌≡◌, ◌++◌, true, Bool, drop, filter}
use Rattle.ps_world.specs.declared.facts.Fact.{Fact}
use Rattle.ps_marks.specs.Closures.{is_in}
use Rattle.ps_marks.specs.Marking.{IsMissed}
use Rattle.ps_marks.proofs.marks.missed_of.Given as goal

-- those so far, with those that pass among the facts that are left, are all that pass, by any test that tells what is missed
abbrev pub invariant-loop-fact : goal.invariant-loop-fact
invariant-loop-fact l =
    (p : Fact → Bool) → ((f : Fact) (b : Bool) → is_in l.facts f ≡ true → IsMissed l.places l.start l.rules l.goal f b → p f ≡ b)
    → l.missed.items ++ filter p (drop l.fact-index l.facts) ≡ filter p l.facts
