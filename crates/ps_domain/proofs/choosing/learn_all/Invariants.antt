use Rattle.ps_domain.specs.Listing.{AreChoices}
use Rattle.ps_domain.proofs.choosing.learn_all.Given as goal

abbrev pub invariant-loop-action : goal.invariant-loop-action
invariant-loop-action l = AreChoices l.expert l.sorted.entries l.known.entries

abbrev pub invariant-loop-param : goal.invariant-loop-param
invariant-loop-param l = AreChoices l.expert l.sorted.entries l.known.entries
