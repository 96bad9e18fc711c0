use Rattle.ps_ground.proofs.fixed.has_never_holding.Given as goal

abbrev pub invariant-loop-cond : goal.invariant-loop-cond
invariant-loop-cond l = Unit {0}
