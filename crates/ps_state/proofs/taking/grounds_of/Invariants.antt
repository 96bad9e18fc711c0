use Rattle.std.proofs.Common.{◌≡◌, take}
use Rattle.ps_rules.specs.Known.{grounds}
use Rattle.ps_state.proofs.taking.grounds_of.Given as goal

abbrev pub invariant-loop-act : goal.invariant-loop-act
invariant-loop-act l = l.all.items ≡ grounds l.expert (take l.act-index l.acts)
