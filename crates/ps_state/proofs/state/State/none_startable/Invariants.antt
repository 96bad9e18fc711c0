use Rattle.std.proofs.Common.{◌≡◌, true, List}
use Rattle.std.specs.List.{list_all, range_with_len}
use Rattle.ps_machine.specs.declared.inputs.Input.{Input}
use Rattle.ps_machine.specs.declared.journal.Entry.{Entry}
use Rattle.ps_state.specs.Acts.{is_stuck}
use Rattle.ps_state.specs.State.{Stands}
use Rattle.ps_state.proofs.state.State.none_startable.Given as goal

abbrev pub invariant-loop-act : goal.invariant-loop-act
invariant-loop-act l = (i : Input) (es : List Entry) → Stands i es l.self → list_all (is_stuck i es) (range_with_len 0 l.act) ≡ true
