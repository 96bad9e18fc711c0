use Rattle.std.proofs.Common.{◌≡◌, false, List}
use Rattle.std.specs.List.{list_any, range_with_len}
use Rattle.ps_machine.specs.declared.inputs.Input.{Input}
use Rattle.ps_machine.specs.declared.journal.Entry.{Entry}
use Rattle.ps_rules.specs.Settled.{is_ready}
use Rattle.ps_state.specs.State.{Stands}
use Rattle.ps_state.proofs.state.State.any_ready.Given as goal

abbrev pub invariant-loop-act : goal.invariant-loop-act
invariant-loop-act l = (i : Input) (es : List Entry) → Stands i es l.self → list_any (is_ready i es) (range_with_len 0 l.act) ≡ false
