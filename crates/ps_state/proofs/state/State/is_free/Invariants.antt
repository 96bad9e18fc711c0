use Rattle.std.proofs.Common.{◌≡◌, true, List}
use Rattle.std.specs.List.{list_all, range_with_len}
use Rattle.ps_machine.specs.declared.inputs.Input.{Input}
use Rattle.ps_machine.specs.declared.journal.Entry.{Entry}
use Rattle.ps_state.specs.Acts.{lets_go}
use Rattle.ps_state.specs.State.{Stands}
use Rattle.ps_state.proofs.state.State.is_free.Given as goal

abbrev pub invariant-loop-j : goal.invariant-loop-j
invariant-loop-j l = (i : Input) (es : List Entry) → Stands i es l.self → list_all (lets_go i es l.act) (range_with_len 0 l.j) ≡ true
