use Rattle.std.proofs.Common.{◌≡◌, List, filter, map}
use Rattle.std.specs.List.{range_with_len}
use Rattle.ps_machine.specs.declared.inputs.Input.{Input}
use Rattle.ps_machine.specs.declared.journal.CancelWhy.TheVariants.{OverAll}
use Rattle.ps_machine.specs.declared.journal.Entry.{Entry}
use Rattle.ps_rules.specs.History.{cancels}
use Rattle.ps_state.specs.Forced.{is_broken}
use Rattle.ps_state.specs.State.{Stands}
use Rattle.ps_state.proofs.state.State.broken.Given as goal

abbrev pub invariant-loop-act : goal.invariant-loop-act
invariant-loop-act l =
    (i : Input) (es : List Entry) → Stands i es l.self
    → l.all.items ≡ map (cancels l.hand OverAll) (filter (is_broken i es) (range_with_len 0 l.act))
