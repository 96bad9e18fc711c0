use Rattle.std.proofs.Common.{◌≡◌, ◌++◌, List, filter, map}
use Rattle.std.specs.List.{range_with_len}
use Rattle.ps_machine.specs.declared.inputs.Input.{Input}
use Rattle.ps_machine.specs.declared.journal.CancelWhy.TheVariants.{Stop}
use Rattle.ps_machine.specs.declared.journal.Entry.{Entry}
use Rattle.ps_rules.specs.History.{cancels}
use Rattle.ps_state.specs.Forced.{is_sound}
use Rattle.ps_state.specs.State.{Stands}
use Rattle.ps_state.proofs.state.State.add_sound.Given as goal

abbrev pub invariant-loop-act : goal.invariant-loop-act
invariant-loop-act l =
    (i : Input) (es : List Entry) → Stands i es l.self
    → l.all.items ≡ l.initial.all.items ++ map (cancels l.hand Stop) (filter (is_sound i es) (range_with_len 0 l.act))
