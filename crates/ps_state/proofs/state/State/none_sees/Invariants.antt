use Rattle.std.proofs.Common.{◌≡◌, is_none, List, drop, filter_map}
use Rattle.std.specs.List.{list_all}
use Rattle.ps_machine.specs.declared.journal.Entry.{Entry}
use Rattle.ps_rules.specs.Members.{as_observer, seen_by}
use Rattle.ps_state.specs.Acts.{none_sees}
use Rattle.ps_state.specs.State.{Stands}
use Rattle.ps_state.proofs.state.State.none_sees.Given as goal

abbrev pub invariant-loop-member : goal.invariant-loop-member
invariant-loop-member l =
    (es : List Entry) → Stands l.input es l.self
    → none_sees l.input es ≡ list_all (λ o. is_none (seen_by l.input o es)) (filter_map as_observer (drop l.member-index l.member-items))
