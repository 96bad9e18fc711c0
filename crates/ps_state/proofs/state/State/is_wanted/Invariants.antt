use Rattle.std.proofs.Common.{◌≡◌, ◌&&◌, not, List, drop, filter_map}
use Rattle.std.specs.List.{list_any}
use Rattle.ps_machine.specs.declared.journal.Entry.{Entry}
use Rattle.ps_rules.specs.Auctions.{is_engaged}
use Rattle.ps_rules.specs.Legal.{is_wanted, matches_act}
use Rattle.ps_rules.specs.Members.{as_performer}
use Rattle.ps_state.specs.State.{Stands}
use Rattle.ps_state.proofs.state.State.is_wanted.Given as goal

abbrev pub invariant-loop-member : goal.invariant-loop-member
invariant-loop-member l =
    (es : List Entry) → Stands l.input es l.self
    → is_wanted l.input es l.act
    ≡ list_any (λ p. matches_act p l.act es && not (is_engaged p.name es)) (filter_map as_performer (drop l.member-index l.member-items))
