use Rattle.std.proofs.Common.{◌≡◌, ◌+◌, ◌≤◌, List, ◌++◌, length, map}
use Rattle.std.specs.Vec.{vec_capacity}
use Rattle.ps_machine.specs.declared.journal.Entry.{Entry}
use Rattle.ps_action.specs.declared.acts.GroundAction.{GroundAction}
use Rattle.ps_rules.specs.History.{any_of, cancels}
use Rattle.ps_machine.specs.declared.inputs.Input.{Input}
use Rattle.ps_ledger.specs.Ledger.{KeepsSpare, TellsAll}
use Rattle.ps_ledger.specs.Legal.{HasMembersOf}
use Rattle.ps_monitor.specs.Watched.{marked}
use Rattle.ps_board.specs.Parts.{IsWatching}
use Rattle.ps_board.proofs.blocks.cancel_all.Given as goal

abbrev pub invariant-loop-act : goal.invariant-loop-act
invariant-loop-act l = record {
  count : length l.ledger.acts.states.items ≡ length l.initial.ledger.acts.states.items;
  entries : l.entries.items ≡ l.initial.entries.items ++ map (cancels l.hand l.why) (marked l.acts l.act);
  told : (es : List Entry) → TellsAll es l.initial.ledger → TellsAll (es ++ map (cancels l.hand l.why) (marked l.acts l.act)) l.ledger;
  watching : (gs : List GroundAction) → IsWatching l.initial.monitor l.initial.ledger gs → IsWatching l.monitor l.ledger gs;
  members : (i : Input) → HasMembersOf i l.initial.ledger → HasMembersOf i l.ledger;
  len : length l.entries.items ≡ length l.initial.entries.items + length (marked l.acts l.act);
  capacity : vec_capacity l.initial.entries ≤ vec_capacity l.entries;
  spare : KeepsSpare l.initial.ledger l.ledger;
  any : l.any ≡ any_of (marked l.acts l.act);
}
