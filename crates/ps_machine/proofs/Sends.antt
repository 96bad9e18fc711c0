-- Units may go to another thread: a search for that from their types alone stops at its limits, so they have a lemma of their own.
use denote.Param.Send.{IsSend, sendable}
use Rattle.std.proofs.Crossing.{crosses}
use Rattle.ps_world.proofs.names.Name.TheSendSync as name
use Rattle.ps_world.proofs.lists.Seq.TheSendSync as seq
use Rattle.ps_domain.proofs.Sends.{edit_send}
use Rattle.ps_machine.specs.contracts.members.Unit as Task

pub ruleset lists = (sendable, crosses, seq.the_send, seq.the_sync, name.the_field_send, name.the_field_sync)

pub unit_send : IsSend Task.the_field.row
unit_send = search (lists, edit_send) depth 12
