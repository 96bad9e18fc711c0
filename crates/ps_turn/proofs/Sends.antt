-- An entry and an input may go to another thread, and threads may share them: a search for that from their types alone stops at its
-- limits, so each type within them that holds others has lemmas of its own.
use denote.Param.Send.{IsSend, IsSync, sendable}
use Rattle.std.proofs.Crossing.{crosses}
use Rattle.ps_action.proofs.acts.Act.TheSendSync as act
use Rattle.ps_action.proofs.acts.PlanStep.TheSendSync as step
use Rattle.ps_action.proofs.refusals.PlanTextRefusal.TheSendSync as plantext
use Rattle.ps_machine.specs.contracts.inputs.Command as Command
use Rattle.ps_machine.specs.contracts.inputs.Input as Input
use Rattle.ps_machine.specs.contracts.inputs.Line as Line
use Rattle.ps_machine.specs.contracts.journal.Entry as Entry
use Rattle.ps_machine.specs.contracts.journal.Event as Event
use Rattle.ps_machine.specs.contracts.members.Member as Member
use Rattle.ps_machine.specs.contracts.members.Observer as Observer
use Rattle.ps_machine.specs.contracts.members.Performer as Performer
use Rattle.ps_machine.specs.contracts.members.Unit as Task
use Rattle.ps_machine.proofs.inputs.LineCause.TheSendSync as cause
use Rattle.ps_machine.proofs.inputs.Query.TheSendSync as query
use Rattle.ps_machine.proofs.journal.By.TheSendSync as by
use Rattle.ps_machine.proofs.journal.CancelWhy.TheSendSync as cancel
use Rattle.ps_machine.proofs.journal.FailWhy.TheSendSync as fail
use Rattle.ps_machine.proofs.journal.Outcome.TheSendSync as outcome
use Rattle.ps_machine.proofs.journal.PassWhy.TheSendSync as pass
use Rattle.ps_machine.proofs.journal.Refusal.TheSendSync as refusal
use Rattle.ps_machine.proofs.journal.RunKind.TheSendSync as kind
use Rattle.ps_domain.proofs.Sends.{cond_send, edit_send, expert_send, cond_sync, edit_sync, expert_sync}
use Rattle.ps_machine.proofs.Sends.{unit_send, lists}

-- ---- members

performer_send : IsSend Performer.the_field.row
performer_send = search (lists, unit_send) depth 20

observer_send : IsSend Observer.the_field.row
observer_send = search (lists, cond_send, edit_send) depth 20

member_send : IsSend Member.the_field.row
member_send = search (sendable, crosses, performer_send, observer_send) depth 12

unit_sync : IsSync Task.the_field.row
unit_sync = search (lists, edit_sync) depth 12

performer_sync : IsSync Performer.the_field.row
performer_sync = search (lists, unit_sync) depth 20

observer_sync : IsSync Observer.the_field.row
observer_sync = search (lists, cond_sync, edit_sync) depth 20

member_sync : IsSync Member.the_field.row
member_sync = search (sendable, crosses, performer_sync, observer_sync) depth 12

-- ---- entries and inputs

ruleset words = (lists, act.the_field_send, act.the_field_sync, step.the_field_send, step.the_field_sync, plantext.the_field_send, plantext.the_field_sync, cause.the_field_send, cause.the_field_sync, query.the_field_send, query.the_field_sync, by.the_field_send, by.the_field_sync, refusal.the_field_send, refusal.the_field_sync, kind.the_field_send, kind.the_field_sync, pass.the_field_send, pass.the_field_sync, fail.the_field_send, fail.the_field_sync, cancel.the_field_send, cancel.the_field_sync, outcome.the_field_send, outcome.the_field_sync)

command_send : IsSend Command.the_field.row
command_send = search (words, edit_send) depth 20 fits 8000

line_send : IsSend Line.the_field.row
line_send = search (words, command_send) depth 12

pub input_send : IsSend Input.the_field.row
input_send = search (lists, expert_send, member_send, line_send) depth 20

event_send : IsSend Event.the_field.row
event_send = search (words, edit_send) depth 48 fits 20000

pub entry_send : IsSend Entry.the_field.row
entry_send = search (sendable, crosses, event_send) depth 12

command_sync : IsSync Command.the_field.row
command_sync = search (words, edit_sync) depth 20 fits 8000

line_sync : IsSync Line.the_field.row
line_sync = search (words, command_sync) depth 12

pub input_sync : IsSync Input.the_field.row
input_sync = search (lists, expert_sync, member_sync, line_sync) depth 20

event_sync : IsSync Event.the_field.row
event_sync = search (words, edit_sync) depth 48 fits 20000

pub entry_sync : IsSync Entry.the_field.row
entry_sync = search (sendable, crosses, event_sync) depth 12

pub ruleset sent = (entry_send, entry_sync, input_send, input_sync)
