-- Desks, trays and what holds them may go to another thread, and threads may share belts and the locks: a search for that from the types
-- alone stops at its limits, since a report has a unit, which may hold conditions, so each layer has lemmas of its own.
use denote.Ref.{NamedLft}
use denote.Param.Send.{IsSend, IsSync, sendable}
use Rattle.std.proofs.Crossing.{crosses}
use Rattle.std.specs.contracts.sync.Mutex as Mutex
use Rattle.std.specs.contracts.option.Option as Option
use Rattle.atomic_table.specs.contracts.shared.Seat as Token
use Rattle.atomic_table.proofs.shared.Seat.TheSendSync as token
use Rattle.crossbeam_queue.specs.contracts.array_queue.Doing as Doing
use Rattle.crossbeam_queue.proofs.array_queue.Slotted.TheSendSync as queue
use Rattle.ps_machine.proofs.Sends.{unit_send, lists}
use Rattle.ps_hub.specs.contracts.report.Report as Report
use Rattle.ps_hub.specs.contracts.view.View as View
use Rattle.ps_hub.specs.contracts.desk.Desk as Desk
use Rattle.ps_hub.specs.contracts.tray.Tray as Tray
use Rattle.ps_hub.specs.contracts.belt.Belt as Belt
use Rattle.ps_hub.specs.contracts.locked.Post as Post
use Rattle.ps_hub.specs.contracts.locked.Pile as Pile
use Rattle.ps_hub.proofs.belt.Size.TheSendSync as size

-- ---- reports, desks, trays and belts

report_send : IsSend Report.the_row
report_send = search (lists, unit_send) depth 12

slot_send : IsSend (Option.the_row Report.the_row)
slot_send = search (sendable, report_send) depth 12

token_send : IsSend (Token.the_row (Option.the_row Report.the_row) (Doing.the_row Report.the_row View.the_row))
token_send = token.the_send (Option.the_row Report.the_row) (Doing.the_row Report.the_row View.the_row) slot_send

pub desk_send : IsSend Desk.the_row
desk_send = search (sendable, crosses, token_send) depth 20 fits 8000

pub tray_send : IsSend Tray.the_row
tray_send = search (sendable, crosses, token_send, report_send) depth 20 fits 8000

pub belt_sync : IsSync Belt.the_row
belt_sync = search (sendable, crosses, queue.the_field_sync, slot_send, size.the_field_sync) depth 30 fits 20000

-- the same where they are fields

pub desk_field_send : IsSend Desk.the_field.row
desk_field_send = desk_send

pub tray_field_send : IsSend Tray.the_field.row
tray_field_send = tray_send

pub belt_field_sync : IsSync Belt.the_field.row
belt_field_sync = belt_sync

-- ---- what stands behind the locks

pub post_send : (ℓ : NamedLft) → IsSend (Post.the_row ℓ)
post_send ℓ = search (sendable, crosses, desk_field_send, belt_field_sync) depth 20 fits 8000

pub pile_send : (ℓ : NamedLft) → IsSend (Pile.the_row ℓ)
pile_send ℓ = search (sendable, crosses, tray_field_send, belt_field_sync) depth 20 fits 8000

-- ---- the locks

pub post_lock_sync : (ℓ : NamedLft) → IsSync (Mutex.the_row (Post.the_row ℓ))
post_lock_sync ℓ = search (crosses, post_send)

pub pile_lock_sync : (ℓ : NamedLft) → IsSync (Mutex.the_row (Pile.the_row ℓ))
pile_lock_sync ℓ = search (crosses, pile_send)

pub ruleset locks = (post_lock_sync, pile_lock_sync, post_send, pile_send)
