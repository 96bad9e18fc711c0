use denote.Param.Send.{sendable}
use Rattle.ps_hub.proofs.Sends.{belt_sync, desk_send}
use Rattle.turn_tests.proofs.belts.send_from_all.Goals as goal

pub for_each_mut-requires-send-T : goal.for_each_mut-requires-send-T
for_each_mut-requires-send-T g c κs within = search (sendable, desk_send)

pub for_each_mut-requires-sync-F : goal.for_each_mut-requires-sync-F
for_each_mut-requires-sync-F g c κs within = search (sendable, belt_sync) depth 14
