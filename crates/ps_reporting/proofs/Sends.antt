-- The gate may be shared by threads where the gate after it may.
use denote.Ref.{NamedLft}
use denote.RattleType.{RattleType}
use denote.Param.Send.{IsSync, sendable}
use Rattle.std.proofs.Crossing.{crosses}
use Rattle.ps_world.proofs.names.Name.TheSendSync as name
use Rattle.ps_hub.proofs.Sends.{locks}
use Rattle.ps_reporting.specs.contracts.gate.ReportGate as ReportGate

pub gate_sync : (ℓ m : NamedLft) (G : RattleType) → IsSync G → IsSync (ReportGate.the_row ℓ m G)
gate_sync ℓ m G g = search (sendable, crosses, locks, name.the_field_sync) depth 20 fits 8000
