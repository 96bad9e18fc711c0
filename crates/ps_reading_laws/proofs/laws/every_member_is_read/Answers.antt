use Rattle.ps_reading_laws.proofs.MemberReadings.{every_member_is_read}
use Rattle.ps_reading_laws.proofs.laws.every_member_is_read.Goals as goal

pub returns : goal.returns
returns c = every_member_is_read
