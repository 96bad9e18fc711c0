use Rattle.ps_picture.proofs.RowCounts.{act_rows-length}
use Rattle.ps_picture.proofs.laws.acts_have_rows.Goals as goal

pub returns : goal.returns
returns c = act_rows-length
