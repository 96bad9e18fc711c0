use Rattle.ps_stale_plan_laws.proofs.Sameness.{knowledge_decides}
use Rattle.ps_stale_plan_laws.proofs.laws.knowledge_decides.Goals as goal

pub returns : goal.returns
returns c = knowledge_decides
