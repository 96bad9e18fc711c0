use Rattle.ps_choice_laws.proofs.Whose.{each_event_is_somebodys}
use Rattle.ps_choice_laws.proofs.laws.each_event_is_somebodys.Goals as goal

pub returns : goal.returns
returns c = each_event_is_somebodys
