use Rattle.ps_choice_laws.proofs.Members.{performers_list_all}
use Rattle.ps_choice_laws.proofs.laws.performers_list_all.Goals as goal

pub returns : goal.returns
returns c = performers_list_all
