use Rattle.std.proofs.Common.{refl}
use Rattle.ps_action.specs.Search.{answer}
use Rattle.ps_solve_laws.proofs.laws.sample_answers.Goals as goal

pub returns : goal.returns
unfolding answer
returns c = record { there = refl; planned = refl; spent = refl; none = refl }
