use Rattle.std.proofs.Common.{◌∙◌, sym}
use Rattle.ps_grammar.proofs.Levels.{rises}
use Rattle.ps_grammar.proofs.wanted.Wanted.fitting.Goals as goal

pub returns-clause-few : goal.returns-clause-few
returns-clause-few c = rises _ _ _ (sym c.first.ensures ∙ c.in_ok-first.was) c.step.ensures.few
