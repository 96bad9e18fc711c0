use Rattle.std.proofs.Common.{sym, ◌∙◌}
use Rattle.ps_levels.specs.declared.searching.Found.TheVariants.{Path, Nowhere, Spent}
use Rattle.ps_solve.proofs.SameStates.{state_same}
use Rattle.ps_solve.proofs.Storing.{tells}
use Rattle.ps_solve.proofs.forward.answer.Goals as goal

pub search-requires-clause-exact : goal.search-requires-clause-exact
search-requires-clause-exact c = λ s t e. state_same s t e

pub returns-in-Path : goal.returns-in-Path
returns-in-Path c = tells c.args.task.now c.in_ok-rows.rows.task.now c.in_ok-rows.ensures.task c.args.budget c.args.most c.requires.most (Path c.in-Path.acts) (sym c.in-Path.is ∙ c.in_ok-acts.ensures.answer)

pub returns-in-Nowhere : goal.returns-in-Nowhere
returns-in-Nowhere c = tells c.args.task.now c.in_ok-rows.rows.task.now c.in_ok-rows.ensures.task c.args.budget c.args.most c.requires.most Nowhere (sym c.in-Nowhere.is ∙ c.in_ok-acts.ensures.answer)

pub returns : goal.returns
returns c = tells c.args.task.now c.in_ok-rows.rows.task.now c.in_ok-rows.ensures.task c.args.budget c.args.most c.requires.most (Spent c.in-Spent.depth) (sym c.in-Spent.is ∙ c.in_ok-acts.ensures.answer)

pub search-requires-clause-sound : goal.search-requires-clause-sound
search-requires-clause-sound c = c.in_ok-rows.ensures.store c.args.budget
