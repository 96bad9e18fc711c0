use Rattle.std.proofs.Common.{IfSome, refl, subst}
use Rattle.std.specs.BTreeSet.{insert_key}
use Rattle.std.proofs.lemmas.Result.{on_ok_weaker}
use Rattle.ps_world.specs.Facts.{fact_cmp}
use Rattle.ps_problem.specs.Namings.{AreNamed}
use Rattle.ps_problem.proofs.Namings.{more_named}
use Rattle.ps_problem.proofs.problem.namings.note_where_taken.Goals as goal

pub returns-in-Some-clause-more : goal.returns-in-Some-clause-more
returns-in-Some-clause-more c =
    on_ok_weaker c.note.result
    (λ noted facts named.
    more_named facts (insert_key fact_cmp facts c.args.fact.now) c.in-Some.namings.keys c.note.new.namings.keys c.args.fact.now refl
    (subst (λ taken. IfSome taken (λ s. AreNamed facts s.keys)) c.in-Some.is named)
    c.note.ensures.kept c.note.ensures.sound noted)
    c.note.ensures.noted
