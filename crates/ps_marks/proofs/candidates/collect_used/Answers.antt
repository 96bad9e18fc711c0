use Rattle.std.proofs.Common.{[], Bool, cond, subst, sym}
use Rattle.ps_marks.specs.Atoms.{can_make}
use Rattle.ps_marks.specs.Candidates.{Collects}
use Rattle.ps_marks.proofs.Collected.{collects_none}
use Rattle.ps_marks.proofs.candidates.collect_used.Goals as goal

pub returns-then-not-used : goal.returns-then-not-used
returns-then-not-used c =
    let k = c.args.problem.now in
    let found = c.args.found.now.keys in
    let P : Bool → Type 0 = λ b. Collects k (cond b (can_make c.args.expert.now k c.args.action.now) []) found found in
    subst P (sym c.if-not-used.true) (collects_none k found)
