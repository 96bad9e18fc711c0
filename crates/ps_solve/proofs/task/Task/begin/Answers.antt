use Rattle.std.proofs.Common.{ℕ, List, ap, sym, subst, ◌∙◌}
use Rattle.ps_solve.specs.Reached.{rows_of}
use Rattle.ps_solve.specs.Rows.{AreWide}
use Rattle.ps_solve.specs.Stores.{nodes_in}
use Rattle.ps_solve.specs.declared.rows.Row.{Row}
use Rattle.ps_solve.proofs.Storing.{begins}
use Rattle.ps_solve.proofs.task.Task.begin.Goals as goal

pub returns-clause-nodes : goal.returns-clause-nodes
returns-clause-nodes c =
    let t = c.args.self.now in
    ap (nodes_in t) c.in_ok-reached.ensures ∙ (begins t c.in_ok-start.start c.in_ok-start.ensures.same).root

pub returns-clause-wide : goal.returns-clause-wide
returns-clause-wide c =
    let P : List (Row × List ℕ) → Type 0 = λ rs. AreWide c.args.self.now.grounds.atoms (rows_of rs) in
    subst P (sym c.in_ok-reached.ensures) (c.in_ok-start.ensures.wide, tt)
