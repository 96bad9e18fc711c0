use Rattle.std.proofs.Common.{ℕ, List, sym, subst}
use Rattle.ps_levels.specs.Levels.{Begins}
use Rattle.ps_solve.specs.Stores.{IsStore, nodes_in, space_of}
use Rattle.ps_solve.specs.declared.rows.Row.{Row}
use Rattle.ps_solve.proofs.Storing.{begins, is_store}
use Rattle.ps_solve.proofs.store.Rows.new.Goals as goal

pub returns-clause-begin : goal.returns-clause-begin
returns-clause-begin c =
    let t = c.args.task.now in
    let P : List (Row × List ℕ) → Type 0 = λ rs. Begins (space_of t) 0 (nodes_in t rs) in
    subst P (sym c.in_ok-reached.ensures) (begins t c.in_ok-start.start c.in_ok-start.ensures.same)

pub returns-clause-store : goal.returns-clause-store
returns-clause-store c = λ most.
    let t = c.args.task.now in
    let P : List (Row × List ℕ) → Type 0 = IsStore t most 0 in
    subst P (sym c.in_ok-reached.ensures) (is_store t c.in_ok-start.start c.in_ok-start.ensures.same c.in_ok-start.ensures.wide most)
