use Rattle.std.proofs.Common.{ℕ, List, ap, sym, ◌∙◌}
use Rattle.std.specs.List.{list_any}
use Rattle.ps_solve.specs.Reached.{rows_of}
use Rattle.ps_solve.specs.Rows.{same_row}
use Rattle.ps_solve.specs.declared.rows.Row.{Row}
use Rattle.ps_solve.proofs.Reaching.{rows_are}
use Rattle.ps_solve.proofs.reached.Reached.contains.Goals as goal

pub returns : goal.returns
returns c =
    let keys = c.self.inside.rows.keys in
    c.contains.ensures
    ∙ ap (list_any (same_row c.args.row.now)) (sym (rows_are keys c.self.inside.trail c.self.invariant))
    ∙ ap (λ (l : List (Row × List ℕ)). list_any (same_row c.args.row.now) (rows_of l)) c.self.view_is
