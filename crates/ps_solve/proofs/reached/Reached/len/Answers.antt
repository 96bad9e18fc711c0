use Rattle.std.proofs.Common.{ℕ, List, length, ap, sym, ◌∙◌}
use Rattle.ps_solve.specs.declared.rows.Row.{Row}
use Rattle.ps_solve.proofs.Reaching.{count}
use Rattle.ps_solve.proofs.reached.Reached.len.Goals as goal

pub returns : goal.returns
returns c =
    let keys = c.self.inside.rows.keys in
    c.len.ensures.len ∙ c.self.invariant ∙ sym (count keys c.self.inside.trail c.self.invariant)
    ∙ ap (λ (l : List (Row × List ℕ)). length l) c.self.view_is
