use Rattle.std.proofs.Common.{ℕ, List, length, ap, sym, ◌∙◌, arith}
use Rattle.std.specs.Prelude.{slice_get}
use Rattle.ps_solve.specs.Reached.{rows_of}
use Rattle.ps_solve.specs.declared.rows.Row.{Row}
use Rattle.ps_solve.proofs.Reaching.{count, is_past, rows_are}
use Rattle.ps_solve.proofs.reached.Reached.row.Goals as goal

pub unreachable-requires : goal.unreachable-requires
unreachable-requires c =
    let keys = c.self.inside.rows.keys in
    let past = is_past c.args.place keys (sym c.in-None.ensures.key) in
    let many = count keys c.self.inside.trail c.self.invariant in
    let seen = ap (λ (l : List (Row × List ℕ)). length l) c.self.view_is in
    omega (arith, past, many, seen, c.self.invariant, c.requires)

pub returns : goal.returns
returns c =
    let keys = c.self.inside.rows.keys in
    sym (c.in-Some.ensures.key
    ∙ ap (λ l. slice_get l c.args.place) (sym (rows_are keys c.self.inside.trail c.self.invariant))
    ∙ ap (λ (l : List (Row × List ℕ)). slice_get (rows_of l) c.args.place) c.self.view_is)
