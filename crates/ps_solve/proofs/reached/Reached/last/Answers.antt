use Rattle.std.proofs.Common.{ℕ, List, None, length, ap, sym, ◌∙◌, arith}
use Rattle.std.specs.List.{last_or}
use Rattle.ps_solve.specs.Reached.{places_of}
use Rattle.ps_solve.specs.declared.rows.Row.{Row}
use Rattle.ps_solve.proofs.Reaching.{count, places_are}
use Rattle.ps_solve.proofs.reached.Reached.last.Goals as goal

pub last-requires : goal.last-requires
last-requires c =
    let many = count c.self.inside.rows.keys c.self.inside.trail c.self.invariant in
    let seen = ap (λ (l : List (Row × List ℕ)). length l) c.self.view_is in
    omega (arith, many, seen, c.requires)

pub returns : goal.returns
returns c =
    c.last.ensures
    ∙ ap (last_or None) (sym (places_are c.self.inside.rows.keys c.self.inside.trail c.self.invariant c.args.place)
    ∙ ap (λ (l : List (Row × List ℕ)). places_of l c.args.place) c.self.view_is)
