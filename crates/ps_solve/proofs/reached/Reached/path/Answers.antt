use Rattle.std.proofs.Common.{◌≡◌, ℕ, Global, List, Vec, [], length, slice_index_or, ap, sym, ◌∙◌, arith}
use Rattle.std.proofs.lemmas.Result.{IfOk-weaker}
use Rattle.ps_levels.specs.Paths.{paths}
use Rattle.ps_solve.specs.Reached.{places_of}
use Rattle.ps_solve.specs.declared.rows.Row.{Row}
use Rattle.ps_solve.proofs.Reaching.{count, places_are}
use Rattle.ps_solve.proofs.reached.Reached.path.Goals as goal

pub path-requires : goal.path-requires
path-requires c =
    let many = count c.self.inside.rows.keys c.self.inside.trail c.self.invariant in
    let seen = ap (λ (l : List (Row × List ℕ)). length l) c.self.view_is in
    omega (arith, many, seen, c.requires)

pub returns : goal.returns
returns c =
    let there = places_are c.self.inside.rows.keys c.self.inside.trail c.self.invariant c.args.place in
    let seen = ap (λ (l : List (Row × List ℕ)). places_of l c.args.place) c.self.view_is in
    let Before : Vec ℕ Global → Type 0 = λ p. p.items ≡ slice_index_or (paths c.self.inside.trail) c.args.place [] in
    let After : Vec ℕ Global → Type 0 = λ p. p.items ≡ places_of c.args.self.now c.args.place in
    IfOk-weaker c.path.result Before After (λ p e. e ∙ sym there ∙ seen) c.path.ensures
