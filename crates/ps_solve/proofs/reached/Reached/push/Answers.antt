use Rattle.std.proofs.Common.{◌≡◌, ◌++◌, ◌∷◌, [], ℕ, List, false, suc, length, refl, ap, sym, ◌∙◌, arith}
use Rattle.std.specs.List.{list_any, zip}
use Rattle.ps_levels.specs.Paths.{paths}
use Rattle.ps_solve.specs.Reached.{places_of, rows_of}
use Rattle.ps_solve.specs.Rows.{same_row}
use Rattle.ps_solve.specs.declared.rows.Row.{Row}
use Rattle.ps_solve.proofs.Reaching.{count, one_longer, pushed, rows_are}
use Rattle.ps_solve.proofs.SameRows.{goes_last}
use Rattle.ps_solve.proofs.reached.Reached.push.Goals as goal
use Rattle.ps_solve.proofs.reached.Reached.push.Goals.{in-Ok, in-Err}

pub push-requires : goal.push-requires
push-requires c =
    let many = count c.self.inside.rows.keys c.self.inside.trail c.self.invariant in
    let seen = ap (λ (l : List (Row × List ℕ)). length l) c.self.view_is in
    omega (arith, many, seen, c.requires.from)

pub invariant_of-self-in-Ok : goal.invariant_of-self-in-Ok
invariant_of-self-in-Ok c =
    let keys = c.self.inside.rows.keys in
    let trail = c.self.inside.trail in
    let row = c.args.row in
    let new : list_any (same_row row) keys ≡ false =
    ap (list_any (same_row row)) (sym (rows_are keys trail c.self.invariant))
    ∙ ap (λ (l : List (Row × List ℕ)). list_any (same_row row) (rows_of l)) c.self.view_is ∙ c.requires.new in
    ap (λ (l : List Row). length l) (c.in-Ok.ensures.keys ∙ goes_last row row keys refl refl new) ∙ one_longer keys row
    ∙ ap suc (c.self.invariant ∙ sym (ap (λ (l : List (ℕ × ℕ)). length l) c.in_ok-push.ensures.steps ∙ one_longer trail (c.args.from, c.args.action)))

pub returns : goal.returns
returns c =
    let keys = c.self.inside.rows.keys in
    let trail = c.self.inside.trail in
    let row = c.args.row in
    let new : list_any (same_row row) keys ≡ false =
    ap (list_any (same_row row)) (sym (rows_are keys trail c.self.invariant))
    ∙ ap (λ (l : List (Row × List ℕ)). list_any (same_row row) (rows_of l)) c.self.view_is ∙ c.requires.new in
    elim c.match-insert.branch [
      | in-Ok w ↦
          rw w.result-is (w.self-is
          ∙ ap (λ (l : List Row). zip l (paths c.push.new.self)) (w.in-Ok.ensures.keys ∙ goes_last row row keys refl refl new)
          ∙ pushed keys trail c.self.invariant row c.args.from c.args.action c.push.new.self c.in_ok-push.ensures.paths
          ∙ (λ j. c.self.view_is j ++ (row, places_of (c.self.view_is j) c.args.from ++ c.args.action ∷ []) ∷ []))
      | in-Err w ↦ rw w.result-is tt
    ]
