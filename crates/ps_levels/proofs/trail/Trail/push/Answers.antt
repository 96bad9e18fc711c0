use Rattle.std.proofs.Common.{◌++◌, ◌∷◌, [], ℕ, List, slice_index_or, ap, ◌∙◌}
use Rattle.ps_levels.specs.Paths.{paths}
use Rattle.ps_levels.proofs.Walks.{after-push}
use Rattle.ps_levels.proofs.trail.Trail.push.Goals as goal

pub returns-clause-paths : goal.returns-clause-paths
returns-clause-paths c =
    let s : ℕ × ℕ = (c.args.from, c.args.act) in
    let more : List (ℕ × ℕ) → List (List ℕ) = λ steps. paths steps ++ (slice_index_or (paths steps) c.args.from [] ++ c.args.act ∷ []) ∷ [] in
    ap paths c.in_ok-push.ensures.items ∙ after-push ([] ∷ []) c.self.inside.steps.items s ∙ ap more c.self.view_is
