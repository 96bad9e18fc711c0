use Rattle.std.proofs.Common.{◌≡◌, ◌+◌, ◌-◌, ◌<◌, [], ℕ, None, length, slice_index_or, ap, sym, ◌∙◌, arith}
use Rattle.std.specs.List.{last_or}
use Rattle.ps_levels.specs.Paths.{paths}
use Rattle.ps_levels.proofs.Walks.{any_default, begins, last-push, step_back}
use Rattle.ps_levels.proofs.trail.Trail.last.Goals as goal

pub returns-then-place-eq0 : goal.returns-then-place-eq0
returns-then-place-eq0 c =
    sym (ap (λ i. last_or None (slice_index_or (paths c.args.self.now) i [])) c.if-place-eq0.true ∙ ap (last_or None) (begins c.args.self.now))

pub returns : goal.returns
returns c =
    let steps = c.self.inside.steps.items in
    let s : ℕ × ℕ = c.index.result.now in
    let i = c.args.place - 1 in
    let within : i < length steps = omega (arith, c.requires, c.if-place-eq0.false, ap length c.self.view_is) in
    let is = any_default steps i (0, 0) s within ∙ sym c.index.ensures in
    let next : c.args.place ≡ i + 1 = omega (arith, c.if-place-eq0.false) in
    let back = step_back steps c.args.place i s c.self.invariant within next is in
    sym (ap (λ l. last_or None (slice_index_or (paths l) c.args.place [])) (sym c.self.view_is)
    ∙ ap (last_or None) back ∙ last-push None (slice_index_or (paths steps) s.0 []) s.1)
