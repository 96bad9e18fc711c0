use Rattle.std.proofs.Common.{◌≡◌, ◌<◌, ◌++◌, ◌∷◌, ◌+◌, ◌-◌, [], ℕ, List, length, reverse, slice_index_or, ap, sym, ◌∙◌, arith, append_assoc}
use Rattle.std.proofs.lemmas.List.{reverse-append}
use Rattle.ps_levels.specs.Paths.{paths}
use Rattle.ps_levels.proofs.Walks.{any_default, begins, step_back}
use Rattle.ps_levels.proofs.trail.Trail.path.Goals as goal

pub loop-at-preserved : goal.loop-at-preserved
loop-at-preserved c =
    let steps = c.self.inside.steps.items in
    let now = c.args.self.now in
    let s : ℕ × ℕ = c.index.result.now in
    let i = c.loop-at.at - 1 in
    let inv = c.loop-at.invariant in
    let view = c.self.view_is in
    let within : i < length steps = omega (arith, inv.there, c.loop-at-test.true, ap length view) in
    let is : slice_index_or steps i (0, 0) ≡ s = any_default steps i (0, 0) s within ∙ sym c.index.ensures in
    let low = c.self.invariant i within in
    let next : c.loop-at.at ≡ i + 1 = omega (arith, c.loop-at-test.true) in
    let back = step_back steps c.loop-at.at i s c.self.invariant within next is in
    let to : ℕ → List ℕ = λ j. slice_index_or (paths now) j [] in
    let led : to c.loop-at.at ≡ to s.0 ++ s.1 ∷ [] =
    ap (λ l. slice_index_or (paths l) c.loop-at.at []) (sym view) ∙ back ∙ ap (λ l. slice_index_or (paths l) s.0 [] ++ s.1 ∷ []) view in
    record {
      there = omega (arith, low, ap (λ (p : ℕ × ℕ). p.0) is, within, ap length view);
      same =
          ap (λ l. to s.0 ++ reverse l) c.in_ok-push.ensures.items
          ∙ ap (λ l. to s.0 ++ l) (reverse-append c.loop-at.path.items (s.1 ∷ []))
          ∙ sym (append_assoc (to s.0) (s.1 ∷ []) (reverse c.loop-at.path.items))
          ∙ ap (λ l. l ++ reverse c.loop-at.path.items) (sym led) ∙ inv.same;
    }

pub returns : goal.returns
returns c =
    let steps = c.args.self.now in
    let here : c.loop-at.at ≡ 0 = omega (arith, c.loop-at-test.false) in
    let empty : slice_index_or (paths steps) c.loop-at.at [] ≡ [] = ap (λ i. slice_index_or (paths steps) i []) here ∙ begins steps in
    c.reverse.ensures.items ∙ sym (ap (λ l. l ++ reverse c.loop-at.path.items) empty) ∙ c.loop-at.invariant.same
