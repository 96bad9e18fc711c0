use Rattle.std.proofs.Common.{◌≡◌, ap, ◌∙◌}
use Rattle.ps_problem.specs.Patches.{changed}
use Rattle.ps_expand.specs.Differences.{back, forth}
use Rattle.ps_expand.specs.declared.differences.Difference.{Difference}
use Rattle.ps_expand.proofs.Differing.{leads_back}
use Rattle.ps_expand.proofs.store.Store.go_on.Goals as goal

pub returns-clause-here : goal.returns-clause-here
returns-clause-here c = λ x e.
    let k = c.args.self.now.start.now in
    let h = c.args.self.now.here in
    let at = c.requires in
    let there = c.in-Some.ensures ∙ e in
    let same : c.in-Some.difference.now ≡ x = cc in
    let start : c.patch.new.self ≡ k =
    c.in_ok-patch.ensures.ok ∙ ap (changed h) (c.deref.ensures ∙ c.in_ok-back.ensures ∙ ap back at.is) ∙ leads_back k h at.start at.rise at.beside in
    c.in_ok-patch-2.ensures.ok
    ∙ (λ i. changed (start i) ((c.deref-2.ensures ∙ c.in_ok-forth.ensures) i))
    ∙ ap (λ (y : Difference). changed k (forth y)) same
