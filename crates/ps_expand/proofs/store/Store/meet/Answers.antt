use Rattle.std.proofs.Common.{◌≡◌, ap, sym, ◌∙◌, subst}
use Rattle.ps_world.specs.declared.known.Knowledge.{Knowledge}
use Rattle.ps_problem.specs.Patches.{changed}
use Rattle.ps_expand.specs.Differences.{IsBeside, Rise, difference}
use Rattle.ps_expand.specs.Reached.{with_difference}
use Rattle.ps_expand.proofs.Differing.{leads_back}
use Rattle.ps_expand.proofs.Leading.{rise_after}
use Rattle.ps_expand.proofs.store.Store.meet.Goals as goal

pub keep-requires-clause-led : goal.keep-requires-clause-led
keep-requires-clause-led g c =
    let at = c.requires.at in
    record { from = c.args.self.now.here; start = at.start; rise = at.rise; is = at.is; leads = c.in_ok-patch.ensures.ok }

pub returns-clause-kept : goal.returns-clause-kept
returns-clause-kept g c = λ e.
    let k = c.args.self.now.start.now in
    let h = c.args.self.now.here in
    let l = c.patch.new.self in
    let at = c.requires.at in
    let beside : IsBeside k l = subst (IsBeside k) (sym c.in_ok-patch.ensures.ok) c.requires.beside in
    let rise : Rise l = subst Rise (sym c.in_ok-patch.ensures.ok) (rise_after h c.args.child.now.change at.rise) in
    let returned : c.patch-2.new.self ≡ k =
    c.in_ok-patch-2.ensures.ok
    ∙ (λ i. changed (c.keep.ensures.here i) ((c.deref.ensures ∙ c.in_ok-back.ensures.back) i))
    ∙ leads_back k l at.start rise beside in
    record {
      back = c.in_ok-patch-3.ensures.ok ∙ (λ i. changed (returned i) (c.deref-2.ensures i)) ∙ at.leads;
      met =
          c.in_ok-back.ensures.reached
          ∙ ap (λ (m : Knowledge). with_difference c.args.most c.args.self.now.reached (difference k m) c.args.from c.args.child.now.act) c.in_ok-patch.ensures.ok;
    }
