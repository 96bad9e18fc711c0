use Rattle.std.proofs.Common.{◌≡◌, ◌+◌, ◌++◌, ◌∷◌, [], List, is_some, drop, length, map, ap, sym, ◌∙◌, subst, arith, length-append}
use Rattle.std.specs.List.{flat_map}
use Rattle.std.proofs.lemmas.List.{drop_all, drop_more, length-map}
use Rattle.ps_world.specs.declared.actions.ActionDef.{ActionDef}
use Rattle.ps_world.specs.declared.domains.Domain.{Domain}
use Rattle.ps_action.specs.Grounding.{all_ground}
use Rattle.ps_action.specs.declared.acts.Act.{Act}
use Rattle.ps_action.specs.declared.acts.GroundAction.{GroundAction}
use Rattle.ps_ground.specs.Acts.{acts_with}
use Rattle.ps_ground.specs.Thinned.{IsThinned, IsUseless}
use Rattle.ps_ground.proofs.Listing.{acts_are}
use Rattle.ps_ground.proofs.Thinning.{goes_same, gone_on}
use Rattle.ps_ground.proofs.acts.all_acts.Goals as goal

pub loop-action-init : goal.loop-action-init
loop-action-init c =
    let d = c.args.expert.now in
    let sorted = c.as_slice-sorted.result.now in
    let all = all_ground d c.args.instances.now in
    let P : Act → Type 0 = IsUseless d c.args.fixed.now.heads.keys c.args.fixed.now.facts in
    let here : c.as_slice-action-items.result.now ≡ d.actions = c.as_slice-action-items.ensures ∙ ap (λ (e : Domain). e.actions) c.domain.ensures in
    let whole : flat_map (acts_with d sorted) c.as_slice-action-items.result.now ≡ map (λ (g : GroundAction). g.act) all =
    ap (λ (l : List ActionDef). flat_map (acts_with d sorted) l) here ∙ acts_are d sorted c.args.instances.now (c.as_slice-sorted.ensures.value ∙ c.in_ok-sorted.ensures) in
    record {
      few = omega arith;
      count = omega (arith, ap (λ (l : List Act). length l) whole, length-map all (λ (g : GroundAction). g.act));
      thinned = λ ks left.
          subst (λ (l : List Act). IsThinned P (l ++ ks) (map (λ (g : GroundAction). g.act) all)) (sym c.new-all.ensures.items) (subst (λ (l : List Act). IsThinned P ks l) whole left);
    }

pub loop-action-preserved : goal.loop-action-preserved
loop-action-preserved c =
    let d = c.args.expert.now in
    let acts : ActionDef → List Act = acts_with d c.as_slice-sorted.result.now in
    let P : Act → Type 0 = IsUseless d c.args.fixed.now.heads.keys c.args.fixed.now.facts in
    let whole = map (λ (g : GroundAction). g.act) (all_ground d c.args.instances.now) in
    let items = c.as_slice-action-items.result.now in
    let i = c.loop-action.action-index in
    let a = c.action-item.result in
    let rest = flat_map acts (drop (i + 1) items) in
    let split : flat_map acts (drop i items) ≡ acts a ++ rest =
    ap (λ (l : List ActionDef). flat_map acts l) (drop_more items i a (omega arith) ∙ ap (λ (x : ActionDef). x ∷ drop (i + 1) items) (sym c.action-item.is)) in
    let sum = rw c.in-Some.is at c.in_ok-sum.ensures.count in
    record {
      few = sum.0;
      count = omega (arith, sum.1, ap (λ (l : List Act). length l) split, length-append (acts a) rest, c.loop-action.invariant.count);
      thinned = c.in_ok-sum.ensures.thinned (ap is_some c.in-Some.is) rest whole (goes_same P whole (flat_map acts (drop i items)) (acts a ++ rest) c.loop-action.all.items split c.loop-action.invariant.thinned);
    }

pub returns-in_default : goal.returns-in_default
returns-in_default c =
    let d = c.args.expert.now in
    let acts : ActionDef → List Act = acts_with d c.as_slice-sorted.result.now in
    let items = c.as_slice-action-items.result.now in
    let i = c.loop-action.action-index in
    let a = c.action-item.result in
    let rest = flat_map acts (drop (i + 1) items) in
    let split : flat_map acts (drop i items) ≡ acts a ++ rest =
    ap (λ (l : List ActionDef). flat_map acts l) (drop_more items i a (omega arith) ∙ ap (λ (x : ActionDef). x ∷ drop (i + 1) items) (sym c.action-item.is)) in
    let many = rw c.in_default.is at c.in_ok-sum.ensures.count in
    omega (arith, many, ap (λ (l : List Act). length l) split, length-append (acts a) rest, c.loop-action.invariant.count)

pub returns : goal.returns
returns c =
    let d = c.args.expert.now in
    let acts : ActionDef → List Act = acts_with d c.as_slice-sorted.result.now in
    let P : Act → Type 0 = IsUseless d c.args.fixed.now.heads.keys c.args.fixed.now.facts in
    let whole = map (λ (g : GroundAction). g.act) (all_ground d c.args.instances.now) in
    let items = c.as_slice-action-items.result.now in
    let i = c.loop-action.action-index in
    let gone : flat_map acts (drop i items) ≡ [] = ap (λ (l : List ActionDef). flat_map acts l) (drop_all i items (omega arith)) in (
      gone_on P whole (flat_map acts (drop i items)) c.loop-action.all.items gone c.loop-action.invariant.thinned,
      omega (arith, ap (λ (l : List Act). length l) gone, c.loop-action.invariant.count, c.loop-action.invariant.few),
    )
