use Rattle.std.proofs.Common.{◌≡◌, ◌+◌, ◌++◌, ◌∷◌, [], List, drop, length, map, ap, sym, ◌∙◌, arith}
use Rattle.std.proofs.lemmas.List.{drop_all, drop_more}
use Rattle.ps_world.specs.declared.names.Name.{Name}
use Rattle.ps_ground.specs.Thinned.{IsUselessFrom}
use Rattle.ps_ground.proofs.Thinning.{goes_same}
use Rattle.ps_ground.proofs.acts.Listing.push_each.Goals as goal

pub loop-tail-preserved : goal.loop-tail-preserved
loop-tail-preserved c =
    let this = c.args.self.now in
    let P : List Name → Type 0 = IsUselessFrom this.expert.now this.fixed.now.heads.keys this.fixed.now.facts this.action (length c.args.before.now) in
    let items = c.args.tails.now in
    let i = c.loop-tail.tail-index in
    let x = c.tail-item.result in
    let longer : List Name → List Name = λ args. c.args.name ∷ args in
    let split : drop i items ≡ x ∷ drop (i + 1) items = drop_more items i x (omega arith) ∙ ap (λ (y : List Name). y ∷ drop (i + 1) items) (sym c.tail-item.is) in
    λ left whole on.
    let rest = map longer (drop (i + 1) items) ++ left in
    c.in_ok-push_one.ensures rest whole
    (goes_same P whole (map longer (drop i items) ++ left) (longer c.as_slice.result.now ∷ rest) c.loop-tail.kept.items
    (ap (λ (l : List (List Name)). map longer l ++ left) split ∙ ap (λ (l : List Name). longer l ∷ rest) (sym c.as_slice.ensures))
    (c.loop-tail.invariant left whole on))

pub returns : goal.returns
returns c =
    let this = c.args.self.now in
    let P : List Name → Type 0 = IsUselessFrom this.expert.now this.fixed.now.heads.keys this.fixed.now.facts this.action (length c.args.before.now) in
    let items = c.args.tails.now in
    let i = c.loop-tail.tail-index in
    let gone : drop i items ≡ [] = drop_all i items (omega arith) in
    λ left whole on.
    goes_same P whole (map (λ args. c.args.name ∷ args) (drop i items) ++ left) left c.loop-tail.kept.items
    (ap (λ (l : List (List Name)). map (λ args. c.args.name ∷ args) l ++ left) gone)
    (c.loop-tail.invariant left whole on)
