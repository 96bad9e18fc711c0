use Rattle.std.proofs.Common.{◌≡◌, ◌++◌, ◌∷◌, [], List, drop, length, refl, ap, ◌∙◌}
use Rattle.std.proofs.lemmas.List.{drop_at}
use Rattle.ps_world.specs.declared.names.Name.{Name}
use Rattle.ps_ground.specs.Thinned.{IsUselessFrom}
use Rattle.ps_ground.proofs.Thinning.{goes_pushed, thin_left}
use Rattle.ps_ground.proofs.acts.Listing.push_one.Goals as goal

pub returns-then-is_useless : goal.returns-then-is_useless
returns-then-is_useless c =
    let this = c.args.self.now in
    let P : List Name → Type 0 = IsUselessFrom this.expert.now this.fixed.now.heads.keys this.fixed.now.facts this.action (length c.args.before.now) in
    let args = c.args.name ∷ c.args.tail.now in
    let useless : P args = c.is_useless.ensures.useless c.if-is_useless.true args (c.as_slice.ensures.value ∙ c.in_ok-lay_out.ensures) in
    λ left whole on ks t. on ks (thin_left P ks left args useless t)

pub returns-in-Some : goal.returns-in-Some
returns-in-Some c =
    let this = c.args.self.now in
    let P : List Name → Type 0 = IsUselessFrom this.expert.now this.fixed.now.heads.keys this.fixed.now.facts this.action (length c.args.before.now) in
    let args = c.args.name ∷ c.args.tail.now in
    let done = c.args.kept.now.items in
    let made : c.in-Some.list ≡ args = rw c.in-Some.is at c.longer.ensures in
    let more : c.push.new.self.items ≡ done ++ args ∷ [] = c.in_ok-push.ensures.items ∙ ap (λ (l : List Name). done ++ l ∷ []) made in
    λ left whole on. goes_pushed P whole args left done c.push.new.self.items more on

pub returns : goal.returns
returns c =
    let this = c.args.self.now in
    let P : List Name → Type 0 = IsUselessFrom this.expert.now this.fixed.now.heads.keys this.fixed.now.facts this.action (length c.args.before.now) in
    let args = c.args.name ∷ c.args.tail.now in
    let done = c.args.kept.now.items in
    let made : c.in-Some-of.list ≡ args = (rw c.in-Some-of.is at c.of.ensures).1 ∙ c.split_at.ensures.back ∙ ap (drop (length c.args.before.now)) (c.as_slice-2.ensures.value ∙ c.in_ok-lay_out.ensures) ∙ drop_at c.args.before.now args (length c.args.before.now) refl in
    let more : c.push-2.new.self.items ≡ done ++ args ∷ [] = c.in_ok-push-2.ensures.items ∙ ap (λ (l : List Name). done ++ l ∷ []) made in
    λ left whole on. goes_pushed P whole args left done c.push-2.new.self.items more on
