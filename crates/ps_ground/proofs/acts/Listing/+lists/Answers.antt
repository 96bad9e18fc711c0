use Rattle.std.proofs.Common.{◌≡◌, ◌+◌, ◌++◌, ◌∷◌, [], List, drop, get_or, length, map, refl, ap, sym, ◌∙◌, arith, subst}
use Rattle.std.specs.List.{flat_map}
use Rattle.std.proofs.lemmas.List.{drop_all, drop_more, length_push}
use Rattle.ps_world.specs.Names.{object}
use Rattle.ps_world.specs.declared.names.Name.{Name}
use Rattle.ps_action.specs.Grounding.{picks}
use Rattle.ps_ground.specs.Thinned.{IsThinned, IsUselessFrom}
use Rattle.ps_ground.proofs.Thinning.{goes_same, gone_on, thin_picked, thin_through, useless_longer}
use Rattle.ps_ground.proofs.acts.Listing.+lists.Goals as goal

pub loop-name-init : goal.loop-name-init
loop-name-init t c =
    let this = c.args.self.now in
    let d = this.expert.now in
    let heads = this.fixed.now.heads.keys in
    let fixed = this.fixed.now.facts in
    let before = length c.args.before.now in
    let P : List Name → Type 0 = IsUselessFrom d heads fixed this.action before in
    let Q : List Name → Type 0 = IsUselessFrom d heads fixed this.action (before + 1) in
    let tails = c.in_ok-tails.tails.items in
    let lists = picks c.in-Some.rest.now in
    let names = c.as_slice-name-items.result.now in
    let longer : length c.as_slice.result.now ≡ before + 1 = ap (λ (l : List Name). length l) (c.as_slice.ensures.value ∙ c.in_ok-longer.ensures) ∙ length_push c.args.before.now object in
    let thinned : IsThinned Q tails lists = subst (λ n. IsThinned (IsUselessFrom d heads fixed this.action n) tails lists) longer c.in_ok-tails.ensures in
    let whole : flat_map (λ n. map (λ args. n ∷ args) lists) names ≡ picks c.args.choices.now = rw (c.as_slice-name-items.ensures, c.in-Some.ensures.cases.0) refl in
    λ ks left.
    subst (λ (l : List (List Name)). IsThinned P (l ++ ks) (picks c.args.choices.now)) (sym c.new-kept.ensures.items)
    (subst (λ (l : List (List Name)). IsThinned P ks l) whole
    (thin_through P ks (flat_map (λ n. map (λ args. n ∷ args) tails) names) (flat_map (λ n. map (λ args. n ∷ args) lists) names) left
    (thin_picked P Q (λ n args. useless_longer d heads fixed this.action before n args) names tails lists thinned)))

pub loop-name-preserved : goal.loop-name-preserved
loop-name-preserved t c =
    let this = c.args.self.now in
    let P : List Name → Type 0 = IsUselessFrom this.expert.now this.fixed.now.heads.keys this.fixed.now.facts this.action (length c.args.before.now) in
    let items = c.as_slice-name-items.result.now in
    let i = c.loop-name.name-index in
    let none : Name = record { 0 = 0 } in
    let F : Name → List (List Name) = λ n. map (λ args. n ∷ args) c.in_ok-tails.tails.items in
    let rest = flat_map F (drop (i + 1) items) in
    let split : flat_map F (drop i items) ≡ map (λ args. get_or items i none ∷ args) c.as_slice-in-loop-name.result.now ++ rest =
    ap (λ (l : List Name). flat_map F l) (drop_more items i none c.loop-name-test.true) ∙ ap (λ (l : List (List Name)). map (λ args. get_or items i none ∷ args) l ++ rest) (sym c.as_slice-in-loop-name.ensures.value) in
    c.in_ok-push_each.ensures rest (picks c.args.choices.now) (goes_same P (picks c.args.choices.now) (flat_map F (drop i items)) _ c.loop-name.kept.items split c.loop-name.invariant)

pub returns : goal.returns
returns t c =
    let this = c.args.self.now in
    let P : List Name → Type 0 = IsUselessFrom this.expert.now this.fixed.now.heads.keys this.fixed.now.facts this.action (length c.args.before.now) in
    let items = c.as_slice-name-items.result.now in
    let i = c.loop-name.name-index in
    let F : Name → List (List Name) = λ n. map (λ args. n ∷ args) c.in_ok-tails.tails.items in
    let gone : drop i items ≡ [] = drop_all i items (omega arith) in
    gone_on P (picks c.args.choices.now) (flat_map F (drop i items)) c.loop-name.kept.items (ap (λ (l : List Name). flat_map F l) gone) c.loop-name.invariant
