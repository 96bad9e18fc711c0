use Rattle.std.proofs.Common.{◌≡◌, ◌++◌, [], List, map, refl, ap, sym, ◌∙◌, subst}
use Rattle.ps_world.specs.declared.names.Name.{Name}
use Rattle.ps_action.specs.Grounding.{picks}
use Rattle.ps_action.specs.declared.acts.Act.{Act}
use Rattle.ps_ground.specs.Acts.{act_with}
use Rattle.ps_ground.specs.Thinned.{GoesOn, IsUseless, IsUselessFrom}
use Rattle.ps_ground.proofs.Listing.{none_listed}
use Rattle.ps_ground.proofs.Thinning.{goes_on, goes_same, thin_map}
use Rattle.ps_ground.proofs.acts.push_counted.Goals as goal

pub returns-then-count-eq0 : goal.returns-then-count-eq0
returns-then-count-eq0 c =
    let P : Act → Type 0 = IsUseless c.args.expert.now c.args.fixed.now.heads.keys c.args.fixed.now.facts in
    let a = c.args.action.now in
    let lists = picks c.args.choices.now in
    let none : map (act_with a) lists ≡ [] = none_listed a c.args.choices.now (sym c.if-count-eq0.true ∙ c.requires) in
    λ left whole on. goes_same P whole (map (act_with a) lists ++ left) left c.args.all.now.items (ap (λ (l : List Act). l ++ left) none) on

pub returns : goal.returns
returns c =
    let d = c.args.expert.now in
    let heads = c.args.fixed.now.heads.keys in
    let fixed = c.args.fixed.now.facts in
    let a = c.args.action.now in
    let P : Act → Type 0 = IsUseless d heads fixed in
    let Q : List Name → Type 0 = IsUselessFrom d heads fixed a.name 0 in
    let kept = c.in_ok-lists.lists.items in
    let lists = picks c.args.choices.now in
    let done = c.args.all.now.items in
    let more : c.push_with.new.all.items ≡ done ++ map (act_with a) kept = c.in_ok-push_with.ensures ∙ ap (λ (l : List (List Name)). done ++ map (act_with a) l) c.as_slice.ensures.value in
    λ left whole on.
    subst (λ (l : List Act). GoesOn P left whole l) (sym more)
    (goes_on P whole left (map (act_with a) kept) (map (act_with a) lists) done (thin_map P Q (act_with a) (λ args useless. useless [] refl) kept lists c.in_ok-lists.ensures) on)
