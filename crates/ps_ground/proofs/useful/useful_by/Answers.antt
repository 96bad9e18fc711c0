use Rattle.std.proofs.Common.{◌≡◌, ◌≤◌, List, flat_map, length, map, refl, ap, sym, ◌∙◌, subst, arith}
use Rattle.ps_world.specs.declared.names.Name.{Name}
use Rattle.ps_action.specs.Grounding.{all_ground, most_ground}
use Rattle.ps_action.specs.Search.{possible_acts}
use Rattle.ps_action.specs.declared.acts.Act.{Act}
use Rattle.ps_action.specs.declared.acts.GroundAction.{GroundAction}
use Rattle.ps_ground.specs.Atoms.{AreAtoms, adds}
use Rattle.ps_ground.specs.Fitting.{grounds_of}
use Rattle.ps_ground.specs.Moves.{moves}
use Rattle.ps_ground.specs.Thinned.{IsThinned, IsUseless}
use Rattle.ps_ground.proofs.Chosen.{fit_left}
use Rattle.ps_ground.proofs.KeptActs.{are_useful}
use Rattle.ps_ground.proofs.useful.useful_by.Goals as goal

pub returns-then-stand_once : goal.returns-then-stand_once
returns-then-stand_once c =
    let d = c.args.expert.now in
    let k = c.args.problem.now in
    let heads = c.args.fixed.now.heads.keys in
    let fixed = c.args.fixed.now.facts in
    let useless : Act → Type 0 = IsUseless d heads fixed in
    let acts = c.in-Some.acts.items in
    let P : List (Name × Name) → Type 0 = λ is. IsThinned useless acts (map (λ (g : GroundAction). g.act) (all_ground d is)) × (length (all_ground d is) ≤ most_ground) in
    let here = subst P c.requires.instances (rw c.in-Some.is at c.in_ok-acts.ensures) in
    let fit = fit_left d k useless acts (possible_acts d k) here.0 (c.stand_once.ensures c.if-stand_once.true k (sym c.requires.instances)) in
    are_useful d k heads fixed c.requires.fixed acts here.0 here.1 acts (omega arith) fit (λ f gone. gone) (λ n. refl)

pub returns : goal.returns
returns c =
    let d = c.args.expert.now in
    let k = c.args.problem.now in
    let heads = c.args.fixed.now.heads.keys in
    let fixed = c.args.fixed.now.facts in
    let useless : Act → Type 0 = IsUseless d heads fixed in
    let acts = c.in-Some.acts.items in
    let P : List (Name × Name) → Type 0 = λ is. IsThinned useless acts (map (λ (g : GroundAction). g.act) (all_ground d is)) × (length (all_ground d is) ≤ most_ground) in
    let here = subst P c.requires.instances (rw c.in-Some.is at c.in_ok-acts.ensures) in
    let made = c.in_ok-useful in
    let same : c.as_slice.result.now ≡ acts = c.as_slice.ensures.value in
    let Q : List Act → Type 0 = λ l. AreAtoms (flat_map (adds d k) (grounds_of d k l)) (flat_map (adds d k) (grounds_of d k made.useful.items)) in
    are_useful d k heads fixed c.requires.fixed acts here.0 here.1 made.useful.items (omega (arith, made.ensures.count, ap length same)) made.ensures.fit (subst Q same made.ensures.adds)
    (λ n. made.ensures.moves n ∙ ap (λ (l : List Act). moves d k (grounds_of d k l) n) same)
