use Rattle.std.proofs.Common.{List, subst, arith}
use Rattle.std.proofs.lemmas.List.{take_all}
use Rattle.ps_marks.specs.Making.{facts_made, made_by}
use Rattle.ps_marks.specs.Rules.{TakesPlaces}
use Rattle.ps_marks.specs.declared.making.Made.{Made}
use Rattle.ps_marks.proofs.Placed.{takes_add, takes_none}
use Rattle.ps_marks.proofs.rules.give_all.Goals as goal

pub loop-add-init : goal.loop-add-init
loop-add-init c = takes_none c.args.places.now c.args.gives.now.items

pub loop-add-preserved : goal.loop-add-preserved
loop-add-preserved c =
    let d = c.args.expert.now in
    let k = c.args.problem.now in
    let atoms = c.args.places.now in
    let x = c.add-item.result in
    let P : Made → Type 0 = λ m. TakesPlaces atoms (facts_made d k m) c.loop-add.gives.items c.give.new.gives.items in
    takes_add d k atoms c.args.adds.now c.loop-add.add-index x c.args.gives.now.items c.loop-add.gives.items c.give.new.gives.items c.loop-add-test.true c.loop-add.invariant (subst P c.add-item.is c.in_ok-give.ensures)

pub returns : goal.returns
returns c =
    let P : List Made → Type 0 = λ ms. TakesPlaces c.args.places.now (made_by c.args.expert.now c.args.problem.now ms) c.args.gives.now.items c.loop-add.gives.items in
    subst P (take_all c.loop-add.add-index c.args.adds.now (omega (arith, c.loop-add-test.false))) c.loop-add.invariant
