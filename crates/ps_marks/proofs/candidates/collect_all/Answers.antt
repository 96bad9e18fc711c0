use Rattle.std.proofs.Common.{List, subst, arith}
use Rattle.std.proofs.lemmas.List.{take_all}
use Rattle.ps_marks.specs.Candidates.{Collects}
use Rattle.ps_marks.specs.Making.{facts_made, made_by}
use Rattle.ps_marks.specs.declared.making.Made.{Made}
use Rattle.ps_marks.proofs.Collected.{collects_none}
use Rattle.ps_marks.proofs.Finding.{collects_add}
use Rattle.ps_marks.proofs.candidates.collect_all.Goals as goal

pub loop-add-init : goal.loop-add-init
loop-add-init c = collects_none c.args.problem.now c.args.found.now.keys

pub loop-add-preserved : goal.loop-add-preserved
loop-add-preserved c =
    let d = c.args.expert.now in
    let k = c.args.problem.now in
    let x = c.add-item.result in
    let P : Made → Type 0 = λ m. Collects k (facts_made d k m) c.loop-add.found.keys c.collect.new.found.keys in
    collects_add d k c.args.adds.now c.loop-add.add-index x c.args.found.now.keys c.loop-add.found.keys c.collect.new.found.keys c.loop-add-test.true c.loop-add.invariant (subst P c.add-item.is c.in_ok-collect.ensures)

pub returns : goal.returns
returns c =
    let P : List Made → Type 0 = λ ms. Collects c.args.problem.now (made_by c.args.expert.now c.args.problem.now ms) c.args.found.now.keys c.loop-add.found.keys in
    subst P (take_all c.loop-add.add-index c.args.adds.now (omega (arith, c.loop-add-test.false))) c.loop-add.invariant
