use Rattle.std.proofs.Common.{◌<◌, option_copied, option_map, ap, arith, sym, ◌∙◌}
use Rattle.ps_machine.specs.declared.members.Unit.{Unit as Task}
use Rattle.ps_rules.specs.Auctions.{requests}
use Rattle.ps_rules.specs.Choices.{unit_on}
use Rattle.ps_rules.specs.Members.{next_unit}
use Rattle.ps_actors.proofs.First.{none-more}
use Rattle.ps_actors.proofs.Heads.{head-at, head-nowhere}
use Rattle.ps_actors.proofs.Older.{older}
use Rattle.ps_actors.proofs.work.work_engaged.Goals as goal

pub loop-r-init : goal.loop-r-init
loop-r-init c = λ es o k lt. (older c.args.input.now es c.args.state.now c.args.name k o.kept lt).works

pub loop-r-preserved : goal.loop-r-preserved
loop-r-preserved c = λ es o.
    none-more (λ k. next_unit c.args.input.now k c.args.name es) c.loop-r.r (c.loop-r.invariant es o) (sym (c.next_unit.ensures es o.kept) ∙ ap option_copied c.in-None.is)

pub returns-in-Some : goal.returns-in-Some
returns-in-Some c = λ es o.
    let same = c.count-count.ensures es o.kept.told.requests in
    let lt : c.loop-r.r < requests es = omega (arith, same, c.loop-r-test.true) in
    sym (head-at (unit_on c.args.input.now c.args.name es) 0 (requests es) c.loop-r.r (c.loop-r.r, c.in-Some.unit.now)
    (λ k low. ap (option_map (λ (u : Task). (k, u))) (c.loop-r.invariant es o k low)) (omega arith) (omega (arith, lt))
    (ap (option_map (λ (u : Task). (c.loop-r.r, u))) (sym (c.next_unit.ensures es o.kept) ∙ ap option_copied c.in-Some.is)))

pub returns : goal.returns
returns c = λ es o.
    let same = c.count-count.ensures es o.kept.told.requests in
    sym (head-nowhere (unit_on c.args.input.now c.args.name es) 0 (requests es)
    (λ k lt. ap (option_map (λ (u : Task). (k, u))) (c.loop-r.invariant es o k (omega (arith, lt, same, c.loop-r-test.false)))))
