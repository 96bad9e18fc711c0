use Rattle.std.proofs.Common.{◌<◌, Some, length, ap, arith, ◌∙◌}
use Rattle.ps_rules.specs.Members.{observers, performers}
use Rattle.ps_pool.proofs.Rounds.{observer-passes, observer-within, performer-passes, performer-within}
use Rattle.ps_pool.proofs.outline.who_at.Goals as goal

pub overflow_add-next : goal.overflow_add-next
overflow_add-next c =
    let within = performer-within c.args.board.now.input c.args.k c.in-Performer.field-0 (c.member_at.ensures.member ∙ ap Some c.in-Performer.is) in
    let is = ap (λ p. p.performers) c.requires.passed in
    let few = c.member_at.ensures.sound.few_performers in
    omega arith

pub overflow_add-next-in-Observer : goal.overflow_add-next-in-Observer
overflow_add-next-in-Observer c =
    let within = observer-within c.args.board.now.input c.args.k c.in-Observer.field-0 (c.member_at.ensures.member ∙ ap Some c.in-Observer.is) in
    let is = ap (λ p. p.observers) c.requires.passed in
    let few = c.member_at.ensures.sound.few_observers in
    omega arith

pub returns-in-Performer-clause-who : goal.returns-in-Performer-clause-who
returns-in-Performer-clause-who c =
    let within = performer-within c.args.board.now.input c.args.k c.in-Performer.field-0 (c.member_at.ensures.member ∙ ap Some c.in-Performer.is) in
    let is = ap (λ p. p.performers) c.requires.passed in
    let there : c.args.passed.performers < length (performers c.args.board.now.input) = omega arith in
    there

pub returns-in-Performer-clause-passed : goal.returns-in-Performer-clause-passed
returns-in-Performer-clause-passed c =
    performer-passes c.args.board.now.input c.args.k c.in-Performer.field-0 c.args.passed (c.member_at.ensures.member ∙ ap Some c.in-Performer.is) c.requires.passed

pub returns-in-Observer-clause-who : goal.returns-in-Observer-clause-who
returns-in-Observer-clause-who c =
    let within = observer-within c.args.board.now.input c.args.k c.in-Observer.field-0 (c.member_at.ensures.member ∙ ap Some c.in-Observer.is) in
    let is = ap (λ p. p.observers) c.requires.passed in
    let there : c.args.passed.observers < length (observers c.args.board.now.input) = omega arith in
    there

pub returns-in-Observer-clause-passed : goal.returns-in-Observer-clause-passed
returns-in-Observer-clause-passed c =
    observer-passes c.args.board.now.input c.args.k c.in-Observer.field-0 c.args.passed (c.member_at.ensures.member ∙ ap Some c.in-Observer.is) c.requires.passed
