use Rattle.std.proofs.Common.{Some, ap, arith, ◌∙◌}
use Rattle.ps_pool.specs.Rounds.{after_observer, after_performer}
use Rattle.ps_pool.proofs.Rounds.{observer-leads, observer-passes, observer-within, performer-leads, performer-passes, performer-within, ran-observer, ran-performer}
use Rattle.ps_pool.proofs.ordered.take_member.Goals as goal

pub take_performer-requires-clause-there : goal.take_performer-requires-clause-there
take_performer-requires-clause-there g c =
    let within = performer-within c.args.board.now.input c.args.k c.in-Performer.field-0 (c.member_at.ensures.member ∙ ap Some c.in-Performer.is) in
    let is = ap (λ p. p.performers) c.requires.passed in
    omega arith

pub overflow_add-result : goal.overflow_add-result
overflow_add-result g c =
    let within = performer-within c.args.board.now.input c.args.k c.in-Performer.field-0 (c.member_at.ensures.member ∙ ap Some c.in-Performer.is) in
    let is = ap (λ p. p.performers) c.requires.passed in
    let few = c.member_at.ensures.sound.few_performers in
    omega arith

pub take_observer-requires-clause-there : goal.take_observer-requires-clause-there
take_observer-requires-clause-there g c =
    let within = observer-within c.args.board.now.input c.args.k c.in-Observer.field-0 (c.member_at.ensures.member ∙ ap Some c.in-Observer.is) in
    let is = ap (λ p. p.observers) c.requires.passed in
    omega arith

pub overflow_add-result-in-Observer : goal.overflow_add-result-in-Observer
overflow_add-result-in-Observer g c =
    let within = observer-within c.args.board.now.input c.args.k c.in-Observer.field-0 (c.member_at.ensures.member ∙ ap Some c.in-Observer.is) in
    let is = ap (λ p. p.observers) c.requires.passed in
    let few = c.member_at.ensures.sound.few_observers in
    omega arith

pub returns-in_ok-take_performer-in-Performer-clause-passed : goal.returns-in_ok-take_performer-in-Performer-clause-passed
returns-in_ok-take_performer-in-Performer-clause-passed g c =
    performer-passes c.args.board.now.input c.args.k c.in-Performer.field-0 c.args.passed (c.member_at.ensures.member ∙ ap Some c.in-Performer.is) c.requires.passed

pub returns-in_ok-take_performer-in-Performer-clause-ok : goal.returns-in_ok-take_performer-in-Performer-clause-ok
returns-in_ok-take_performer-in-Performer-clause-ok g c =
    performer-leads c.args.board.now.input c.args.k c.in-Performer.field-0 c.args.board.now.entries c.take_performer.new.board.entries (c.member_at.ensures.member ∙ ap Some c.in-Performer.is)
    (c.in_ok-take_performer-in-Performer.ensures.ok ∙ ap (λ p. after_performer c.args.board.now.input p.performers c.args.board.now.entries) c.requires.passed)

pub returns-in_ok-take_performer-in-Performer-clause-ran : goal.returns-in_ok-take_performer-in-Performer-clause-ran
returns-in_ok-take_performer-in-Performer-clause-ran g c =
    ran-performer c.args.board.now.input c.args.passed.performers c.args.board.now.entries c.take_performer.new.board.entries c.in_ok-take_performer-in-Performer.ensures.ok

pub returns-in_ok-take_observer-in-Observer-clause-passed : goal.returns-in_ok-take_observer-in-Observer-clause-passed
returns-in_ok-take_observer-in-Observer-clause-passed g c =
    observer-passes c.args.board.now.input c.args.k c.in-Observer.field-0 c.args.passed (c.member_at.ensures.member ∙ ap Some c.in-Observer.is) c.requires.passed

pub returns-in_ok-take_observer-in-Observer-clause-ok : goal.returns-in_ok-take_observer-in-Observer-clause-ok
returns-in_ok-take_observer-in-Observer-clause-ok g c =
    observer-leads c.args.board.now.input c.args.k c.in-Observer.field-0 c.args.board.now.entries c.take_observer.new.board.entries (c.member_at.ensures.member ∙ ap Some c.in-Observer.is)
    (c.in_ok-take_observer-in-Observer.ensures.ok ∙ ap (λ p. after_observer c.args.board.now.input p.observers c.args.board.now.entries) c.requires.passed)

pub returns-in_ok-take_observer-in-Observer-clause-ran : goal.returns-in_ok-take_observer-in-Observer-clause-ran
returns-in_ok-take_observer-in-Observer-clause-ran g c =
    ran-observer c.args.board.now.input c.args.passed.observers c.args.board.now.entries c.take_observer.new.board.entries c.in_ok-take_observer-in-Observer.ensures.ok
