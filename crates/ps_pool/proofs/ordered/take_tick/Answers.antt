use Rattle.std.proofs.Common.{ap, ◌∙◌}
use Rattle.ps_board.specs.declared.board.Shown.{Shown}
use Rattle.ps_board.specs.Ticks.{snapshot_of}
use Rattle.ps_board.proofs.Ready.{on-err}
use Rattle.ps_pool.proofs.TickerTurns.{asked-same, asked-turn, asked-wanted, is_asking, never-halted, tick-over, turn-so}
use Rattle.ps_pool.proofs.ordered.take_tick.Goals as goal

pub unreachable-requires : goal.unreachable-requires
unreachable-requires g c = never-halted c.args.board.now c.requires.rest.halted c.in_ok-tick_with_room.field-0 c.in_ok-tick_with_room.ensures.answer c.in-Halted.is

pub returns-in-Over-clause-over : goal.returns-in-Over-clause-over
returns-in-Over-clause-over g c = λ over.
    tick-over c.args.board.now c.requires.rest.halted 1 c.in_ok-tick_with_room.field-0 c.in-Over.field-0 c.tick_with_room.new.board.entries c.in_ok-tick_with_room.ensures.answer c.in-Over.is (ap (λ (b : Shown). b.entries) c.in_ok-tick_with_room.ensures.did)

pub returns-in-Over-clause-ok : goal.returns-in-Over-clause-ok
returns-in-Over-clause-ok g c =
    turn-so c.args.board.now c.requires.rest.halted (g.S.Solver.says c.args.solver.now) c.in_ok-tick_with_room.field-0 c.tick_with_room.new.board.entries c.in_ok-tick_with_room.ensures.answer (ap is_asking c.in-Over.is) (ap (λ (b : Shown). b.entries) c.in_ok-tick_with_room.ensures.did)

pub returns-in-Did-clause-ok : goal.returns-in-Did-clause-ok
returns-in-Did-clause-ok g c =
    turn-so c.args.board.now c.requires.rest.halted (g.S.Solver.says c.args.solver.now) c.in_ok-tick_with_room.field-0 c.tick_with_room.new.board.entries c.in_ok-tick_with_room.ensures.answer (ap is_asking c.in-Did.is) (ap (λ (b : Shown). b.entries) c.in_ok-tick_with_room.ensures.did)

pub returns-in-Nothing-clause-ok : goal.returns-in-Nothing-clause-ok
returns-in-Nothing-clause-ok g c =
    turn-so c.args.board.now c.requires.rest.halted (g.S.Solver.says c.args.solver.now) c.in_ok-tick_with_room.field-0 c.tick_with_room.new.board.entries c.in_ok-tick_with_room.ensures.answer (ap is_asking c.in-Nothing.is) (ap (λ (b : Shown). b.entries) c.in_ok-tick_with_room.ensures.did)

pub replan-requires-clause-asked : goal.replan-requires-clause-asked
replan-requires-clause-asked g c =
    ap (λ i. snapshot_of i c.tick_with_room.new.board.entries) (ap (λ (b : Shown). b.input) c.in_ok-tick_with_room.ensures.did)
    ∙ asked-wanted c.args.board.now c.requires.rest.halted 1 c.in_ok-tick_with_room.field-0 c.in-WantsPlan.snapshot c.tick_with_room.new.board.entries c.in_ok-tick_with_room.ensures.answer c.in-WantsPlan.is (ap (λ (b : Shown). b.entries) c.in_ok-tick_with_room.ensures.did)

pub returns-in_ok-replan-in-WantsPlan-clause-ok : goal.returns-in_ok-replan-in-WantsPlan-clause-ok
returns-in_ok-replan-in-WantsPlan-clause-ok g c =
    asked-turn c.args.board.now c.requires.rest.halted (g.S.Solver.says c.args.solver.now) c.tick_with_room.new.board c.in_ok-tick_with_room.field-0 c.in-WantsPlan.snapshot c.replan.new.board.entries
    c.in_ok-tick_with_room.ensures.answer c.in-WantsPlan.is (ap (λ (b : Shown). b.input) c.in_ok-tick_with_room.ensures.did) (ap (λ (b : Shown). b.entries) c.in_ok-tick_with_room.ensures.did) c.in_ok-replan-in-WantsPlan.ensures.ok

pub returns-in_err-replan-in-WantsPlan-clause-err : goal.returns-in_err-replan-in-WantsPlan-clause-err
returns-in_err-replan-in-WantsPlan-clause-err g c =
    on-err c.from_residual-in_err-replan-in-WantsPlan.result
    (c.in_err-replan-in-WantsPlan.ensures.err
    ∙ asked-same c.args.board.now c.requires.rest.halted 1 c.in_ok-tick_with_room.field-0 c.in-WantsPlan.snapshot c.tick_with_room.new.board.entries c.in_ok-tick_with_room.ensures.answer c.in-WantsPlan.is (ap (λ (b : Shown). b.entries) c.in_ok-tick_with_room.ensures.did))
