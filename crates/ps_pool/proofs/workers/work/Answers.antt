use Rattle.ps_pool.proofs.Seated.{all-stay-on}
use Rattle.ps_pool.proofs.workers.work.Goals as goal

pub returns-then-work_all-clause-seats : goal.returns-then-work_all-clause-seats
returns-then-work_all-clause-seats g c =
    all-stay-on c.args.book.now c.args.seats.now c.look_first.new.seats c.work_all.new.seats c.look_first.auto.seats c.look_first.ensures.seats c.work_all.ensures.seats

pub returns-clause-seats : goal.returns-clause-seats
returns-clause-seats g c =
    all-stay-on c.args.book.now c.args.seats.now c.look_first.new.seats c.work_all.new.seats c.look_first.auto.seats c.look_first.ensures.seats c.work_all.ensures.seats
