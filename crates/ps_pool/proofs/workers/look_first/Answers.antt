use Rattle.std.proofs.Common.{rules}
use Rattle.ps_pool.proofs.Seated.{all-stay-so, both-stayed, rest-may}
use Rattle.ps_pool.proofs.workers.look_first.Goals as goal

pub returns-clause-seats : goal.returns-clause-seats
returns-clause-seats g c =
    both-stayed c.args.book.now c.in-Some.seat.now c.look.new.seat c.in-Some._rest.now c.in-Some._rest.now c.args.seats.now (search rules) c.look.ensures.seat
    (all-stay-so c.args.book.now c.in-Some._rest.now (rest-may c.args.book.now c.in-Some.seat.now c.in-Some._rest.now c.args.seats.now (search rules) c.requires.seats).1)
