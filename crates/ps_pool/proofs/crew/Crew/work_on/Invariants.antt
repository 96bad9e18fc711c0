use Rattle.ps_pool.specs.Workers.{HasStayed, StepsAside}
use Rattle.ps_pool.proofs.crew.Crew.work_on.Given as goal

abbrev pub invariant-loop : goal.invariant-loop
invariant-loop g l = record {
  next : (goal.iterator-loop g).can_next l.iterator';
  finite : (goal.iterator-loop g).is_finite l.iterator';
  aside : StepsAside l.book.input l.next l.seat.seen l.round_place.stand;
  stayed : HasStayed l.book l.fn.seat l.seat;
}
