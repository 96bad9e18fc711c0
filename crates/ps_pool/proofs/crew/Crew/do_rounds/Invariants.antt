use Rattle.std.proofs.Common.{◌≡◌, None}
use Rattle.ps_pool.specs.declared.round_place.Stand.TheVariants.{Going}
use Rattle.ps_pool.specs.Workers.{HasStayed}
use Rattle.ps_pool.proofs.crew.Crew.do_rounds.Given as goal

abbrev pub invariant-loop : goal.invariant-loop
invariant-loop g l = record {
  next : (goal.iterator-loop g).can_next l.iterator';
  finite : (goal.iterator-loop g).is_finite l.iterator';
  none : l.due ≡ None;
  going : l.round_place.stand ≡ Going;
  stayed : HasStayed l.book l.fn.seat l.seat;
}
