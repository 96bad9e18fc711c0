use Rattle.ps_turn.proofs.Returns.{dealt_free, come_back}
use Rattle.turn_tests.proofs.turns.closed_after.Goals as goal

pub run-requires-after_bounds : goal.run-requires-after_bounds
run-requires-after_bounds g c κs within = dealt_free c.in-Ok.book c.args.count c.in-Ok.seats.items c.as_mut_slice.result.now c.in-Ok.ensures.seats c.as_mut_slice.ensures.value

pub close-requires : goal.close-requires
close-requires g c =
    come_back c.in-Ok.book c.args.count c.in-Ok.seats.items c.as_mut_slice.result.now c.run.new.seats c.in-Ok.seats.len c.in-Ok.ensures.book.0 c.in-Ok.ensures.seats
    c.as_mut_slice.ensures.value c.as_mut_slice.ensures.len c.run.auto.seats c.run.ensures
