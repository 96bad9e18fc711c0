use Rattle.std.proofs.Common.{refl}
use Rattle.ps_turn.proofs.Returns.{come_back}
use Rattle.ps_pool.proofs.Seated.{seated}
use Rattle.call_tests.proofs.runs.is_seen_over.Goals as goal

pub work-seen-requires-clause-seats : goal.work-seen-requires-clause-seats
work-seen-requires-clause-seats g c κs within =
    seated c.args.book c.args.book.seats c.args.seats.items c.as_mut_slice.result.now c.requires.opened c.requires.few.1 c.requires.seats c.as_mut_slice.ensures.value

pub close-board-requires : goal.close-board-requires
close-board-requires g c =
    come_back c.args.book c.args.book.seats c.args.seats.items c.as_mut_slice.result.now c.work-seen.new.seats c.args.seats.len refl c.requires.seats c.as_mut_slice.ensures.value
    c.as_mut_slice.ensures.len c.work-seen.auto.seats (λ i d less. let h = c.work-seen.ensures.seats i d less in (h.may.free, h.hand))
