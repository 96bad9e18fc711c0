use Rattle.std.proofs.Common.{◌-◌, ◌^◌, ◌∙◌, lit≤, arith}
use Rattle.ps_ground.proofs.Listing.{count_more}
use Rattle.ps_ground.proofs.acts.pick_count.Goals as goal

pub loop-names-preserved : goal.loop-names-preserved
loop-names-preserved c =
    let more = count_more c.args.choices.now c.loop-names.names-index c.names-item.result (2 ^ 64 - 1) c.loop-names.count (lit≤ tt) c.loop-names-test.true in
    record { enough = omega arith; so_far = rw (c.min-count.ensures, c.saturating_mul.ensures, c.len.ensures, c.names-item.is) (more ∙ c.loop-names.invariant.so_far) }
