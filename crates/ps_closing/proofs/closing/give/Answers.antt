use Rattle.std.proofs.Common.{ℕ, List, take, sym, subst}
use Rattle.std.proofs.lemmas.List.{take_more}
use Rattle.ps_closing.specs.Closing.{Gives}
use Rattle.ps_closing.proofs.Growing.{gives_more}
use Rattle.ps_closing.proofs.Seen.{queues_on}
use Rattle.ps_closing.proofs.closing.give.Goals as goal

pub loop-place-preserved : goal.loop-place-preserved
loop-place-preserved c =
    let x = c.args.flags.now in
    let y = c.loop-place.flags in
    let z = c.set.new.flags in
    let i = c.loop-place in
    let s = c.in_ok-set.ensures in
    let P : List ℕ → Type 0 = λ ps. Gives c.args.out ps x z in
    record {
      gives = subst P (sym (take_more c.args.places.now i.place-index _ c.loop-place-test.true)) (gives_more c.args.out (take i.place-index c.args.places.now) _ x y z i.invariant.gives s.gives);
      queues = queues_on x y z c.args.queue.now.items i.queue.items c.set.new.queue.items i.invariant.queues s.queues;
    }
