use Rattle.std.proofs.Common.{◌<◌, List, length, length-set, ap, arith}
use Rattle.std.proofs.lemmas.List.{take_more_set, map_more}
use Rattle.ps_world.specs.Terms.{blank}
use Rattle.ps_world.specs.declared.schemas.Term.{Term}
use Rattle.ps_action.specs.Grounding.{put_term}
use Rattle.ps_action.proofs.putting.put_lifted.Goals as goal

pub loop-i-preserved : goal.loop-i-preserved
loop-i-preserved c =
    let long : c.loop-i.i < 6 = omega arith in
    let count = ap (λ (l : List Term). length l) c.as_slice-terms.ensures in
    let put = take_more_set c.loop-i.put c.loop-i.i c.put_term.result (omega arith) in
    let terms = map_more (put_term c.args.env.now) c.as_slice-terms.result.now c.loop-i.i blank (omega (arith, count)) in
    record { room = simp length-set (c.loop-i.invariant.room); written = cc }
