use Rattle.std.proofs.Common.{length, ap, refl, arith}
use Rattle.ps_inputs.proofs.Flattening.{deep_added}
use Rattle.ps_inputs.proofs.reading.scripts.put_deep.Goals as goal

pub returns : goal.returns
returns c = deep_added c.args.script.now _ (omega (arith, ap length c.as_slice.ensures.value, c.in_ok-check_room.ensures)) refl c.in_ok-push.ensures.items c.in_ok-push-2.ensures.items
