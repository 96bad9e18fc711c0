use Rattle.std.proofs.Common.{◌∙◌, arith}
use Rattle.ps_text.proofs.Kept.{kept_along}
use Rattle.ps_members.proofs.ArgPlaces.{place_more}
use Rattle.ps_members.proofs.args.places_of.Goals as goal

pub loop-i-preserved : goal.loop-i-preserved
loop-i-preserved c =
    let more = place_more c.loop-i.names _ c.args.words.now c.loop-i.i _ _ _ (omega arith) c.in_ok-place.ensures.ok c.in_ok-push.ensures.ok in
    record {
      places = c.loop-i.invariant.places ∙ more.0;
      table = c.loop-i.invariant.table ∙ more.1;
      kept = kept_along c.args.names.now c.loop-i.names _ c.loop-i.invariant.kept c.place_at.ensures.kept;
    }
