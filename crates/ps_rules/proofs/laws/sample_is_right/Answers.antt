use Rattle.std.proofs.Common.{refl}
use Rattle.std.specs.Fmt.{digits}
use Rattle.ps_rules.specs.History.IsHistory.{nothing, block}
use Rattle.ps_rules.proofs.laws.sample_is_right.Goals as goal

pub returns : goal.returns
unfolding digits
returns c = record {
  history =
      block _ _ (block _ _ (block _ _ (block _ _ (block _ _ nothing refl refl) refl refl) refl refl) refl refl) refl refl;
  whole = record { lines = refl; closed = refl };
  text = refl;
  status = refl;
}
