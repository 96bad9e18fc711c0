use Rattle.std.proofs.Common.{None, List, All, length, sym, subst}
use Rattle.ps_closing.specs.declared.rule.Rule.{Rule}
use Rattle.ps_closing.specs.Closing.{FitsIn, is_ready}
use Rattle.ps_marks.proofs.Placed.{kept_fit}
use Rattle.ps_marks.proofs.marks.used_of.Goals as goal

pub of-requires : goal.of-requires
of-requires c =
    let n = length c.args.flags.now in
    let P : List Rule → Type 0 = λ rs. All (FitsIn n) rs in
    subst P (sym c.keep_used.ensures) (kept_fit n (is_ready None c.args.flags.now) c.into_vec-rules.result.items (subst P (sym c.into_vec-rules.ensures) c.requires))
