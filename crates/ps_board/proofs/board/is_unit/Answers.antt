use Rattle.std.proofs.Common.{Some, ap, sym, ◌∙◌}
use Rattle.std.specs.Option.{option_copied}
use Rattle.ps_world.proofs.Optionals.{some_same}
use Rattle.ps_legal.proofs.Units.{same_unit-is, same_unit-itself}
use Rattle.ps_legal.specs.Same.{same_unit}
use Rattle.ps_board.proofs.board.is_unit.Goals as goal

pub returns-in-Some : goal.returns-in-Some
returns-in-Some c =
    let u = c.in-Some.other.now in
    let v = c.args.unit.now in (
      λ same. ap option_copied c.in-Some.is ∙ ap Some (same_unit-is u v (sym c.same_unit.ensures ∙ same)),
      λ is. c.same_unit.ensures ∙ ap (λ x. same_unit x v) (some_same u v (sym (ap option_copied c.in-Some.is) ∙ is)) ∙ same_unit-itself v,
    )
