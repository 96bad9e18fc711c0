-- When two units are the same.
use Rattle.std.proofs.Common.{◌≡◌, ℕ, ◌==◌, Bool, true, false, List, refl, ap, ◌∙◌}
use Rattle.std.proofs.lemmas.Bool.{eqb-true, and_from, and_parts}
use Rattle.std.specs.Cmp.{unsigned_Decides}
use Rattle.ps_world.specs.Lines.{same_text}
use Rattle.ps_world.proofs.SameTexts.{same_text-itself, same_text-is}
use Rattle.ps_machine.specs.declared.members.Unit.{Unit as Task}
use Rattle.ps_machine.specs.declared.members.Unit.TheVariants as unit
use Rattle.ps_rules.specs.Legal.{same_flag}
use Rattle.ps_rules.proofs.SameThings.{same_edit-decides, same_edit-itself}
use Rattle.ps_rules.proofs.Choosing.{same_flag-itself}
use Rattle.ps_legal.specs.Same.{same_unit}

pub same_unit-itself : (u : Task) → same_unit u u ≡ true
same_unit-itself unit.Work = refl
same_unit-itself (unit.Feedback percent text) =
    and_from (percent == percent) (same_text text text) ((unsigned_Decides percent percent).1 refl) (same_text-itself text)
same_unit-itself (unit.Edit edit) = same_edit-itself edit
same_unit-itself (unit.Finish ok) = same_flag-itself ok

same_flag-is : (a b : Bool) → same_flag a b ≡ true → a ≡ b
same_flag-is true true h = refl
same_flag-is true false h = absurd (cc)
same_flag-is false true h = absurd (cc)
same_flag-is false false h = refl

-- and units that are the same are one
pub same_unit-is : (u v : Task) → same_unit u v ≡ true → u ≡ v
same_unit-is unit.Work unit.Work h = refl
same_unit-is (unit.Feedback percent text) (unit.Feedback p t) h =
    let w = and_parts (percent == p) (same_text text t) h in
    ap (λ n. unit.Feedback n text) (eqb-true percent p w.0) ∙ ap (unit.Feedback p) (same_text-is text t w.1)
same_unit-is (unit.Edit edit) (unit.Edit e) h = ap unit.Edit ((same_edit-decides edit e).0 h)
same_unit-is (unit.Finish ok) (unit.Finish b) h = ap unit.Finish (same_flag-is ok b h)
same_unit-is u v h = absurd (cc)
