use Rattle.std.proofs.Common.{◌≡◌, Some, true, false, sym, ap, ◌∙◌}
use Rattle.std.specs.Prelude.{slice_get, slice_index_or}
use Rattle.ps_world.specs.Names.{object}
use Rattle.ps_problem.specs.KindLists.{is_named, place_of}
use Rattle.ps_problem.proofs.NamePlaces.{found, missed}
use Rattle.ps_problem.proofs.problem.instances.kind_of.Goals as goal

pub returns-then-is_at : goal.returns-then-is_at
returns-then-is_at c =
    let n = c.args.name in
    let es = c.args.all.now in
    let is : is_named n (slice_get es (place_of n es)) ≡ true =
    sym (ap (λ i. is_named n (slice_get es i)) c.place_of-at.ensures) ∙ sym c.is_at.ensures ∙ c.if-is_at.true in
    ap (λ i. Some (slice_index_or es i (object, object)).1) c.place_of-at.ensures ∙ sym (found n (object, object) es is)

pub returns-else-is_at : goal.returns-else-is_at
returns-else-is_at c =
    let n = c.args.name in
    let es = c.args.all.now in
    let is : is_named n (slice_get es (place_of n es)) ≡ false =
    sym (ap (λ i. is_named n (slice_get es i)) c.place_of-at.ensures) ∙ sym c.is_at.ensures ∙ c.if-is_at.false in
    sym (missed n es c.requires is)
