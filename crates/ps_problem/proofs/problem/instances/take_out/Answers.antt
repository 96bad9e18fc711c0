use Rattle.std.proofs.Common.{◌≡◌, true, false, sym, ap, ◌∙◌, arith}
use Rattle.std.specs.Prelude.{remove, slice_get}
use Rattle.ps_problem.specs.KindLists.{is_named, place_of}
use Rattle.ps_problem.proofs.NamePlaces.{left, taken, within}
use Rattle.ps_problem.proofs.problem.instances.take_out.Goals as goal

pub remove-requires : goal.remove-requires
remove-requires c =
    let es = c.args.all.now.items in
    let is : is_named c.args.name (slice_get es c.place_of-at.result) ≡ true = sym (ap (λ l. is_named c.args.name (slice_get l c.place_of-at.result)) c.as_slice-2.ensures.value) ∙ sym c.is_at.ensures ∙ c.if-is_at.true in
    omega (arith, within c.args.name es c.place_of-at.result is)

pub returns-then-is_at : goal.returns-then-is_at
returns-then-is_at c =
    let n = c.args.name in
    let es = c.args.all.now.items in
    let at : c.place_of-at.result ≡ place_of n es = c.place_of-at.ensures ∙ ap (place_of n) c.as_slice.ensures.value in
    let is : is_named n (slice_get es (place_of n es)) ≡ true =
    sym (ap (λ i. is_named n (slice_get es i)) at) ∙ sym (ap (λ l. is_named n (slice_get l c.place_of-at.result)) c.as_slice-2.ensures.value) ∙ sym c.is_at.ensures ∙ c.if-is_at.true in
    c.remove.ensures.items ∙ ap (remove es) at ∙ taken n es c.requires is

pub returns-else-is_at : goal.returns-else-is_at
returns-else-is_at c =
    let n = c.args.name in
    let es = c.args.all.now.items in
    let at : c.place_of-at.result ≡ place_of n es = c.place_of-at.ensures ∙ ap (place_of n) c.as_slice.ensures.value in
    let is : is_named n (slice_get es (place_of n es)) ≡ false =
    sym (ap (λ i. is_named n (slice_get es i)) at) ∙ sym (ap (λ l. is_named n (slice_get l c.place_of-at.result)) c.as_slice-2.ensures.value) ∙ sym c.is_at.ensures ∙ c.if-is_at.false in
    left n es c.requires is
