use Rattle.std.proofs.Common.{◌≡◌, true, false, arith, sym, ap, ◌∙◌}
use Rattle.std.specs.Prelude.{insert, slice_get, slice_set}
use Rattle.ps_problem.specs.KindLists.{is_named, place_of}
use Rattle.ps_problem.proofs.NamePlaces.{place_within, put_between, put_over}
use Rattle.ps_problem.proofs.problem.instances.put_in.Goals as goal

pub insert-requires : goal.insert-requires
insert-requires c =
    let es = c.args.all.now.items in
    let at : c.place_of-at.result ≡ place_of c.args.name es = c.place_of-at.ensures ∙ ap (place_of c.args.name) c.as_slice.ensures.value in
    omega (arith, at, place_within c.args.name es)

pub returns-then-is_at-clause-ok : goal.returns-then-is_at-clause-ok
returns-then-is_at-clause-ok c =
    let n = c.args.name in
    let es = c.args.all.now.items in
    let at : c.place_of-at.result ≡ place_of n es = c.place_of-at.ensures ∙ ap (place_of n) c.as_slice.ensures.value in
    let is : is_named n (slice_get es (place_of n es)) ≡ true =
    sym (ap (λ i. is_named n (slice_get es i)) at) ∙ sym (ap (λ l. is_named n (slice_get l c.place_of-at.result)) c.as_slice-2.ensures.value) ∙ sym c.is_at.ensures ∙ c.if-is_at.true in
    ap (λ i. slice_set es i (n, c.args.kind)) at ∙ put_over n c.args.kind es is

pub returns-in_ok-insert-clause-ok : goal.returns-in_ok-insert-clause-ok
returns-in_ok-insert-clause-ok c =
    let n = c.args.name in
    let es = c.args.all.now.items in
    let at : c.place_of-at.result ≡ place_of n es = c.place_of-at.ensures ∙ ap (place_of n) c.as_slice.ensures.value in
    let is : is_named n (slice_get es (place_of n es)) ≡ false =
    sym (ap (λ i. is_named n (slice_get es i)) at) ∙ sym (ap (λ l. is_named n (slice_get l c.place_of-at.result)) c.as_slice-2.ensures.value) ∙ sym c.is_at.ensures ∙ c.if-is_at.false in
    c.in_ok-insert.ensures.items ∙ ap (λ i. insert es i (n, c.args.kind)) at ∙ put_between n c.args.kind es is
