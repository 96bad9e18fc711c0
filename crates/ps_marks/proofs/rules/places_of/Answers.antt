use Rattle.std.proofs.Common.{◌≡◌, Some, map, slice_get, true, ap, sym, ◌∙◌, subst}
use Rattle.std.proofs.lemmas.List.Elements.{Contains-get_or}
use Rattle.ps_world.specs.declared.facts.Fact.{Fact}
use Rattle.ps_marks.specs.Closures.{is_in}
use Rattle.ps_marks.proofs.Members.{in_contains}
use Rattle.ps_marks.proofs.Placed.{places_more}
use Rattle.ps_marks.proofs.rules.places_of.Goals as goal

pub place_in-requires : goal.place_in-requires
place_in-requires c =
    let items = c.args.facts.now in
    let i = c.loop-fact.fact-index in
    let x = c.fact-item.result in
    let P : Fact → Type 0 = λ f. is_in items f ≡ true in
    c.requires x (subst P (sym c.fact-item.is) (in_contains items _ (Contains-get_or items i x c.loop-fact-test.true)))

pub loop-fact-preserved : goal.loop-fact-preserved
loop-fact-preserved c =
    let items = c.args.facts.now in
    let i = c.loop-fact.fact-index in
    let x = c.fact-item.result in
    let P : Fact → Type 0 = λ f. slice_get c.args.places.now c.place_in.result ≡ Some f in
    ap (map (slice_get c.args.places.now)) c.in_ok-push.ensures.items
    ∙ places_more c.args.places.now items i x c.loop-fact.at.items c.place_in.result c.loop-fact-test.true c.loop-fact.invariant (subst P c.fact-item.is c.place_in.ensures)
