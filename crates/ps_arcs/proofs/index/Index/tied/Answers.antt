use Rattle.std.proofs.Common.{◌≡◌, ◌++◌, false, List, Some, drop, get_or, length, replicate, take, ap, refl, sym, ◌∙◌, subst, arith}
use Rattle.std.specs.Prelude.{slice_get}
use Rattle.std.proofs.lemmas.List.{get_or-replicate, take_at}
use Rattle.std.proofs.lemmas.Option.{slice_get_read}
use Rattle.ps_action.specs.declared.acts.GroundAction.{GroundAction}
use Rattle.ps_arcs.specs.Listing.{touching}
use Rattle.ps_arcs.specs.Indexed.{AreTied}
use Rattle.ps_arcs.proofs.Tied.{tied_told}
use Rattle.ps_arcs.proofs.index.Index.tied.Goals as goal

pub returns : goal.returns
returns c =
    let gs = c.args.self.now in
    let i = c.args.place in
    let a = c.index-self-place.result in
    let old = c.as_mut_slice.result.now in
    let new = c.mark_tied.new.flags in
    let all = c.in_ok-flags.flags.items in
    let many : length c.self.inside.actions.now ≡ length gs = ap (λ (l : List GroundAction). length l) c.self.view_is in
    let off : all ≡ replicate (length c.self.inside.actions.now) false = c.in_ok-flags.ensures.items_if_clones_equal (λ y e. e) in
    let long : length old ≡ length gs = omega (arith, c.as_mut_slice.ensures.len, c.in_ok-flags.ensures.len, many) in
    let here : slice_get gs i ≡ Some a =
    ap (λ (l : List GroundAction). slice_get l i) (sym c.self.view_is) ∙ slice_get_read c.self.inside.actions.now (length c.self.inside.actions.now) i a refl (omega (arith, many, c.requires)) c.index-self-place.is in
    let whole : take c.in_ok-flags.flags.len (new ++ drop (length new) all) ≡ new = take_at new (drop (length new) all) c.in_ok-flags.flags.len (omega (arith, c.mark_tied.ensures.0, c.as_mut_slice.ensures.len)) in
    subst (AreTied gs i) (sym whole)
    (tied_told gs i a c.in_ok-touching.touching old new here (c.in_ok-touching.ensures ∙ ap touching (sym c.index-self-place.is)) long
    (λ j within. ap (λ l. get_or l j false) (c.as_mut_slice.ensures.value ∙ off) ∙ get_or-replicate (length c.self.inside.actions.now) j false false (omega (arith, within, many)))
    c.mark_tied.ensures)
