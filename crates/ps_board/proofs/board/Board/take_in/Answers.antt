use Rattle.std.proofs.Common.{◌≡◌, ◌<◌, None, Some, length, slice_get, slice_set, ap, sym, subst, ◌∙◌}
use Rattle.std.proofs.lemmas.List.{get_or-set_same}
use Rattle.ps_progress_laws.specs.Working.{recorded}
use Rattle.ps_ledger.specs.Members.{place_in}
use Rattle.ps_board.specs.declared.whole.Parts.{Parts}
use Rattle.ps_board.specs.Grants.{granted, performer_names}
use Rattle.ps_board.specs.Kept.{IsKept}
use Rattle.ps_board.proofs.Lent.{kept-lent, view-lent}
use Rattle.ps_board.proofs.Keeping.{granted-below, granted-named, kept-result, on-ok, out-fewer, recorded-leaves, recorded-legal, recorded-spares}
use Rattle.ps_board.proofs.board.Board.take_in.Goals as goal

pub record_work-result-requires-clause-works : goal.record_work-result-requires-clause-works
record_work-result-requires-clause-works c =
    let parts : Parts = c.deref_mut-parts.result.now in
    let held = kept-lent c.deref_mut-parts.ensures.value c.self.invariant in
    let view = view-lent c.deref_mut-parts.ensures.value c.self.view_is in
    let grants = c.self.inside.grants.items in
    let k = place_in (performer_names parts.input) c.args.by in
    let out : granted grants k ≡ Some c.args.r = ap (λ v. granted v.grants (place_in (performer_names v.input) c.args.by)) view ∙ c.requires.out in
    held.out.working k c.args.r c.args.by (granted-named parts.input parts.entries.items grants held.out c.args.r c.args.by out) out

pub invariant_of-self-2 : goal.invariant_of-self-2
invariant_of-self-2 c =
    let parts : Parts = c.deref_mut-parts.result.now in
    let held = kept-lent c.deref_mut-parts.ensures.value c.self.invariant in
    let view = view-lent c.deref_mut-parts.ensures.value c.self.view_is in
    let grants = c.self.inside.grants.items in
    let heard = c.self.inside.heard.items in
    let halted = c.self.inside.halted in
    let k = place_in (performer_names parts.input) c.args.by in
    let out : granted grants k ≡ Some c.args.r = ap (λ v. granted v.grants (place_in (performer_names v.input) c.args.by)) view ∙ c.requires.out in
    let at : slice_get (performer_names parts.input) k ≡ Some c.args.by = granted-named parts.input parts.entries.items grants held.out c.args.r c.args.by out in
    let works = held.out.working k c.args.r c.args.by at out in
    let below : k < length grants = granted-below grants k c.args.r out in
    let fewer : IsKept parts (slice_set grants k None) heard halted =
    record {
      parts = held.parts;
      shown = held.shown;
      out = out-fewer parts.input parts.entries.items grants held.out k below;
      heard = held.heard;
      live = held.live;
    } in
    let place : c.number_of-place.result ≡ k = c.number_of-place.ensures ∙ sym (ap (λ v. place_in (performer_names v.input) c.args.by) view) in
    subst (λ n. IsKept c.show.new.self (slice_set grants n None) heard halted) (sym place)
    (kept-result parts c.record_work-result.new.self c.show.new.self c.args.hand (slice_set grants k None) heard halted (recorded parts.input parts.entries.items c.args.r c.args.by)
    c.record_work-result.result fewer c.show.ensures.stands c.show.ensures.shown c.show.ensures.input c.show.ensures.entries
    c.record_work-result.ensures.did c.record_work-result.ensures.err
    (on-ok c.record_work-result.result (recorded-legal parts.input parts.entries.items held.parts.sound held.parts.history c.args.r c.args.by works))
    (recorded-spares parts.input held.parts.sound parts.entries.items (slice_set grants k None) k c.args.r c.args.by at (get_or-set_same grants k None None below))
    (λ h. recorded-leaves parts.input parts.entries.items c.args.r c.args.by))
