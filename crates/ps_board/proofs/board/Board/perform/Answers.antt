use Rattle.std.proofs.Common.{◌≡◌, None, Some, false, true, slice_get, slice_index_or, slice_set, ap, sym, subst, ◌∙◌}
use Rattle.ps_actors.specs.Heard.{HasHeard}
use Rattle.ps_actors.specs.Turns.{is_choice_of}
use Rattle.ps_rules.specs.Choices.{performed}
use Rattle.ps_board.specs.declared.board.Shown.{Shown}
use Rattle.ps_board.specs.declared.whole.Parts.{Parts}
use Rattle.ps_board.specs.Grants.{granted, performer_names}
use Rattle.ps_board.specs.Kept.{IsKept}
use Rattle.ps_board.proofs.Lent.{kept-lent, view-lent}
use Rattle.ps_board.proofs.Granting.{Spares}
use Rattle.ps_board.proofs.Handing.{free-goes, free-none, kept-handed, out-is}
use Rattle.ps_board.proofs.Keeping.{first-legal, kept-heard, kept-result, not-halted, on-ok, performers-spare, place-below, some-weaker}
use Rattle.ps_board.proofs.board.Board.perform.Goals as goal

pub perform-result-requires-clause-heard : goal.perform-result-requires-clause-heard
perform-result-requires-clause-heard c =
    let parts : Parts = c.deref_mut-parts.result.now in
    let held = kept-lent c.deref_mut-parts.ensures.value c.self.invariant in
    let view = view-lent c.deref_mut-parts.ensures.value c.self.view_is in
    let name = c.performer_name-name.result in
    let at : slice_get (performer_names parts.input) c.args.p ≡ Some name = ap (λ v. slice_get (performer_names v.input) c.args.p) view ∙ c.performer_name-name.ensures in
    c.heard_upto-upto.ensures.heard parts.input parts.entries.items held.parts.kept
    (subst (λ u. HasHeard name u parts.entries.items) (sym (c.number_at.ensures ∙ ap (λ xs. slice_index_or xs c.args.p 0) c.deref.ensures.value))
    (held.heard.each c.args.p name at))

pub invariant_of-self : goal.invariant_of-self
invariant_of-self c =
    let parts : Parts = c.deref_mut-parts.result.now in
    let held = kept-lent c.deref_mut-parts.ensures.value c.self.invariant in
    let view = view-lent c.deref_mut-parts.ensures.value c.self.view_is in
    let grants = c.self.inside.grants.items in
    let heard = slice_set c.self.inside.heard.items c.args.p c.heard_upto-upto.result in
    let halted = c.self.inside.halted in
    let goes : halted ≡ false = ap (λ v. v.halted) view ∙ free-goes c.args.self.now c.args.p c.requires.free in
    let name = c.performer_name-name.result in
    let at : slice_get (performer_names parts.input) c.args.p ≡ Some name = ap (λ v. slice_get (performer_names v.input) c.args.p) view ∙ c.performer_name-name.ensures in
    let hears : HasHeard name c.heard_upto-upto.result parts.entries.items =
    c.heard_upto-upto.ensures.heard parts.input parts.entries.items held.parts.kept
    (subst (λ u. HasHeard name u parts.entries.items) (sym (c.number_at.ensures ∙ ap (λ xs. slice_index_or xs c.args.p 0) c.deref.ensures.value))
    (held.heard.each c.args.p name at)) in
    let told : IsKept parts grants heard halted = kept-heard parts grants c.self.inside.heard.items halted held c.args.p c.heard_upto-upto.result name at hears in
    let free : granted grants c.args.p ≡ None = ap (λ v. granted v.grants c.args.p) view ∙ free-none c.args.self.now c.args.p c.requires.free in
    let what = performed parts.input name parts.entries.items in
    let kept : IsKept c.show.new.self grants heard halted =
    kept-result parts c.perform-result.new.self c.show.new.self c.args.hand grants heard halted what c.perform-result.result told c.show.ensures.stands c.show.ensures.shown c.show.ensures.input
    c.show.ensures.entries c.perform-result.ensures.did c.perform-result.ensures.err
    (on-ok c.perform-result.result (first-legal parts.input parts.entries.items _))
    (some-weaker (λ e. is_choice_of name e ≡ true) (Spares parts.input grants) what (λ e its. performers-spare parts.input held.parts.sound grants c.args.p name at free e its)
    c.perform-result.ensures.its) (not-halted halted what goes) in
    kept

pub invariant_of-self-2 : goal.invariant_of-self-2
invariant_of-self-2 c =
    let parts : Parts = c.deref_mut-parts.result.now in
    let held = kept-lent c.deref_mut-parts.ensures.value c.self.invariant in
    let view = view-lent c.deref_mut-parts.ensures.value c.self.view_is in
    let grants = c.self.inside.grants.items in
    let heard = slice_set c.self.inside.heard.items c.args.p c.heard_upto-upto.result in
    let halted = c.self.inside.halted in
    let goes : halted ≡ false = ap (λ v. v.halted) view ∙ free-goes c.args.self.now c.args.p c.requires.free in
    let name = c.performer_name-name.result in
    let at : slice_get (performer_names parts.input) c.args.p ≡ Some name = ap (λ v. slice_get (performer_names v.input) c.args.p) view ∙ c.performer_name-name.ensures in
    let hears : HasHeard name c.heard_upto-upto.result parts.entries.items =
    c.heard_upto-upto.ensures.heard parts.input parts.entries.items held.parts.kept
    (subst (λ u. HasHeard name u parts.entries.items) (sym (c.number_at.ensures ∙ ap (λ xs. slice_index_or xs c.args.p 0) c.deref.ensures.value))
    (held.heard.each c.args.p name at)) in
    let told : IsKept parts grants heard halted = kept-heard parts grants c.self.inside.heard.items halted held c.args.p c.heard_upto-upto.result name at hears in
    let free : granted grants c.args.p ≡ None = ap (λ v. granted v.grants c.args.p) view ∙ free-none c.args.self.now c.args.p c.requires.free in
    let what = performed parts.input name parts.entries.items in
    let kept : IsKept c.show.new.self grants heard halted =
    kept-result parts c.perform-result.new.self c.show.new.self c.args.hand grants heard halted what c.perform-result.result told c.show.ensures.stands c.show.ensures.shown c.show.ensures.input
    c.show.ensures.entries c.perform-result.ensures.did c.perform-result.ensures.err
    (on-ok c.perform-result.result (first-legal parts.input parts.entries.items _))
    (some-weaker (λ e. is_choice_of name e ≡ true) (Spares parts.input grants) what (λ e its. performers-spare parts.input held.parts.sound grants c.args.p name at free e its)
    c.perform-result.ensures.its) (not-halted halted what goes) in
    subst (λ gs. IsKept c.show.new.self gs heard halted) (sym c.note_grant.ensures)
    (kept-handed parts c.show.new.self c.args.hand grants heard halted c.args.p name c.in_ok-turn.turn kept (c.show.ensures.input ∙ c.in_ok-turn.ensures.did.input)
    (c.show.ensures.entries ∙ c.in_ok-turn.ensures.did.entries) at c.in_ok-turn.ensures.answer)

pub returns-clause-out : goal.returns-clause-out
returns-clause-out c =
    let parts : Parts = c.deref_mut-parts.result.now in
    let held = kept-lent c.deref_mut-parts.ensures.value c.self.invariant in
    let view = view-lent c.deref_mut-parts.ensures.value c.self.view_is in
    let name = c.performer_name-name.result in
    let at : slice_get (performer_names parts.input) c.args.p ≡ Some name = ap (λ v. slice_get (performer_names v.input) c.args.p) view ∙ c.performer_name-name.ensures in
    let old : Shown = record { input = parts.input; entries = parts.entries.items; grants = c.self.inside.grants.items; halted = c.self.inside.halted; spare = parts.spare } in
    out-is old _ c.args.hand c.args.p name c.in_ok-turn.turn held.parts.sound
    (place-below parts.input parts.entries.items c.self.inside.grants.items held.out c.args.p name at) at c.in_ok-turn.ensures.answer
    (c.show.ensures.input ∙ c.in_ok-turn.ensures.did.input) (c.show.ensures.entries ∙ c.in_ok-turn.ensures.did.entries) c.note_grant.ensures
