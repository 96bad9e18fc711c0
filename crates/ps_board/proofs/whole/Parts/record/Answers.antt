use Rattle.std.proofs.Common.{◌≡◌, ◌+◌, ◌≤◌, IsTrue, Err, option_to_list, length, refl, ap, arith, sym, subst, ◌∙◌}
use Rattle.std.specs.Vec.{vec_capacity}
use Rattle.ps_world.specs.Edits.{Edits}
use Rattle.ps_machine.specs.declared.journal.Event.TheVariants as event
use Rattle.ps_machine.specs.declared.journal.Refusal.TheVariants as refusal
use Rattle.ps_rules.specs.Choices.{with_block}
use Rattle.ps_rules.specs.Known.{kept}
use Rattle.ps_rules.specs.Legal.{has_hand}
use Rattle.ps_state.specs.State.{Stands}
use Rattle.ps_state.proofs.Awaiting.{edit-ahead, others-ahead}
use Rattle.ps_board.specs.declared.whole.Parts.{Parts}
use Rattle.ps_board.specs.Parts.{edit_of, MayCome}
use Rattle.ps_board.proofs.Ready.{block-grown, due-still, edit-grown, event-accepted, event-refused, legal-grown, on-err, stands-again, stands-grown}
use Rattle.ps_board.proofs.Sparing.{spent-from, spent-still}
use Rattle.ps_board.proofs.Touching.{listed}
use Rattle.ps_board.proofs.whole.Parts.record.Goals as goal

pub append-requires-clause-due : goal.append-requires-clause-due
append-requires-clause-due c =
    let old : Parts = c.args.self.now in
    let mid : Parts = c.make_room.new.self in
    let new : Parts = record mid { state = record mid.state { problem = c.edit.new.self } } in
    let grown = c.make_room.ensures.grown in
    let stands = stands-grown old mid c.requires.stands grown c.make_room.ensures.spare in
    let is : edit_of old c.args.by c.args.edit ≡ event.Edit c.args.by c.args.edit =
    sym (edit-grown old mid grown c.args.by c.args.edit) ∙ event-accepted mid c.edit.new.self c.args.by c.args.edit stands c.in-Ok.ensures.0 in
    let legal = legal-grown old mid grown (event.Edit c.args.by c.args.edit) (subst (MayCome old) is c.requires.legal) in
    let hand = subst (λ e. IsTrue (has_hand e c.args.hand)) is c.requires.hand in
    let places = c.in_ok-make_room.ensures.ok in
    due-still mid new c.args.hand (event.Edit c.args.by c.args.edit) stands refl refl legal hand tt
    (edit-ahead mid.input mid.entries.items c.args.by c.args.edit mid.state new.state stands.kept
    (record { expert = refl; due = refl; ledger = refl; grounds = refl; arcs = refl; tree = refl }) (sym (ap (kept mid.state.problem) c.in-Ok.ensures.0)))
    refl (λ act. refl) refl (record { ledger = record { acts = places.ledger.acts; spare = places.ledger.spare }; entries = places.entries; short = places.short })
    (record { entries = stands.spare.entries; ledger = stands.spare.ledger })

pub append_quiet-requires-clause-due : goal.append_quiet-requires-clause-due
append_quiet-requires-clause-due c =
    let old : Parts = c.args.self.now in
    let mid : Parts = c.make_room.new.self in
    let new : Parts = record mid { state = record mid.state { problem = c.edit.new.self } } in
    let grown = c.make_room.ensures.grown in
    let refused = subst (λ f. Edits mid.state.expert c.args.edit mid.state.problem (Err f) c.edit.new.self) c.in-Err-Refused.field-0-is c.in-Err-Refused.ensures in
    let stands = stands-grown old mid c.requires.stands grown c.make_room.ensures.spare in
    let e = event.Refused c.args.by (refusal.Edit c.in-Err-Refused.why) in
    let is : edit_of old c.args.by c.args.edit ≡ event.Refused c.args.by (refusal.Edit c.in-Err-Refused.why) =
    sym (edit-grown old mid grown c.args.by c.args.edit) ∙ event-refused mid c.in-Err-Refused.why c.args.by c.args.edit stands refused.0 in
    let legal = legal-grown old mid grown e (subst (MayCome old) is c.requires.legal) in
    let hand = subst (λ x. IsTrue (has_hand x c.args.hand)) is c.requires.hand in
    let places = c.in_ok-make_room.ensures.ok in
    let space = places.entries in
    let one : length mid.entries.items + 1 ≤ vec_capacity mid.entries = omega (arith, space) in
    due-still mid new c.args.hand e stands refl refl legal hand tt
    (others-ahead mid.input mid.entries.items e mid.state new.state (λ by edit h. absurd (cc)) stands.kept tt
    (record { base = record { expert = refl; due = refl; ledger = refl }; known = refused.1; grounds = refl; acts = refl; arcs = λ h. h; tree = λ h. h }))
    refl (λ act. refl) refl (record { ledger = record { acts = places.ledger.acts; spare = places.ledger.spare }; entries = one; short = places.short })
    (record { entries = stands.spare.entries; ledger = stands.spare.ledger })

pub returns-in_err-make_room-clause-stands : goal.returns-in_err-make_room-clause-stands
returns-in_err-make_room-clause-stands c = stands-grown c.args.self.now c.make_room.new.self c.requires.stands c.make_room.ensures.grown c.make_room.ensures.spare

pub returns-in-Ok-clause-did : goal.returns-in-Ok-clause-did
returns-in-Ok-clause-did c =
    let old : Parts = c.args.self.now in
    let mid : Parts = c.make_room.new.self in
    let grown = c.make_room.ensures.grown in
    let stands = stands-grown old mid c.requires.stands grown c.make_room.ensures.spare in
    let is = event-accepted mid c.edit.new.self c.args.by c.args.edit stands c.in-Ok.ensures.0 in
    record {
      input = c.append.ensures.input ∙ grown.input;
      entries = c.append.ensures.entries ∙ ap (with_block mid.input c.args.hand mid.entries.items) (sym is ∙ edit-grown old mid grown c.args.by c.args.edit)
          ∙ block-grown old mid grown c.args.hand (edit_of old c.args.by c.args.edit);
      spare = spent-from old (record mid { state = record mid.state { problem = c.edit.new.self } }) c.append.new.self grown.entries c.make_room.ensures.spare c.append.ensures.spare;
    }

pub returns-in-Err-Refused-clause-did : goal.returns-in-Err-Refused-clause-did
returns-in-Err-Refused-clause-did c =
    let old : Parts = c.args.self.now in
    let mid : Parts = c.make_room.new.self in
    let grown = c.make_room.ensures.grown in
    let refused = subst (λ f. Edits mid.state.expert c.args.edit mid.state.problem (Err f) c.edit.new.self) c.in-Err-Refused.field-0-is c.in-Err-Refused.ensures in
    let stands = stands-grown old mid c.requires.stands grown c.make_room.ensures.spare in
    let is = event-refused mid c.in-Err-Refused.why c.args.by c.args.edit stands refused.0 in
    record {
      input = c.append_quiet.ensures.input ∙ grown.input;
      entries = c.append_quiet.ensures.entries ∙ ap (with_block mid.input c.args.hand mid.entries.items) (sym is ∙ edit-grown old mid grown c.args.by c.args.edit)
          ∙ block-grown old mid grown c.args.hand (edit_of old c.args.by c.args.edit);
      spare = spent-from old (record mid { state = record mid.state { problem = c.edit.new.self } }) c.append_quiet.new.self grown.entries c.make_room.ensures.spare c.append_quiet.ensures.spare;
    }

pub returns-clause-stands : goal.returns-clause-stands
returns-clause-stands c =
    let mid : Parts = c.make_room.new.self in
    let failed = subst (λ f. Edits mid.state.expert c.args.edit mid.state.problem (Err f) c.edit.new.self) c.in-Err-OutOfMemory.field-0-is c.in-Err-OutOfMemory.ensures in
    let stands = stands-grown c.args.self.now mid c.requires.stands c.make_room.ensures.grown c.make_room.ensures.spare in
    stands-again mid _ stands refl refl (subst (λ k. Stands mid.input mid.entries.items (record mid.state { problem = k })) (sym failed.1) stands.kept) (λ act. refl)
    (record { entries = stands.spare.entries; ledger = stands.spare.ledger })

pub returns-in_err-make_room-clause-err : goal.returns-in_err-make_room-clause-err
returns-in_err-make_room-clause-err c =
    let grown = c.make_room.ensures.grown in
    on-err c.from_residual.result (record { input = grown.input; entries = grown.entries; spare = spent-still c.args.self.now c.make_room.new.self grown.entries c.make_room.ensures.spare })

pub append-requires-clause-changed : goal.append-requires-clause-changed
append-requires-clause-changed c = listed c.edited_by-changed.result c.as_slice.result.now c.as_slice.ensures ∙ ap option_to_list c.edited_by-changed.ensures
