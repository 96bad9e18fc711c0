use Rattle.std.proofs.Common.{◌≡◌, ◌+◌, ◌≤◌, List, is_ok, length, refl, ap, arith, sym, subst, ◌∙◌}
use Rattle.std.proofs.lemmas.Bool.{true≢false}
use Rattle.std.specs.Vec.{vec_capacity}
use Rattle.ps_action.specs.declared.acts.GroundAction.{GroundAction}
use Rattle.ps_rules.specs.Known.{grounds}
use Rattle.ps_rules.specs.Runs.{plan, state}
use Rattle.ps_ledger.specs.Ledger as ledger
use Rattle.ps_ledger.specs.Ledger.{HasRoom}
use Rattle.ps_monitor.specs.Watched.{watched}
use Rattle.ps_state.specs.State.{Stands}
use Rattle.ps_state.specs.declared.state.State.{State}
use Rattle.ps_state.proofs.Awaiting.{keeps-standing}
use Rattle.ps_board.specs.declared.whole.Parts.{Parts}
use Rattle.ps_board.specs.Parts.{watch_for}
use Rattle.ps_board.proofs.Lengths.{block-exact, block-some, plans-none}
use Rattle.ps_board.proofs.Ready.{due, legal-grown, on-err, room-grown, stands-again, stands-grown, watching-told}
use Rattle.ps_board.proofs.Touching.{touched-still}
use Rattle.ps_board.proofs.Watches.{same-grounds, start-there, watches-again, watches-next}
use Rattle.ps_board.proofs.whole.Parts.prepare.Goals as goal

pub make_room-requires-clause-some : goal.make_room-requires-clause-some
make_room-requires-clause-some c =
    let old : Parts = c.args.self.now in
    let some = block-some old.input old.entries.items c.args.what.now old.state.ledger c.requires.stands.kept.told.acts c.requires.legal in
    omega (arith, some, c.most_entries-most.ensures)

pub returns-in_err-make_room-clause-err : goal.returns-in_err-make_room-clause-err
returns-in_err-make_room-clause-err c = on-err _ (stands-grown c.args.self.now c.make_room.new.self c.requires.stands c.make_room.ensures.grown c.make_room.ensures.spare)

pub returns-in_err-make_room-clause-reserved : goal.returns-in_err-make_room-clause-reserved
returns-in_err-make_room-clause-reserved c = λ covered.
    let old : Parts = c.args.self.now in
    let e = c.args.what.now in
    let exact = block-exact old.input old.entries.items c.args.hand e old.state.ledger c.requires.stands.history c.requires.stands.kept.told.acts c.requires.legal covered.kind in
    let room = covered.room in
    let ok = c.make_room.ensures.reserved (plans-none e covered.kind) (omega (arith, exact, room, c.most_entries-most.ensures)) in
    absurd (true≢false (sym ok ∙ ap is_ok c.in_err-make_room.was))

pub returns-in_err-changed-clause-err : goal.returns-in_err-changed-clause-err
returns-in_err-changed-clause-err c = on-err _ (stands-grown c.args.self.now c.make_room.new.self c.requires.stands c.make_room.ensures.grown c.make_room.ensures.spare)

pub watch_started-requires-clause-few : goal.watch_started-requires-clause-few
watch_started-requires-clause-few c =
    let stands = stands-grown c.args.self.now c.make_room.new.self c.requires.stands c.make_room.ensures.grown c.make_room.ensures.spare in
    let few = stands.kept.few in
    let long = ap length c.deref-2.ensures.value ∙ stands.all in
    omega (arith, long, few)

pub watch_started-requires-clause-there : goal.watch_started-requires-clause-there
watch_started-requires-clause-there c =
    let old : Parts = c.args.self.now in
    let mid : Parts = c.make_room.new.self in
    let stands = stands-grown old mid c.requires.stands c.make_room.ensures.grown c.make_room.ensures.spare in
    start-there mid.input mid.entries.items c.args.what.now (length c.deref-2.result.now) (ap length c.deref-2.ensures.value ∙ stands.all)
    (legal-grown old mid c.make_room.ensures.grown c.args.what.now c.requires.legal)

pub returns-in_err-watch_started-clause-err : goal.returns-in_err-watch_started-clause-err
returns-in_err-watch_started-clause-err c =
    let mid : Parts = c.make_room.new.self in
    let stands = stands-grown c.args.self.now mid c.requires.stands c.make_room.ensures.grown c.make_room.ensures.spare in
    on-err _ (stands-again mid _ stands refl refl stands.kept c.in_err-watch_started.ensures.err (record { entries = stands.spare.entries; ledger = stands.spare.ledger }))

pub returns-in-Ok-clause-ok : goal.returns-in-Ok-clause-ok
returns-in-Ok-clause-ok c =
    let old : Parts = c.args.self.now in
    let mid : Parts = c.make_room.new.self in
    let grown = c.make_room.ensures.grown in
    let es = old.entries.items in
    let e = c.args.what.now in
    let stood = keeps-standing old.input es old.state mid.state grown.kept c.requires.stands.kept in
    let ahead = c.in-Ok.ensures.ok old.input es stood in
    let gs : c.deref-2.result.now ≡ grounds old.input.domain (plan es) = c.deref-2.ensures.value ∙ stood.grounds in
    let places = c.in_ok-make_room.ensures.ok in
    let space = places.entries in
    let room = room-grown old mid c.requires.stands.spare grown c.make_room.ensures.spare in
    let same : mid.state.ledger ≡ c.advance.new.self.ledger = sym c.in-Ok.ensures.base.ledger in
    due old _ c.args.hand e c.requires.stands grown.input grown.entries c.requires.legal c.requires.by c.requires.plan ahead
    (watches-next old.input es e c.deref-2.result.now c.advance.new.self.grounds.items mid.monitor c.watch_started.new.monitor c.unwatch_ended.new.monitor gs ahead.grounds
    (λ act. ap (λ m. watched m act) grown.monitor ∙ watching-told old c.requires.stands act ∙ ap (λ (xs : List GroundAction). watch_for xs act (state act es)) (c.requires.stands.kept.grounds ∙ sym gs))
    c.in_ok-watch_started.ensures.ok c.unwatch_ended.ensures)
    (record { ledger = subst (HasRoom e) same places.ledger; entries = subst (λ n. length mid.entries.items + n ≤ vec_capacity mid.entries) c.most_entries-most.ensures space; short = places.short })
    (record { entries = room.entries; ledger = subst (ledger.HasSpare mid.spare) same room.ledger })

pub returns-in-Ok-clause-changed : goal.returns-in-Ok-clause-changed
returns-in-Ok-clause-changed c =
    let old : Parts = c.args.self.now in
    let mid : Parts = c.make_room.new.self in
    let es = old.entries.items in
    let e = c.args.what.now in
    let stood = keeps-standing old.input es old.state mid.state c.make_room.ensures.grown.kept c.requires.stands.kept in
    let ahead = c.in-Ok.ensures.ok old.input es stood in
    let gs : c.deref.result.now ≡ grounds old.input.domain (plan es) = c.deref.ensures.value ∙ stood.grounds in
    c.in_ok-changed.ensures.ok
    ∙ touched-still c.deref.result.now c.advance.new.self.grounds.items e (same-grounds old.input es e c.deref.result.now c.advance.new.self.grounds.items gs ahead.grounds)

pub returns-in-Err-clause-err : goal.returns-in-Err-clause-err
returns-in-Err-clause-err c =
    let old : Parts = c.args.self.now in
    let mid : Parts = c.make_room.new.self in
    let grown = c.make_room.ensures.grown in
    let es = old.entries.items in
    let e = c.args.what.now in
    let stood = keeps-standing old.input es old.state mid.state grown.kept c.requires.stands.kept in
    let gs : c.deref-2.result.now ≡ grounds old.input.domain (plan es) = c.deref-2.ensures.value ∙ stood.grounds in
    let room = room-grown old mid c.requires.stands.spare grown c.make_room.ensures.spare in
    let same : mid.state ≡ c.advance.new.self = sym c.in-Err.ensures.err in
    let watching = watches-again old.input es e c.deref-2.result.now mid.monitor c.watch_started.new.monitor c.unwatch_started.new.monitor c.requires.legal
    (λ act. ap (λ m. watched m act) grown.monitor ∙ watching-told old c.requires.stands act ∙ ap (λ (xs : List GroundAction). watch_for xs act (state act es)) (c.requires.stands.kept.grounds ∙ sym gs))
    c.in_ok-watch_started.ensures.ok c.unwatch_started.ensures in
    stands-again old _ c.requires.stands grown.input grown.entries (subst (Stands old.input es) same stood) (λ act. watching act ∙ ap (λ m. watched m act) grown.monitor)
    (record { entries = room.entries; ledger = subst (λ (p : State). ledger.HasSpare mid.spare p.ledger) same room.ledger })
