use Rattle.std.proofs.Common.{◌∷◌, [], length, refl, ap, arith, sym, subst, length-append, ◌∙◌}
use Rattle.ps_machine.specs.declared.journal.Entry.{Entry}
use Rattle.ps_ledger.specs.Ledger.{TellsAll}
use Rattle.ps_ledger.proofs.LegalEvents.{legal_events_speak_of_ledgers}
use Rattle.ps_board.proofs.Forced.{block-long, broken-fit}
use Rattle.ps_board.proofs.Sparing.{spare-left}
use Rattle.ps_board.proofs.Quiet.{members-kept}
use Rattle.ps_board.proofs.Due.{block-made, due-broken, due-stopped, due-watching, stands-after, told-made}
use Rattle.ps_monitor.specs.Watched.{marked}
use Rattle.ps_board.proofs.Held.{held-before}
use Rattle.ps_board.proofs.Still.{told-still}
use Rattle.ps_board.proofs.whole.Parts.append_forcing.Goals as goal

pub enter-requires-clause-speaks : goal.enter-requires-clause-speaks
enter-requires-clause-speaks c =
    legal_events_speak_of_ledgers c.args.self.now.input c.args.self.now.entries.items c.args.what c.args.self.now.state.ledger c.requires.due.sound c.requires.due.history c.requires.due.short
    c.requires.due.kept.members c.requires.due.kept.told c.requires.due.legal

pub cancel_all-any-requires-clause-room : goal.cancel_all-any-requires-clause-room
cancel_all-any-requires-clause-room c =
    let told = c.enter.ensures.told c.args.self.now.entries.items (record { hand = c.args.hand; what = c.args.what }) refl c.requires.due.kept.told in
    let broke = due-broken c.args.self.now c.args.hand c.args.what c.enter.new.ledger c.broken_since-broken.result c.requires.due told c.broken_since-broken.ensures.list in
    let fit = broken-fit c.args.self.now.input c.args.self.now.entries.items c.args.hand c.args.what _ broke in
    omega (arith, fit, c.enter.ensures.len, c.enter.ensures.capacity, c.requires.due.space)

pub cancel_all-requires-clause-room : goal.cancel_all-requires-clause-room
cancel_all-requires-clause-room c =
    let told = c.enter.ensures.told c.args.self.now.entries.items (record { hand = c.args.hand; what = c.args.what }) refl c.requires.due.kept.told in
    let broke = due-broken c.args.self.now c.args.hand c.args.what c.enter.new.ledger c.broken_since-broken.result c.requires.due told c.broken_since-broken.ensures.list in
    let stopped = due-stopped c.args.self.now c.args.hand c.args.what c.enter.new.ledger _ c.broken_since-broken.result c.others-others.result c.only_if-stopped.result c.is_fail-fails.result c.cancel_all-any.result c.requires.due told
    c.broken_since-broken.ensures.each c.others-others.ensures c.only_if-stopped.ensures c.is_fail-fails.ensures c.cancel_all-any.ensures.any c.cancel_all-any.ensures.acts in
    let long = block-long c.args.self.now.input c.args.self.now.entries.items c.args.hand c.args.what _ _ broke stopped in
    omega (arith, long, c.enter.ensures.len, c.enter.ensures.capacity, c.cancel_all-any.ensures.len, c.cancel_all-any.ensures.capacity, c.requires.due.space)

pub returns-clause-entries : goal.returns-clause-entries
returns-clause-entries c =
    let told = c.enter.ensures.told c.args.self.now.entries.items (record { hand = c.args.hand; what = c.args.what }) refl c.requires.due.kept.told in
    let broke = due-broken c.args.self.now c.args.hand c.args.what c.enter.new.ledger c.broken_since-broken.result c.requires.due told c.broken_since-broken.ensures.list in
    let stopped = due-stopped c.args.self.now c.args.hand c.args.what c.enter.new.ledger _ c.broken_since-broken.result c.others-others.result c.only_if-stopped.result c.is_fail-fails.result c.cancel_all-any.result c.requires.due told
    c.broken_since-broken.ensures.each c.others-others.ensures c.only_if-stopped.ensures c.is_fail-fails.ensures c.cancel_all-any.ensures.any c.cancel_all-any.ensures.acts in
    block-made c.args.self.now c.args.hand c.args.what (marked c.broken_since-broken.result (length c.enter.new.ledger.acts.states.items)) (marked c.only_if-stopped.result (length c.cancel_all-any.new.ledger.acts.states.items))
    c.enter.new.entries.items c.cancel_all-any.new.entries.items c.cancel_all.new.entries.items
    c.enter.ensures.items c.cancel_all-any.ensures.entries c.cancel_all.ensures.entries broke stopped

pub returns-clause-stands : goal.returns-clause-stands
returns-clause-stands c =
    let told = c.enter.ensures.told c.args.self.now.entries.items (record { hand = c.args.hand; what = c.args.what }) refl c.requires.due.kept.told in
    let block = ap length (returns-clause-entries c) in
    stands-after c.args.self.now _ c.args.hand c.args.what c.requires.due refl refl (returns-clause-entries c)
    (told-made c.args.self.now c.args.hand c.args.what (marked c.broken_since-broken.result (length c.enter.new.ledger.acts.states.items)) (marked c.only_if-stopped.result (length c.cancel_all-any.new.ledger.acts.states.items))
    c.enter.new.entries.items c.cancel_all-any.new.entries.items c.cancel_all.new.entries.items c.enter.new.ledger c.cancel_all-any.new.ledger c.cancel_all.new.ledger
    c.enter.ensures.items c.cancel_all-any.ensures.entries c.cancel_all.ensures.entries told c.cancel_all-any.ensures.told c.cancel_all.ensures.told)
    (c.cancel_all.ensures.watching c.args.self.now.state.grounds.items (c.cancel_all-any.ensures.watching c.args.self.now.state.grounds.items (due-watching c.args.self.now c.args.hand c.args.what c.enter.new.ledger c.requires.due told)))
    (c.cancel_all.ensures.members c.args.self.now.input (c.cancel_all-any.ensures.members c.args.self.now.input
    (members-kept c.args.self.now.input c.args.self.now.state.ledger c.enter.new.ledger c.enter.ensures.members c.requires.due.kept.members)))
    (spare-left c.args.self.now
    (record {
      input = c.args.self.now.input;
      entries = c.cancel_all.new.entries;
      state = record c.args.self.now.state { ledger = c.cancel_all.new.ledger };
      monitor = c.cancel_all.new.monitor;
      spare = c.saturating_sub-self.result;
    })
    c.requires.due.spare (omega (arith, c.saturating_sub-self.ensures, c.len.ensures, c.len-before.ensures, c.cancel_all.new.entries.ok, c.args.self.now.entries.ok))
    (omega (arith, c.enter.ensures.len, c.cancel_all-any.ensures.len, c.cancel_all.ensures.len)) (omega (arith, block, c.requires.due.space))
    (omega (arith, c.enter.ensures.capacity, c.cancel_all-any.ensures.capacity, c.cancel_all.ensures.capacity))
    (c.cancel_all.ensures.spare _ (c.cancel_all-any.ensures.spare _ (c.enter.ensures.spare c.args.self.now.spare c.requires.due.spare.ledger))))

pub enter-requires-clause-room : goal.enter-requires-clause-room
enter-requires-clause-room c = c.requires.due.room

pub broken_since-broken-requires : goal.broken_since-broken-requires
broken_since-broken-requires c =
    held-before c.args.self.now c.args.hand c.args.what c.args.changed.now c.started_by-started.result c.requires.due c.requires.changed c.started_by-started.ensures

pub returns-then-active-eq0-clause-entries : goal.returns-then-active-eq0-clause-entries
returns-then-active-eq0-clause-entries c =
    let told = c.enter.ensures.told c.args.self.now.entries.items (record { hand = c.args.hand; what = c.args.what }) refl c.requires.due.kept.told in
    c.enter.ensures.items ∙ sym (told-still c.args.self.now c.args.hand c.args.what c.enter.new.ledger told (sym c.count_active-active.ensures ∙ c.if-active-eq0.true))

pub returns-then-active-eq0-clause-stands : goal.returns-then-active-eq0-clause-stands
returns-then-active-eq0-clause-stands c =
    let x : Entry = record { hand = c.args.hand; what = c.args.what } in
    let told = c.enter.ensures.told c.args.self.now.entries.items x refl c.requires.due.kept.told in
    let alone = told-still c.args.self.now c.args.hand c.args.what c.enter.new.ledger told (sym c.count_active-active.ensures ∙ c.if-active-eq0.true) in
    let exact = ap length alone ∙ length-append c.args.self.now.entries.items (x ∷ []) in
    stands-after c.args.self.now _ c.args.hand c.args.what c.requires.due refl refl (c.enter.ensures.items ∙ sym alone)
    (subst (λ es. TellsAll es c.enter.new.ledger) (sym c.enter.ensures.items) told)
    (due-watching c.args.self.now c.args.hand c.args.what c.enter.new.ledger c.requires.due told)
    (members-kept c.args.self.now.input c.args.self.now.state.ledger c.enter.new.ledger c.enter.ensures.members c.requires.due.kept.members)
    (spare-left c.args.self.now
    (record {
      input = c.args.self.now.input;
      entries = c.enter.new.entries;
      state = record c.args.self.now.state { ledger = c.enter.new.ledger };
      monitor = c.args.self.now.monitor;
      spare = c.saturating_sub-left.result;
    })
    c.requires.due.spare (omega (arith, c.saturating_sub-left.ensures, c.enter.ensures.len)) (omega (arith, c.enter.ensures.len))
    (omega (arith, c.enter.ensures.len, exact, c.requires.due.space)) c.enter.ensures.capacity (c.enter.ensures.spare c.args.self.now.spare c.requires.due.spare.ledger))
