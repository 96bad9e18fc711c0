use Rattle.std.proofs.Common.{◌≡◌, ◌+◌, List, ◌∷◌, [], length, refl, ap, arith, sym, subst, length-append, ◌∙◌}
use Rattle.ps_machine.specs.declared.journal.Entry.{Entry}
use Rattle.ps_rules.specs.Choices.{with_block}
use Rattle.ps_ledger.specs.Ledger.{TellsAll}
use Rattle.ps_ledger.proofs.LegalEvents.{legal_events_speak_of_ledgers}
use Rattle.ps_board.proofs.Quiet.{members-kept, quiet-block}
use Rattle.ps_board.proofs.Due.{due-watching, stands-after}
use Rattle.ps_board.proofs.Lengths.{quiet-exact}
use Rattle.ps_board.proofs.Sparing.{spare-left}
use Rattle.ps_board.proofs.whole.Parts.append_quiet.Goals as goal

pub enter-requires-clause-speaks : goal.enter-requires-clause-speaks
enter-requires-clause-speaks c =
    legal_events_speak_of_ledgers c.args.self.now.input c.args.self.now.entries.items c.args.what c.args.self.now.state.ledger c.requires.due.sound c.requires.due.history
    c.requires.due.short c.requires.due.kept.members c.requires.due.kept.told c.requires.due.legal

pub enter-requires-clause-room : goal.enter-requires-clause-room
enter-requires-clause-room c = c.requires.due.room

pub enter-requires-clause-place : goal.enter-requires-clause-place
enter-requires-clause-place c =
    let x : Entry = record { hand = c.args.hand; what = c.args.what } in
    let es : List Entry = c.args.self.now.entries.items in
    let long : length (with_block c.args.self.now.input c.args.hand es c.args.what) ≡ length es + 1 =
    ap length (quiet-block c.args.self.now.input es c.args.hand c.args.what c.requires.due.history c.requires.quiet) ∙ length-append es (x ∷ []) in
    let space = c.requires.due.space in
    omega (arith, long, space)

pub returns-clause-entries : goal.returns-clause-entries
returns-clause-entries c =
    c.enter.ensures.items ∙ sym (quiet-block c.args.self.now.input c.args.self.now.entries.items c.args.hand c.args.what c.requires.due.history c.requires.quiet)

pub returns-clause-stands : goal.returns-clause-stands
returns-clause-stands c =
    let told = c.enter.ensures.told c.args.self.now.entries.items (record { hand = c.args.hand; what = c.args.what }) refl c.requires.due.kept.told in
    let exact = quiet-exact c.args.self.now.input c.args.self.now.entries.items c.args.hand c.args.what c.requires.due.history c.requires.quiet in
    let space = c.requires.due.space in
    stands-after c.args.self.now _ c.args.hand c.args.what c.requires.due refl refl (returns-clause-entries c)
    (subst (λ es. TellsAll es c.enter.new.ledger) (sym c.enter.ensures.items) told)
    (due-watching c.args.self.now c.args.hand c.args.what c.enter.new.ledger c.requires.due told)
    (members-kept c.args.self.now.input c.args.self.now.state.ledger c.enter.new.ledger c.enter.ensures.members c.requires.due.kept.members)
    (spare-left c.args.self.now
    (record {
      input = c.args.self.now.input;
      entries = c.enter.new.entries;
      state = record c.args.self.now.state { ledger = c.enter.new.ledger };
      monitor = c.args.self.now.monitor;
      spare = c.saturating_sub-self.result;
    })
    c.requires.due.spare (omega (arith, c.saturating_sub-self.ensures, c.enter.ensures.len)) (omega (arith, c.enter.ensures.len))
    (omega (arith, c.enter.ensures.len, exact, space)) c.enter.ensures.capacity (c.enter.ensures.spare c.args.self.now.spare c.requires.due.spare.ledger))
