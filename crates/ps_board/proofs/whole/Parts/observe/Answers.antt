use Rattle.std.proofs.Common.{Some, ap, sym, ◌∙◌}
use Rattle.std.specs.Option.{option_copied}
use Rattle.ps_board.proofs.Observing.{observer-legal}
use Rattle.ps_board.proofs.whole.Parts.observe.Goals as goal

pub record-requires-clause-legal : goal.record-requires-clause-legal
record-requires-clause-legal c =
    observer-legal c.args.self.now.input c.args.self.now.entries.items c.args.name c.in_ok-next-in-Some.next c.requires.running
    (sym (c.next_seen.ensures c.args.self.now.entries.items c.requires.stands.kept) ∙ ap option_copied c.in-Some.is ∙ ap Some (sym c.in_ok-next-in-Some.ensures))
