use Rattle.std.proofs.Common.{sym, ◌∙◌}
use Rattle.ps_board.specs.declared.whole.Parts.{Parts}
use Rattle.ps_board.proofs.Keeping.{stop-legal}
use Rattle.ps_board.proofs.whole.Parts.record_work.Goals as goal

pub put-requires-clause-legal : goal.put-requires-clause-legal
put-requires-clause-legal c =
    let parts : Parts = c.args.self.now in
    stop-legal parts.input parts.entries.items c.requires.stands.sound c.requires.stands.history c.args.r c.args.by c.requires.works
    (sym (c.is_for_active.ensures parts.entries.items c.requires.stands.kept.told) ∙ c.if-is_for_active.false)
