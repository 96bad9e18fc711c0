use Rattle.std.proofs.Common.{sym, ◌∙◌}
use Rattle.ps_rules.specs.Legal.{is_legal}
use Rattle.ps_actors.proofs.First.{passes}
use Rattle.ps_board.specs.declared.whole.Parts.{Parts}
use Rattle.ps_board.proofs.Ticking.{open-now}
use Rattle.ps_board.proofs.whole.Parts.perform.Goals as goal

pub choose-requires-clause-legal : goal.choose-requires-clause-legal
choose-requires-clause-legal c =
    let parts : Parts = c.args.self.now in
    passes (is_legal parts.input parts.entries.items) _ c.in-Some.choice (sym c.in-Some.is ∙ c.performed.ensures.first parts.entries.items (open-now parts c.requires.stands c.requires.live) c.requires.heard)
