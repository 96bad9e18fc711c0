use Rattle.std.proofs.Common.{◌≡◌, false, ap, subst, ◌∙◌}
use Rattle.ps_rules.specs.Runs.{is_running}
use Rattle.ps_board.specs.declared.whole.Parts.{Parts}
use Rattle.ps_board.specs.Board.{IsAtRest}
use Rattle.ps_board.proofs.Keeping.{closed-goes, closed-in}
use Rattle.ps_board.proofs.board.Board.is_running.Goals as goal

pub returns-clause-rest : goal.returns-clause-rest
returns-clause-rest c = λ closed.
    let parts : Parts = c.self.inside.parts.value in
    let halted = c.self.inside.halted in
    let shut : is_running parts.entries.items ≡ false = ap (λ v. is_running v.entries) c.self.view_is ∙ closed in
    subst IsAtRest c.self.view_is (record {
      halted = closed-goes halted (is_running parts.entries.items) c.self.invariant.live shut;
      all_in = closed-in parts c.self.inside.grants.items c.self.inside.heard.items halted c.self.invariant shut;
    })
