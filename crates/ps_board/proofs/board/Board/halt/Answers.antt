use Rattle.std.proofs.Common.{ap, sym, ◌∙◌}
use Rattle.ps_rules.specs.Runs.{is_running}
use Rattle.ps_board.proofs.board.Board.halt.Goals as goal

pub invariant_of-self : goal.invariant_of-self
invariant_of-self c =
    record {
      parts = c.self.invariant.parts;
      shown = c.self.invariant.shown;
      out = c.self.invariant.out;
      heard = c.self.invariant.heard;
      live = λ h. ap (λ v. is_running v.entries) c.self.view_is ∙ sym c.is_running.ensures.running ∙ c.if-is_running.true;
    }
