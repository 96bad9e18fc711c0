use Rattle.std.proofs.Common.{◌≡◌, false, ap, ◌∙◌}
use Rattle.ps_rules.specs.Runs.{is_running}
use Rattle.ps_board.specs.declared.whole.Parts.{Parts}
use Rattle.ps_board.proofs.Lent.{kept-lent, view-lent}
use Rattle.ps_board.proofs.Granting.{Spares}
use Rattle.ps_board.proofs.Keeping.{by-option, closed-goes, closed-spares, kept-result, not-halted}
use Rattle.ps_board.proofs.board.Board.command.Goals as goal

pub invariant_of-self : goal.invariant_of-self
invariant_of-self g c =
    let parts : Parts = c.deref_mut-parts.result.now in
    let held = kept-lent c.deref_mut-parts.ensures.value c.self.invariant in
    let view = view-lent c.deref_mut-parts.ensures.value c.self.view_is in
    let grants = c.self.inside.grants.items in
    let heard = c.self.inside.heard.items in
    let halted = c.self.inside.halted in
    let closed : is_running parts.entries.items ≡ false = ap (λ v. is_running v.entries) view ∙ c.requires.closed in
    kept-result parts c.command-result.new.self c.show.new.self 0 grants heard halted _ c.command-result.result held c.show.ensures.stands c.show.ensures.shown c.show.ensures.input
    c.show.ensures.entries c.command-result.ensures.did c.command-result.ensures.err c.command-result.ensures.legal
    (by-option (Spares parts.input grants) _ (λ e is. closed-spares parts grants heard halted held closed e))
    (not-halted halted _ (closed-goes halted (is_running parts.entries.items) held.live closed))
