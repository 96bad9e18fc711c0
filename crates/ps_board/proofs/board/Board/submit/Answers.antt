use Rattle.std.proofs.Common.{subst, sym}
use Rattle.ps_rules.specs.Choices.{planned}
use Rattle.ps_board.specs.Board.{IsReserved}
use Rattle.ps_board.specs.Submits.{NoEditFrom}
use Rattle.ps_board.specs.declared.board.Shown.{Shown}
use Rattle.ps_board.specs.declared.whole.Parts.{Parts}
use Rattle.ps_board.proofs.Lent.{kept-lent, view-lent}
use Rattle.ps_board.proofs.Submitting.{kept-submitted}
use Rattle.ps_board.proofs.board.Board.submit.Goals as goal

pub invariant_of-self : goal.invariant_of-self
invariant_of-self c =
    let parts : Parts = c.deref_mut-parts.result.now in
    let held = kept-lent c.deref_mut-parts.ensures.value c.self.invariant in
    kept-submitted parts c.submit-result.new.self c.show.new.self c.args.hand c.self.inside.grants.items c.self.inside.heard.items c.self.inside.halted c.is_running-running.result
    c.args.answer c.submit-result.result held c.show.ensures.stands c.show.ensures.shown c.show.ensures.input c.show.ensures.entries
    c.submit-result.ensures.did c.submit-result.ensures.err c.submit-result.ensures.legal (c.is_running-running.ensures c.show.new.self.entries.items c.show.ensures.stands.kept.told.run)

pub returns-clause-reserved : goal.returns-clause-reserved
returns-clause-reserved c = λ none covered.
    let view = view-lent c.deref_mut-parts.ensures.value c.self.view_is in
    c.submit-result.ensures.reserved (subst (λ (v : Shown). NoEditFrom v.entries c.args.snapshot.at) (sym view) none)
    (subst (λ (v : Shown). IsReserved v c.args.hand (planned c.args.answer)) (sym view) covered)
