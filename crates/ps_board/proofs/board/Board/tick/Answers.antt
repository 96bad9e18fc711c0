use Rattle.std.proofs.Common.{◌≡◌, true, ap, sym, subst, ◌∙◌}
use Rattle.std.proofs.lemmas.Result.{IfOk-weaker}
use Rattle.ps_rules.specs.Runs.{is_running}
use Rattle.ps_board.specs.declared.board.Shown.{Shown}
use Rattle.ps_board.specs.declared.whole.Parts.{Parts}
use Rattle.ps_board.specs.Board.{GoesOn, tick_answer}
use Rattle.ps_board.specs.Ticks.{answer_of, tick_of}
use Rattle.ps_actors.specs.Ticks.{IsTickers}
use Rattle.ps_board.proofs.Lent.{kept-lent, view-lent}
use Rattle.ps_board.proofs.Granting.{Spares}
use Rattle.ps_board.proofs.Keeping.{first-legal, kept-result, not-halted, on-ok, some-weaker, ticks-spare}
use Rattle.ps_board.proofs.Stuck.{goes-on, tick-answers}
use Rattle.ps_board.proofs.board.Board.tick.Goals as goal

pub invariant_of-self : goal.invariant_of-self
invariant_of-self c =
    let parts : Parts = c.deref_mut-parts.result.now in
    let held = kept-lent c.deref_mut-parts.ensures.value c.self.invariant in
    let grants = c.self.inside.grants.items in
    kept-result parts c.tick-result.new.self c.show.new.self c.args.hand grants c.self.inside.heard.items c.self.inside.halted (tick_of parts) c.tick-result.result held c.show.ensures.stands
    c.show.ensures.shown c.show.ensures.input c.show.ensures.entries c.tick-result.ensures.did c.tick-result.ensures.err
    (on-ok c.tick-result.result (first-legal parts.input parts.entries.items _))
    (some-weaker IsTickers (Spares parts.input grants) (tick_of parts) (λ e h. ticks-spare parts.input grants e h.1) c.tick-result.ensures.its)
    (not-halted c.self.inside.halted (tick_of parts) c.if-self.false)

pub returns-else-self-clause-nobody_stuck : goal.returns-else-self-clause-nobody_stuck
returns-else-self-clause-nobody_stuck c =
    let parts : Parts = c.deref_mut-parts.result.now in
    let held = kept-lent c.deref_mut-parts.ensures.value c.self.invariant in
    let view = view-lent c.deref_mut-parts.ensures.value c.self.view_is in
    let live : is_running parts.entries.items ≡ true = ap (λ v. is_running v.entries) view ∙ sym c.is_running.ensures.running ∙ c.if-not-is_running.false in
    IfOk-weaker c.tick-result.result _ _
    (λ t answer idle.
    subst GoesOn view (goes-on _ held.parts.sound held.parts.history live c.if-self.false (sym answer ∙ idle)))
    c.tick-result.ensures.answer

pub returns-else-self-clause-answer : goal.returns-else-self-clause-answer
returns-else-self-clause-answer c =
    let parts : Parts = c.deref_mut-parts.result.now in
    let view = view-lent c.deref_mut-parts.ensures.value c.self.view_is in
    let live : is_running parts.entries.items ≡ true = ap (λ v. is_running v.entries) view ∙ sym c.is_running.ensures.running ∙ c.if-not-is_running.false in
    let b : Shown = record { input = parts.input; entries = parts.entries.items; grants = c.self.inside.grants.items; halted = c.self.inside.halted; spare = parts.spare } in
    let same : answer_of parts ≡ tick_answer b = sym (tick-answers b live c.if-self.false) in
    let told : answer_of parts ≡ tick_answer c.args.self.now = same ∙ ap tick_answer view in
    IfOk-weaker c.tick-result.result (λ t. t ≡ answer_of parts) (λ t. t ≡ tick_answer c.args.self.now) (λ t answer. answer ∙ told) c.tick-result.ensures.answer
