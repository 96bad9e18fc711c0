use Rattle.std.proofs.Common.{◌≡◌, true, Option, Some, None, is_some, if◌then◌else◌, refl, ap, sym, subst, ◌∙◌}
use Rattle.ps_machine.specs.declared.journal.Event.{Event}
use Rattle.ps_rules.specs.Choices.{observer_turn}
use Rattle.ps_rules.specs.Runs.{is_running}
use Rattle.ps_board.specs.declared.board.Shown.{Shown}
use Rattle.ps_board.specs.declared.whole.Parts.{Parts}
use Rattle.ps_board.specs.declared.works.Turn.TheVariants.{Did, Nothing}
use Rattle.ps_board.specs.Board.{answer_of, Appended, observing}
use Rattle.ps_board.specs.Parts.{observed_by}
use Rattle.ps_board.proofs.Lent.{kept-lent, view-lent}
use Rattle.ps_board.proofs.Appending.{appended-shown}
use Rattle.ps_board.proofs.Keeping.{kept-result, not-halted, observers-legal, observers-spare, on-ok}
use Rattle.ps_board.proofs.Stuck.{observes}
use Rattle.ps_board.proofs.board.Board.observer_turn.Goals as goal

pub invariant_of-self-then-not-self : goal.invariant_of-self-then-not-self
invariant_of-self-then-not-self c =
    let parts : Parts = c.deref_mut-parts.result.now in
    let held = kept-lent c.deref_mut-parts.ensures.value c.self.invariant in
    let view = view-lent c.deref_mut-parts.ensures.value c.self.view_is in
    let grants = c.self.inside.grants.items in
    let name = c.observer_name-name.result in
    let live : is_running parts.entries.items ≡ true = ap (λ v. is_running v.entries) view ∙ sym c.is_running.ensures.running ∙ c.if-is_running.true in
    kept-result parts c.observe-result.new.self c.show.new.self c.args.hand grants c.self.inside.heard.items c.self.inside.halted (observed_by parts name) c.observe-result.result held
    c.show.ensures.stands c.show.ensures.shown c.show.ensures.input c.show.ensures.entries c.observe-result.ensures.did c.observe-result.ensures.err
    (on-ok c.observe-result.result (observers-legal parts.input name parts.entries.items live)) (observers-spare parts.input grants name parts.entries.items)
    (not-halted c.self.inside.halted (observed_by parts name) c.if-not-self.true)

told-is : (o : Option Event) → (if is_some o then Did else Nothing) ≡ answer_of o
told-is None = refl
told-is (Some e) = refl

pub returns-in_ok-result-clause-answer : goal.returns-in_ok-result-clause-answer
returns-in_ok-result-clause-answer c =
    let parts : Parts = c.deref_mut-parts.result.now in
    let view = view-lent c.deref_mut-parts.ensures.value c.self.view_is in
    let b : Shown = c.args.self.now in
    let name = c.observer_name-name.result in
    let live : is_running parts.entries.items ≡ true = ap (λ v. is_running v.entries) view ∙ sym c.is_running.ensures.running ∙ c.if-is_running.true in
    let does : observing b c.args.o ≡ observed_by parts name =
    observes b (sym (ap (λ v. is_running v.entries) view) ∙ live) (sym (ap (λ v. v.halted) view) ∙ c.if-not-self.true) c.args.o name c.observer_name-name.ensures
    ∙ sym (ap (λ v. observer_turn v.input name v.entries) view) in
    c.told.ensures ∙ ap (λ t. if t then Did else Nothing) c.in_ok-result.ensures.answer ∙ told-is (observed_by parts name) ∙ ap answer_of (sym does)

pub returns-in_ok-result-clause-did : goal.returns-in_ok-result-clause-did
returns-in_ok-result-clause-did c =
    let parts : Parts = c.deref_mut-parts.result.now in
    let view = view-lent c.deref_mut-parts.ensures.value c.self.view_is in
    let b : Shown = c.args.self.now in
    let name = c.observer_name-name.result in
    let live : is_running parts.entries.items ≡ true = ap (λ v. is_running v.entries) view ∙ sym c.is_running.ensures.running ∙ c.if-is_running.true in
    let does : observing b c.args.o ≡ observed_by parts name =
    observes b (sym (ap (λ v. is_running v.entries) view) ∙ live) (sym (ap (λ v. v.halted) view) ∙ c.if-not-self.true) c.args.o name c.observer_name-name.ensures
    ∙ sym (ap (λ v. observer_turn v.input name v.entries) view) in
    let after : Shown = record { input = c.show.new.self.input; entries = c.show.new.self.entries.items; grants = c.self.inside.grants.items; halted = c.self.inside.halted; spare = c.show.new.self.spare } in
    subst (λ done. Appended c.args.hand done b after) (sym does)
    (subst (λ (was : Shown). Appended c.args.hand (observed_by parts name) was after) view
    (appended-shown parts c.observe-result.new.self c.show.new.self c.args.hand (observed_by parts name) c.self.inside.grants.items c.self.inside.halted c.show.ensures.input c.show.ensures.entries
    c.show.ensures.spare c.in_ok-result.ensures.did))
