use Rattle.std.proofs.Common.{◌<◌, ◌≤◌, IfSome, length, ap, sym, subst, ◌∙◌, arith}
use Rattle.std.specs.List.{slice_get}
use Rattle.std.proofs.lemmas.Option.{slice_get_past}
use Rattle.ps_rules.specs.Lines.{due_lines}
use Rattle.ps_rules.specs.Sound.{IsSoundLine}
use Rattle.ps_rules.proofs.Notes.{got-has}
use Rattle.ps_state.proofs.Due.{due-first}
use Rattle.ps_state.proofs.state.State.next_line.Goals as goal

pub returns-then-answered-due-clause-line : goal.returns-then-answered-due-clause-line
returns-then-answered-due-clause-line c = λ es s.
    let lines = c.args.input.now.lines in
    let n = c.answered-answered.result in
    let lt : n < length (due_lines lines) = omega (arith, s.due) in
    c.line_at.ensures ∙ sym (due-first lines n lt) ∙ ap (slice_get (due_lines lines)) (c.answered-answered.ensures es s.told.lines)

pub returns-else-answered-due-clause-line : goal.returns-else-answered-due-clause-line
returns-else-answered-due-clause-line c = λ es s.
    let lines = c.args.input.now.lines in
    let n = c.answered-answered.result in
    let past : length (due_lines lines) ≤ n = omega (arith, s.due) in
    sym (slice_get_past (due_lines lines) n past) ∙ ap (slice_get (due_lines lines)) (c.answered-answered.ensures es s.told.lines)

pub returns-then-answered-due-clause-sound : goal.returns-then-answered-due-clause-sound
returns-then-answered-due-clause-sound c = λ sound.
    subst (λ o. IfSome o IsSoundLine) (sym c.line_at.ensures) (got-has IsSoundLine c.args.input.now.lines c.answered-answered.result sound.each_line)
