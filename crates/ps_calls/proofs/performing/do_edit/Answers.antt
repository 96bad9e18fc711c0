use Rattle.std.proofs.Common.{List, Option, subst}
use Rattle.ps_machine.specs.declared.inputs.Line.{Line}
use Rattle.ps_edit_words.specs.declared.words.EditWord.{EditWord}
use Rattle.ps_editing.specs.Lines.{worded}
use Rattle.ps_editing.specs.Runs.{WritesRun}
use Rattle.ps_calls.proofs.Performed.{prepared}
use Rattle.ps_calls.proofs.performing.do_edit.Goals as goal

pub returns : goal.returns
returns g c =
    let e = c.args.editing in
    let old = g.O.Sink.shown c.args.out.now in
    let new = g.O.Sink.shown c.run_edits.new.out in
    prepared e old new c.run_edits.result
    (subst (λ (ws : List (Option EditWord)). WritesRun e.domain e.names (worded e.lines.items ws) old new c.run_edits.result) c.as_slice-2.ensures.value
    (subst (λ (ls : List Line). WritesRun e.domain e.names (worded ls c.as_slice-2.result.now) old new c.run_edits.result) c.as_slice.ensures.value c.run_edits.ensures))
