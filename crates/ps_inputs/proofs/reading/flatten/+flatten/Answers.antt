use Rattle.std.proofs.Common.{◌-◌, subst, arith}
use Rattle.std.proofs.lemmas.Result.{err_from_is_err_and}
use Rattle.ps_text.specs.ScriptLines.{script_lines}
use Rattle.ps_script.specs.Lines.{IsRead}
use Rattle.ps_script.specs.declared.reading.Read.{Read}
use Rattle.ps_inputs.proofs.Flattening.{loop_done, loop_ended, loop_last, loop_next, opens_deep, opens_file, opens_nothing, takes_command, takes_nothing, takes_plan, takes_source}
use Rattle.ps_inputs.proofs.reading.flatten.+flatten.Goals as goal

pub open-returns-then-levels-eq0 : goal.open-returns-then-levels-eq0
open-returns-then-levels-eq0 g t c =
    opens_deep c.args.levels c.args.file.now (g.F.Files.shown c.args.files.now) c.args.script.now c.put_deep.new.script c.put_deep.result (omega arith) c.put_deep.ensures

pub open-returns-in_err-text : goal.open-returns-in_err-text
open-returns-in_err-text g t c =
    let p = err_from_is_err_and c.from_residual.result c.from_residual.ensures.1 in
    rw (p.1, p.2) (opens_nothing c.args.levels c.args.file.now (g.F.Files.shown c.args.files.now) (g.F.Files.shown c.read_text.new.files) c.args.script.now c.args.script.now (c.args.levels - 1) c.in_err-text.field-0.0 (omega arith) c.in_err-text.ensures.reads)

pub open-returns : goal.open-returns
open-returns g t c =
    opens_file c.args.levels c.args.file.now (g.F.Files.shown c.args.files.now) c.args.script.now c.walk.new.script c.walk.result (c.args.levels - 1) (g.F.Files.shown c.read_text.new.files) (g.F.Files.shown c.walk.new.files) c.in_ok-text.text c.as_slice.result.now
    (omega arith) c.as_slice.ensures.value c.in_ok-text.ensures.reads c.walk.ensures

pub take-returns-in-Nothing : goal.take-returns-in-Nothing
take-returns-in-Nothing g t c =
    takes_nothing c.args.levels c.args.line.now (g.F.Files.shown c.args.files.now) c.args.script.now c.read_line.new.names c.requires
    (subst (λ (r : Read). IsRead c.args.script.now.names c.args.line.now r c.read_line.new.names) c.in-Nothing.is c.in_ok-read_line.ensures.read)

pub take-returns-in-Line : goal.take-returns-in-Line
take-returns-in-Line g t c =
    takes_command c.args.levels c.args.line.now (g.F.Files.shown c.args.files.now) c.args.script.now c.read_line.new.names c.put_line.new.script c.put_line.result c.in-Line.read
    (subst (λ (r : Read). IsRead c.args.script.now.names c.args.line.now r c.read_line.new.names) c.in-Line.is c.in_ok-read_line.ensures.read) c.put_line.ensures

pub take-returns-in-RunPlan : goal.take-returns-in-RunPlan
take-returns-in-RunPlan g t c =
    takes_plan c.args.levels c.args.line.now (g.F.Files.shown c.args.files.now) c.args.script.now c.read_line.new.names c.put_plan.new.script c.put_plan.result c.in-RunPlan.file c.as_str.result.now (g.F.Files.shown c.put_plan.new.files) c.as_str.ensures
    (subst (λ (r : Read). IsRead c.args.script.now.names c.args.line.now r c.read_line.new.names) c.in-RunPlan.is c.in_ok-read_line.ensures.read) c.put_plan.ensures

pub take-returns-in-Source : goal.take-returns-in-Source
take-returns-in-Source g t c =
    takes_source c.args.levels c.args.line.now (g.F.Files.shown c.args.files.now) c.args.script.now c.read_line.new.names c.open.new.script c.open.result c.in-Source.file c.as_str-in-Source.result.now (g.F.Files.shown c.open.new.files) c.as_str-in-Source.ensures
    (subst (λ (r : Read). IsRead c.args.script.now.names c.args.line.now r c.read_line.new.names) c.in-Source.is c.in_ok-read_line.ensures.read) c.open.ensures

pub walk-returns-in_err-ended : goal.walk-returns-in_err-ended
walk-returns-in_err-ended g t c =
    let p = err_from_is_err_and c.from_residual-in_err-ended.result c.from_residual-in_err-ended.ensures.1 in
    rw (p.1, p.2)
    (loop_ended c.args.levels c.args.text.now c.deref-span-items.result.now c.loop-span.span-index (omega arith) (script_lines c.args.text.now) (g.F.Files.shown c.args.files.now) (g.F.Files.shown c.loop-span.files) (g.F.Files.shown c.take.new.files) c.args.script.now c.loop-span.script c.take.new.script
    c.loop-span.invariant.follows c.in_err-ended.field-0.0 c.in_err-ended.ensures)

pub walk-returns-then-ended : goal.walk-returns-then-ended
walk-returns-then-ended g t c =
    loop_last c.args.levels c.args.text.now c.deref-span-items.result.now c.loop-span.span-index (omega arith) (script_lines c.args.text.now) (g.F.Files.shown c.args.files.now) (g.F.Files.shown c.loop-span.files) (g.F.Files.shown c.take.new.files) c.args.script.now c.loop-span.script c.take.new.script
    c.loop-span.invariant.follows c.in_ok-ended.ended c.if-ended.true c.in_ok-ended.ensures

pub walk-loop-span-preserved : goal.walk-loop-span-preserved
walk-loop-span-preserved g t c = record {
  few = c.in_ok-ended.ensures.given.4.few;
  follows = loop_next c.args.levels c.args.text.now c.deref-span-items.result.now c.loop-span.span-index (omega arith) (script_lines c.args.text.now) (g.F.Files.shown c.args.files.now) (g.F.Files.shown c.loop-span.files) (g.F.Files.shown c.take.new.files) c.args.script.now c.loop-span.script c.take.new.script
      c.loop-span.invariant.follows c.in_ok-ended.ended c.if-ended.false c.in_ok-ended.ensures;
}

pub walk-returns : goal.walk-returns
walk-returns g t c =
    loop_done c.args.levels c.args.text.now c.deref-span-items.result.now c.loop-span.span-index (script_lines c.args.text.now) (g.F.Files.shown c.args.files.now) (g.F.Files.shown c.loop-span.files) c.args.script.now c.loop-span.script
    (omega arith) c.loop-span.invariant.few c.loop-span.invariant.follows
