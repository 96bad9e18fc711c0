use Rattle.std.proofs.Common.{ℕ, ◌+◌, arith, refl}
use Rattle.ps_text.specs.ScriptLines.{script_lines}
use Rattle.ps_text.proofs.Pieces.{Marked-more}
use Rattle.ps_text.proofs.ScriptLines.{script_lines-step}
use Rattle.ps_text.proofs.spans.script_lines.Goals as goal

pub loop-from-preserved-then-lf-bytes : goal.loop-from-preserved-then-lf-bytes
loop-from-preserved-then-lf-bytes c =
    let bytes = c.args.bytes.now in
    let from : ℕ = c.loop-from.from in
    let lf : ℕ = c.line_end-lf.result in
    let stop = c.without_return-to in
    Marked-more script_lines bytes _ _ _ (lf + 1) c.loop-from.invariant c.in_ok-push.ensures.items (omega (arith, stop.ensures.within)) (omega (arith, stop.ensures.within)) (omega arith) (omega arith)
    (script_lines-step bytes from lf stop.result (lf + 1) (omega arith) c.line_end-lf.ensures.end stop.ensures.line stop.ensures.kept stop.ensures.within.0 stop.ensures.within.1 (λ _. refl) (λ h. absurd (omega arith)))

pub loop-from-preserved : goal.loop-from-preserved
loop-from-preserved c =
    let bytes = c.args.bytes.now in
    let from : ℕ = c.loop-from.from in
    let lf : ℕ = c.line_end-lf.result in
    let stop = c.without_return-to in
    Marked-more script_lines bytes _ _ _ lf c.loop-from.invariant c.in_ok-push.ensures.items (omega (arith, stop.ensures.within)) (omega (arith, stop.ensures.within)) (omega arith) (omega arith)
    (script_lines-step bytes from lf stop.result lf (omega arith) c.line_end-lf.ensures.end stop.ensures.line stop.ensures.kept stop.ensures.within.0 stop.ensures.within.1 (λ h. absurd (omega arith)) (λ _. refl))
