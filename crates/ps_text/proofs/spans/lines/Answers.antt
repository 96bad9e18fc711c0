use Rattle.std.proofs.Common.{ℕ, ◌+◌, arith, refl}
use Rattle.ps_world.specs.Lines.{lines_of}
use Rattle.ps_text.proofs.Pieces.{Marked-more, lines_of-step}
use Rattle.ps_text.proofs.spans.lines.Goals as goal

pub loop-from-preserved-then-to-bytes : goal.loop-from-preserved-then-to-bytes
loop-from-preserved-then-to-bytes c =
    let bytes = c.args.bytes.now in
    let from : ℕ = c.loop-from.from in
    let to : ℕ = c.line_end-to.result in
    Marked-more lines_of bytes _ _ _ (to + 1) c.loop-from.invariant c.in_ok-push.ensures.items (omega arith) (omega arith) (omega arith) (omega arith)
    (lines_of-step bytes from to (to + 1) (omega arith) c.line_end-to.ensures.end (λ _. refl) (λ h. absurd (omega arith)))

pub loop-from-preserved : goal.loop-from-preserved
loop-from-preserved c =
    let bytes = c.args.bytes.now in
    let from : ℕ = c.loop-from.from in
    let to : ℕ = c.line_end-to.result in
    Marked-more lines_of bytes _ _ _ to c.loop-from.invariant c.in_ok-push.ensures.items (omega arith) (omega arith) (omega arith) (omega arith)
    (lines_of-step bytes from to to (omega arith) c.line_end-to.ensures.end (λ h. absurd (omega arith)) (λ _. refl))
