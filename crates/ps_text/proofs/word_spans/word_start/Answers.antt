use Rattle.std.proofs.Common.{arith, sym, ◌∙◌, eq-eqb}
use Rattle.ps_text.proofs.Cuts.{IsGap-blank, IsGap-comment, IsGap-join}
use Rattle.ps_text.proofs.word_spans.word_start.Goals as goal

pub loop-from-preserved-then-is_blank : goal.loop-from-preserved-then-is_blank
loop-from-preserved-then-is_blank c =
    record {
      later = omega arith;
      within = omega arith;
      gap =
          IsGap-join c.args.bytes.now c.args.from c.loop-from.from _ (omega arith) c.loop-from.invariant.gap
          (IsGap-blank c.args.bytes.now c.loop-from.from c.loop-from-test.true (sym c.is_blank.ensures ∙ c.if-is_blank.true));
    }

pub loop-from-preserved : goal.loop-from-preserved
loop-from-preserved c =
    record {
      later = omega arith;
      within = omega arith;
      gap =
          IsGap-join c.args.bytes.now c.args.from c.loop-from.from c.line_end-from.result (omega arith) c.loop-from.invariant.gap
          (IsGap-comment c.args.bytes.now c.loop-from.from c.loop-from-test.true c.line_end-from.result (eq-eqb _ 59 c.if-b-eq59.true) c.line_end-from.ensures.end);
    }
