use Rattle.std.proofs.Common.{ℕ, ◌∙◌}
use Rattle.std.proofs.lemmas.List.{take_rest}
use Rattle.ps_text.proofs.Puts.{Counts-since, WrotePrefix-kept, WrotePrefix-more}
use Rattle.ps_text.proofs.sinks.put.Goals as goal

pub returns-in-Err : goal.returns-in-Err
returns-in-Err g c =
    let before = c.loop-rest.invariant in
    let write = c.in-Err.ensures in
    record {
      whole = tt;
      prefix = WrotePrefix-kept _ _ _ _ _ before.wrote write.taken;
      counted = Counts-since ℕ (Unit {0}) (g.S.Sink.shown c.args.sink.now) (g.S.Sink.shown c.loop-rest.sink)
          (g.S.Sink.shown c.write.new.self) c.in-Err.refusal before.failed before.refused write.counted;
    }

pub loop-rest-preserved : goal.loop-rest-preserved
loop-rest-preserved g c =
    let before = c.loop-rest.invariant in
    let write = c.in-Ok.ensures in
    record {
      wrote = rw take_rest (WrotePrefix-more _ _ _ _ _ c.in-Ok.count before.wrote write.taken);
      failed = write.counted.0 ∙ before.failed;
      refused = write.counted.1 ∙ before.refused;
    }
