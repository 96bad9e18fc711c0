use Rattle.std.proofs.Common.{◌≡◌, length}
use Rattle.ps_text.proofs.Puts.{WrotePrefix}
use Rattle.ps_text.proofs.sinks.put.Given as goal

abbrev pub invariant-loop-rest : goal.invariant-loop-rest
invariant-loop-rest g l =
    record {
      wrote : WrotePrefix (g.S.Sink.shown l.fn.sink).bytes (g.S.Sink.shown l.sink).bytes l.fn.bytes l.rest;
      failed : (g.S.Sink.shown l.sink).failed ≡ (g.S.Sink.shown l.fn.sink).failed;
      refused : (g.S.Sink.shown l.sink).refused ≡ (g.S.Sink.shown l.fn.sink).refused;
    }

abbrev pub decreases-loop-rest : goal.decreases-loop-rest
decreases-loop-rest g l = length l.rest
