use Rattle.std.proofs.Common.{◌≡◌, ◌≤◌, ◌+◌, ℕ, ◌&&◌, nat_lt, false, length, slice_index_or}
use Rattle.ps_monitor.specs.Hits.{due}
use Rattle.ps_monitor.specs.Watched.{is_false, watched}
use Rattle.ps_monitor.proofs.monitor.Monitor.broken_since.Given as goal

abbrev pub invariant-loop-act : goal.invariant-loop-act
invariant-loop-act g l =
    let d = g.J.Judge.domain l.initial.judge in
    let k = g.J.Judge.known l.initial.judge in
    record {
      domain : g.J.Judge.domain l.judge ≡ d;
      known : g.J.Judge.known l.judge ≡ k;
      many : length l.all.marks ≡ 256;
      same : (i : ℕ) → slice_index_or l.all.marks i false ≡ (nat_lt i l.act && is_false d k (watched l.self i));
      count : g.J.Judge.count l.judge ≤ g.J.Judge.count l.initial.judge + length (due l.changed l.started (watched l.self) l.act);
    }
