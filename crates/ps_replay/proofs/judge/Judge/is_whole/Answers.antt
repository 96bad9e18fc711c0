use Rattle.ps_replay.proofs.Judges.{whole-iff}
use Rattle.ps_replay.proofs.judge.Judge.is_whole.Goals as goal

pub returns : goal.returns
returns c = λ i es r. whole-iff i es c.args.self.now r _ _ _ c.both.ensures c.is_met-met.ensures (c.is_over-over.ensures i es r.stands)
