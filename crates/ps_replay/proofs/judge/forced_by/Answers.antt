use Rattle.std.proofs.Common.{[], ◌∷◌, ◌++◌, sym, ◌∙◌}
use Rattle.ps_replay.proofs.Quiet.{quiet-forces}
use Rattle.ps_replay.proofs.judge.forced_by.Goals as goal

pub returns-then-is_quiet : goal.returns-then-is_quiet
returns-then-is_quiet c = λ i es h s. c.new.ensures.items ∙ sym (quiet-forces i es c.args.entry.now h (sym c.is_quiet.ensures ∙ c.if-is_quiet.true))

pub returns : goal.returns
returns c = λ i es h s. c.in_ok-forced.ensures i (es ++ c.args.entry.now ∷ []) s
