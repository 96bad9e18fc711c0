use Rattle.std.proofs.Common.{None, rules}
use Rattle.std.proofs.lemmas.Fn.{filter_same}
use Rattle.ps_closing.specs.Closing.{is_ready}
use Rattle.ps_marks.proofs.marks.keep_used.Goals as goal

pub returns : goal.returns
returns c = filter_same _ (is_ready None c.args.flags.now) _ (λ x b f k. search rules) _ _ c.retain.ensures.filtered
