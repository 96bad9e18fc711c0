use Rattle.std.proofs.Common.{◌∙◌}
use Rattle.ps_world.specs.CondViews.{cond_tree}
use Rattle.ps_plain.specs.NoTypes.{no_domain}
use Rattle.ps_plain.proofs.NoTypes.{same_truth}
use Rattle.ps_plain.proofs.effects.holds_plain.Goals as goal

pub returns : goal.returns
returns c = λ d. c.is_true.ensures ∙ same_truth no_domain d c.args.known.now (cond_tree c.args.cond.now) c.requires
