use Rattle.std.proofs.Common.{sym, ◌∙◌}
use Rattle.ps_ground.proofs.Preparing.{nowhere_by, successor_by}
use Rattle.ps_ground.proofs.PuttingIn.{no_adds, no_parts}
use Rattle.ps_ground.proofs.prepared.prepare_ground.Goals as goal

pub returns-in-Whole-clause-same : goal.returns-in-Whole-clause-same
returns-in-Whole-clause-same c =
    let g = c.args.action.now in
    λ d k a n over. successor_by d k c.args.atoms.now n c.fill.new.made g (c.fill.ensures.act ∙ c.bare-made.ensures.act) (c.in_ok-fill.ensures.same c.in-Whole.is d k (no_adds d k g c.args.atoms.now a) n.state over ∙ no_parts d k n.state g)

pub returns-in-Whole-clause-sound : goal.returns-in-Whole-clause-sound
returns-in-Whole-clause-sound c = λ d k a. c.in_ok-fill.ensures.sound c.in-Whole.is d k (no_adds d k c.args.action.now c.args.atoms.now a)

pub returns-in-NeverHolds-clause-same : goal.returns-in-NeverHolds-clause-same
returns-in-NeverHolds-clause-same c =
    let g = c.args.action.now in
    λ d k a n over. nowhere_by d k c.args.atoms.now n g (sym (no_parts d k n.state g) ∙ c.in_ok-fill.ensures.never c.in-NeverHolds.is d k (no_adds d k g c.args.atoms.now a) n.state over)
