use Rattle.std.proofs.Common.{ap, ◌∙◌, sym}
use Rattle.ps_world.specs.CondViews.{cond_tree}
use Rattle.ps_action.specs.Truth.{all_true, is_true}
use Rattle.ps_ground.specs.Prepared.{passes}
use Rattle.ps_ground.specs.States.{at}
use Rattle.ps_ground.specs.declared.prepared.Test.{Test}
use Rattle.ps_ground.proofs.Preparing.{bare_passes}
use Rattle.ps_ground.proofs.PuttingIn.{no_cond, no_list}
use Rattle.ps_ground.proofs.prepared.prepare_goal.Goals as goal
use Rattle.ps_ground.proofs.prepared.prepare_goal.Goals.{in-And+in_ok-taken-in-And, in_default+in_ok-taken-in_default}

pub returns-then-is_whole : goal.returns-then-is_whole
returns-then-is_whole c =
    let atoms = c.args.atoms.now in
    let whole = c.is_whole.ensures.yes c.if-is_whole.true in
    elim c.match-goal.branch [
      | in-And+in_ok-taken-in-And w ↦
          λ d k s.
          ap (λ (t : Test). passes d k atoms t s) w.test-is
          ∙ bare_passes d k atoms s c.bare-test.result w.take_all.new.test _ c.bare-test.ensures (w.in_ok-taken-in-And.ensures.taken (sym w.taken-is ∙ whole) d k s)
          ∙ ap (all_true d (at k s)) (no_list w.in-And.parts)
          ∙ (λ i. is_true d (at k s) (cond_tree (sym w.in-And.is i)))
      | in_default+in_ok-taken-in_default w ↦
          λ d k s.
          ap (λ (t : Test). passes d k atoms t s) w.test-is
          ∙ bare_passes d k atoms s c.bare-test.result w.take_in.new.test _ c.bare-test.ensures (w.in_ok-taken-in_default.ensures.taken (sym w.taken-is ∙ whole) d k s)
          ∙ ap (is_true d (at k s)) (no_cond (cond_tree c.args.goal.now))
    ]
