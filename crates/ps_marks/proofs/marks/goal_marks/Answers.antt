use Rattle.std.proofs.Common.{[], ap, ◌∙◌}
use Rattle.ps_marks.specs.Candidates.{unknown}
use Rattle.ps_marks.specs.Landmarks.{each_once, goal_atoms}
use Rattle.ps_marks.proofs.marks.goal_marks.Goals as goal

pub returns : goal.returns
returns c =
    c.in_ok-marks.ensures
    ∙ ap (unknown c.args.problem.now) (c.as_slice-2.ensures.facts ∙ c.in_ok-places.ensures.once ∙ ap (each_once []) (c.as_slice.ensures.value ∙ c.in_ok-asked.ensures ∙ ap goal_atoms c.goal.ensures))
