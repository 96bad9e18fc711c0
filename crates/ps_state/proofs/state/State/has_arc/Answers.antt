use Rattle.std.proofs.Common.{ap, ◌∙◌}
use Rattle.ps_action.specs.Arcs.{arcs_of}
use Rattle.ps_action.specs.ArcTables.{has_pair}
use Rattle.ps_rules.specs.Known.{grounds}
use Rattle.ps_rules.specs.Runs.{plan}
use Rattle.ps_arcs.proofs.Listed.{arcs_are_listed}
use Rattle.ps_state.proofs.state.State.has_arc.Goals as goal

pub returns : goal.returns
returns c = λ i es s.
    c.has.ensures ∙ ap (has_pair c.args.i c.args.j) (s.arcs ∙ ap arcs_of s.grounds) ∙ arcs_are_listed (grounds i.domain (plan es)) c.args.i c.args.j
