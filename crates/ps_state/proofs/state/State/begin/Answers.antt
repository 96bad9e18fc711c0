use Rattle.std.proofs.Common.{length, ap, ◌∙◌, arith}
use Rattle.ps_state.proofs.Grounded.{as-many, few-grounds}
use Rattle.ps_state.proofs.state.State.begin.Goals as goal

pub arcs_of-requires : goal.arcs_of-requires
arcs_of-requires c =
    let few = few-grounds c.args.self.now.expert c.args.acts.now 256 c.requires.few in
    omega (arith, few, ap length c.in_ok-grounds.ensures, ap length c.deref.ensures.value)

pub returns-clause-acts : goal.returns-clause-acts
returns-clause-acts c =
    c.in_ok-arcs.ensures.acts ∙ ap length c.deref.ensures.value ∙ ap length c.in_ok-grounds.ensures
    ∙ as-many c.args.self.now.expert c.args.self.now.problem.instances c.args.acts.now c.requires.grounded
