use Rattle.std.proofs.Common.{◌≡◌, sym, ap, ◌∙◌}
use Rattle.ps_world.specs.Knowledge.{same_fact}
use Rattle.ps_action.specs.Effects.{sets}
use Rattle.ps_action.specs.Grounding.{put_effect}
use Rattle.ps_action.proofs.Grounded.{ground_put_in}
use Rattle.ps_action.proofs.faultless.SetsTest.passes.Goals as goal

pub returns-in-Number : goal.returns-in-Number
returns-in-Number c =
    let term = c.args.self.now.term.now in
    let env = c.args.env.now in
    let same : c.is_eq.result ≡ same_fact term c.ground_in.result = cc in
    same
    ∙ ap (same_fact term) (c.ground_in.ensures ∙ sym (ground_put_in env c.in-Number.lifted))
    ∙ ap (λ e. sets term (put_effect env e)) (sym c.in-Number.is)
