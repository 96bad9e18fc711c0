use Rattle.std.proofs.Common.{◌-◌, ◌^◌, ◌∙◌, lit≤, arith}
use Rattle.ps_world.specs.declared.domains.Param.{Param}
use Rattle.ps_action.specs.Grounding.{choices}
use Rattle.ps_domain.proofs.Counts.{count_more}
use Rattle.ps_domain.proofs.counting.pick_count.Goals as goal

pub loop-param-preserved : goal.loop-param-preserved
loop-param-preserved c =
    let none : Param = record { name = record { 0 = 0 }; kind = record { 0 = 0 } } in
    let more = count_more (choices c.args.expert.now c.args.instances.now) c.args.params.now c.loop-param.param-index none (2 ^ 64 - 1) c.loop-param.count c.known_count-choices.result (lit≤ tt) c.loop-param-test.true c.known_count-choices.ensures in
    record { enough = omega arith; so_far = rw (c.min-count.ensures, c.saturating_mul.ensures) (more ∙ c.loop-param.invariant.so_far) }
