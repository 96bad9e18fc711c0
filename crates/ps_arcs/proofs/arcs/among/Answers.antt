use Rattle.std.proofs.Common.{◌≡◌, length, ap, ◌∙◌, arith}
use Rattle.std.specs.List.{flat_map, range_with_len}
use Rattle.ps_action.specs.Arcs.{arcs_from}
use Rattle.ps_arcs.proofs.Commuting.{all_listed}
use Rattle.ps_arcs.proofs.arcs.among.Goals as goal

pub returns-clause-orders : goal.returns-clause-orders
returns-clause-orders c =
    let gs = c.args.actions.now in
    let all : c.loop-i.i ≡ length gs = omega arith in
    all_listed gs c.loop-i.arcs (c.loop-i.invariant.pairs ∙ ap (λ n. flat_map (arcs_from gs) (range_with_len 0 n)) all)
