use Rattle.std.proofs.Common.{true, false, ap, sym, ◌∙◌}
use Rattle.ps_action.specs.Effects.{count_fault, fault_of_effect}
use Rattle.ps_action.proofs.Faults.{fault_of_number}
use Rattle.ps_action.proofs.effects.fault_of_effect.Goals as goal

pub returns-then-is_set : goal.returns-then-is_set
returns-then-is_set g c =
    let k = g.K.Known.known c.args.known.now in
    let w = c.in-Number in
    fault_of_number k c.args.before.now c.args.at w.how w.lifted w.expr c.ground-term.result true c.ground-term.ensures (sym c.if-is_set.true ∙ c.is_set.ensures)
    ∙ sym (ap (fault_of_effect k c.args.before.now c.args.at) w.is)

pub returns-else-is_set : goal.returns-else-is_set
returns-else-is_set g c =
    let k = g.K.Known.known c.args.known.now in
    let w = c.in-Number in
    c.count_fault.ensures ∙ ap (count_fault c.args.at) c.count_after.ensures
    ∙ fault_of_number k c.args.before.now c.args.at w.how w.lifted w.expr c.ground-term.result false c.ground-term.ensures (sym c.if-is_set.false ∙ c.is_set.ensures)
    ∙ sym (ap (fault_of_effect k c.args.before.now c.args.at) w.is)
