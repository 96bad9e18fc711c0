use Rattle.std.proofs.Common.{◌≡◌, nat_lt, true, not, is_none, [], ap, sym, ◌∙◌}
use Rattle.ps_action.specs.Effects.{fault_of_effect, flat, sets}
use Rattle.ps_action.specs.Fine.{counted, is_fine}
use Rattle.ps_action.specs.Grounding.{put_effect}
use Rattle.ps_action.proofs.Fine.{faulty_add, faulty_delete, faulty_number}
use Rattle.ps_action.proofs.faultless.FaultyTest.passes.Goals as goal

pub returns-else-not-is_countable : goal.returns-else-not-is_countable
returns-else-not-is_countable g c =
    let of = c.args.self.now in
    let k = g.K.Known.known of.known.now in
    let all = flat (g.T.Types.types of.types.now) k of.effects.now in
    let env = c.args.env.now in
    let own : c.is_countable.result ≡ true = cc in
    let fine = sym own ∙ c.is_countable.ensures ∙ ap (λ e. is_none (fault_of_effect k [] 0 (put_effect env e))) c.in-Number.is in
    let more = ap (nat_lt 1) (c.setters.ensures ∙ ap (λ t. counted (sets t) 0 all) c.ground_in-term.ensures) in
    faulty_number k all env c.in-Number.field-0 c.in-Number.lifted c.in-Number.field-2 true (nat_lt 1 c.setters.result) fine more
    ∙ ap (λ e. not (is_fine k all (put_effect env e))) (sym c.in-Number.is)

pub returns-in-Add : goal.returns-in-Add
returns-in-Add g c =
    let of = c.args.self.now in
    let k = g.K.Known.known of.known.now in
    let all = flat (g.T.Types.types of.types.now) k of.effects.now in
    faulty_add k all c.args.env.now _ c.args.effect.now c.in-Add.is

pub returns-in-Delete : goal.returns-in-Delete
returns-in-Delete g c =
    let of = c.args.self.now in
    let k = g.K.Known.known of.known.now in
    let all = flat (g.T.Types.types of.types.now) k of.effects.now in
    faulty_delete k all c.args.env.now _ c.args.effect.now c.in-Delete.is
