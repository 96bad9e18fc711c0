use Rattle.std.proofs.Common.{◌≡◌, ◌+◌, ◌++◌, ◌∷◌, [], Some, drop, length, take, ap, sym, ◌∙◌, arith, true≢false}
use Rattle.std.proofs.lemmas.List.{drop_more, length-take-le, take_more}
use Rattle.ps_world.specs.declared.actions.Effect.{Effect}
use Rattle.ps_action.proofs.Clashes.{clash_left, fault_left, found_clash, found_value}
use Rattle.ps_action.proofs.effects.fault_of_flat_with.Goals as goal

pub returns-then-is_at : goal.returns-then-is_at
returns-then-is_at g c =
    let k = g.K.Known.known c.args.known.now in
    let es = c.args.effects.now in
    let i = c.loop-at.at in
    let e = c.index-effects-at.result in
    let split : drop i es ≡ e ∷ drop (i + 1) es = drop_more es i e (omega arith) ∙ ap (λ (x : Effect). x ∷ drop (i + 1) es) (sym c.index-effects-at.is) in
    let place : length (take i es) ≡ i = length-take-le i es (omega arith) in
    found_clash k es i e c.args.clash split place c.loop-at.invariant.clash (c.is_at.ensures.0 c.if-is_at.true) ∙ c.loop-at.invariant.fault

pub returns-then-is_some : goal.returns-then-is_some
returns-then-is_some g c =
    let k = g.K.Known.known c.args.known.now in
    let es = c.args.effects.now in
    let i = c.loop-at.at in
    let e = c.index-effects-at.result in
    let split : drop i es ≡ e ∷ drop (i + 1) es = drop_more es i e (omega arith) ∙ ap (λ (x : Effect). x ∷ drop (i + 1) es) (sym c.index-effects-at.is) in
    let place : length (take i es) ≡ i = length-take-le i es (omega arith) in
    let more : take (i + 1) es ≡ take i es ++ e ∷ [] = take_more es i e (omega arith) ∙ ap (λ (x : Effect). take i es ++ x ∷ []) (sym c.index-effects-at.is) in
    let other : c.args.clash ≡ Some i → ⊥ = λ h. true≢false (sym (c.is_at.ensures.1 h) ∙ c.if-is_at.false) in
    found_value k es i e c.args.clash split place c.loop-at.invariant.clash other more c.fault_of_effect-fault.result c.fault_of_effect-fault.ensures (sym c.is_some.ensures ∙ c.if-is_some.true) ∙ c.loop-at.invariant.fault

pub loop-at-preserved : goal.loop-at-preserved
loop-at-preserved g c =
    let k = g.K.Known.known c.args.known.now in
    let es = c.args.effects.now in
    let i = c.loop-at.at in
    let e = c.index-effects-at.result in
    let split : drop i es ≡ e ∷ drop (i + 1) es = drop_more es i e (omega arith) ∙ ap (λ (x : Effect). x ∷ drop (i + 1) es) (sym c.index-effects-at.is) in
    let place : length (take i es) ≡ i = length-take-le i es (omega arith) in
    let more : take (i + 1) es ≡ take i es ++ e ∷ [] = take_more es i e (omega arith) ∙ ap (λ (x : Effect). take i es ++ x ∷ []) (sym c.index-effects-at.is) in
    let other : c.args.clash ≡ Some i → ⊥ = λ h. true≢false (sym (c.is_at.ensures.1 h) ∙ c.if-is_at.false) in
    record {
      clash = clash_left k es i e c.args.clash split place c.loop-at.invariant.clash other more;
      fault = fault_left k es i e c.args.clash split place c.loop-at.invariant.clash other more c.fault_of_effect-fault.result c.fault_of_effect-fault.ensures (sym c.is_some.ensures ∙ c.if-is_some.false) ∙ c.loop-at.invariant.fault;
    }
