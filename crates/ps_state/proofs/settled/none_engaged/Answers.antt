use Rattle.std.proofs.Common.{Bool, not, drop, ap, sym, ◌+◌, ◌∙◌, arith}
use Rattle.std.specs.List.{list_all}
use Rattle.ps_world.specs.declared.names.Name.{Name}
use Rattle.ps_rules.specs.Auctions.{is_engaged}
use Rattle.ps_state.proofs.Rest.{all-off, all-on}
use Rattle.ps_state.proofs.settled.none_engaged.Goals as goal

pub returns-then-is_engaged : goal.returns-then-is_engaged
returns-then-is_engaged c = λ es t.
    let k = c.loop-name.name-index in
    let v = c.deref-name-items.ensures.value in
    sym (c.loop-name.invariant es t ∙ ap (λ ns. list_all (λ n. not (is_engaged n es)) (drop k ns)) (sym v)
    ∙ all-off (λ n. not (is_engaged n es)) c.deref-name-items.result.now k _ (omega arith) (ap not (sym (c.is_engaged.ensures es t.performers) ∙ c.if-is_engaged.true)))

pub loop-name-preserved : goal.loop-name-preserved
loop-name-preserved c = λ es t.
    let k = c.loop-name.name-index in
    let v = c.deref-name-items.ensures.value in
    c.loop-name.invariant es t ∙ ap (λ ns. list_all (λ n. not (is_engaged n es)) (drop k ns)) (sym v)
    ∙ all-on (λ n. not (is_engaged n es)) c.deref-name-items.result.now k _ (omega arith) (ap not (sym (c.is_engaged.ensures es t.performers) ∙ c.if-is_engaged.false))
    ∙ ap (λ ns. list_all (λ n. not (is_engaged n es)) (drop (k + 1) ns)) v
