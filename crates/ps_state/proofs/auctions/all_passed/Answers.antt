use Rattle.std.proofs.Common.{Bool, is_some, drop, ap, sym, ◌+◌, ◌∙◌, arith}
use Rattle.std.specs.List.{list_all}
use Rattle.ps_world.specs.declared.names.Name.{Name}
use Rattle.ps_rules.specs.Auctions.{pass_of}
use Rattle.ps_state.proofs.Rest.{all-off, all-on}
use Rattle.ps_state.proofs.auctions.all_passed.Goals as goal

pub returns-then-is_none : goal.returns-then-is_none
returns-then-is_none c = λ es t.
    let k = c.loop-name.name-index in
    let v = c.deref-name-items.ensures.value in
    sym (c.loop-name.invariant es t ∙ ap (λ ns. list_all (λ n. is_some (pass_of c.args.r n es)) (drop k ns)) (sym v)
    ∙ all-off (λ n. is_some (pass_of c.args.r n es)) c.deref-name-items.result.now k _ (omega arith) (ap is_some (sym (c.pass_of.ensures es t)) ∙ c.if-is_none.ensures))

pub loop-name-preserved : goal.loop-name-preserved
loop-name-preserved c = λ es t.
    let k = c.loop-name.name-index in
    let v = c.deref-name-items.ensures.value in
    c.loop-name.invariant es t ∙ ap (λ ns. list_all (λ n. is_some (pass_of c.args.r n es)) (drop k ns)) (sym v)
    ∙ all-on (λ n. is_some (pass_of c.args.r n es)) c.deref-name-items.result.now k _ (omega arith) (ap is_some (sym (c.pass_of.ensures es t)) ∙ c.if-is_none.ensures)
    ∙ ap (λ ns. list_all (λ n. is_some (pass_of c.args.r n es)) (drop (k + 1) ns)) v
