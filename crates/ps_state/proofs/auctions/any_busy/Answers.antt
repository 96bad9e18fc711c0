use Rattle.std.proofs.Common.{Bool, drop, ap, sym, ◌+◌, ◌∙◌, arith}
use Rattle.std.specs.List.{list_any}
use Rattle.ps_world.specs.declared.names.Name.{Name}
use Rattle.ps_machine.specs.declared.journal.PassWhy.TheVariants.{Busy}
use Rattle.ps_rules.specs.Auctions.{pass_of}
use Rattle.ps_rules.specs.Legal.{is_pass}
use Rattle.ps_state.proofs.Rest.{any-off, any-on}
use Rattle.ps_state.proofs.auctions.any_busy.Goals as goal

pub returns-then-is_pass : goal.returns-then-is_pass
returns-then-is_pass c = λ es t.
    let k = c.loop-name.name-index in
    let v = c.deref-name-items.ensures.value in
    sym (c.loop-name.invariant es t ∙ ap (λ ns. list_any (λ n. is_pass Busy (pass_of c.args.r n es)) (drop k ns)) (sym v)
    ∙ any-off (λ n. is_pass Busy (pass_of c.args.r n es)) c.deref-name-items.result.now k _ (omega arith) (ap (is_pass Busy) (sym (c.pass_of.ensures es t)) ∙ sym (c.if-is_pass.ensures)))

pub loop-name-preserved : goal.loop-name-preserved
loop-name-preserved c = λ es t.
    let k = c.loop-name.name-index in
    let v = c.deref-name-items.ensures.value in
    c.loop-name.invariant es t ∙ ap (λ ns. list_any (λ n. is_pass Busy (pass_of c.args.r n es)) (drop k ns)) (sym v)
    ∙ any-on (λ n. is_pass Busy (pass_of c.args.r n es)) c.deref-name-items.result.now k _ (omega arith) (ap (is_pass Busy) (sym (c.pass_of.ensures es t)) ∙ sym (c.if-is_pass.ensures))
    ∙ ap (λ ns. list_any (λ n. is_pass Busy (pass_of c.args.r n es)) (drop (k + 1) ns)) v
