use Rattle.std.proofs.Common.{List, ◌++◌, filter, map, ap, ◌∙◌}
use Rattle.std.specs.List.{range_with_len}
use Rattle.ps_machine.specs.declared.journal.CancelWhy.TheVariants.{OverAll}
use Rattle.ps_rules.specs.History.{cancels}
use Rattle.ps_state.specs.Forced.{cancels_if, is_broken}
use Rattle.ps_state.proofs.Gathered.{gathered-more}
use Rattle.ps_state.proofs.state.State.broken.Goals as goal

pub loop-act-preserved : goal.loop-act-preserved
loop-act-preserved c = λ i es s.
    let act = c.loop-act.act in
    let hand = c.args.hand in
    c.in_ok-add_if.ensures ∙ ap (λ xs. xs ++ cancels_if hand OverAll c.is_broken-broken.result act) (c.loop-act.invariant i es s)
    ∙ ap (λ b. map (cancels hand OverAll) (filter (is_broken i es) (range_with_len 0 act)) ++ cancels_if hand OverAll b act) (c.is_broken-broken.ensures i es s)
    ∙ gathered-more (is_broken i es) hand act OverAll
