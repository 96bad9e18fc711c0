use Rattle.std.proofs.Common.{List, ◌++◌, filter, map, ap, ◌∙◌, append_assoc}
use Rattle.std.specs.List.{range_with_len}
use Rattle.ps_machine.specs.declared.journal.CancelWhy.TheVariants.{Stop}
use Rattle.ps_machine.specs.declared.journal.Entry.{Entry}
use Rattle.ps_rules.specs.History.{cancels}
use Rattle.ps_state.specs.Forced.{cancels_if, is_sound}
use Rattle.ps_state.proofs.Gathered.{gathered-more}
use Rattle.ps_state.proofs.state.State.add_sound.Goals as goal

pub loop-act-preserved : goal.loop-act-preserved
loop-act-preserved c = λ i es s.
    let act = c.loop-act.act in
    let hand = c.args.hand in
    let first : List Entry = c.args.all.now.items in
    let cancelled : List Entry = map (cancels hand Stop) (filter (is_sound i es) (range_with_len 0 act)) in
    c.in_ok-add_if.ensures ∙ ap (λ xs. xs ++ cancels_if hand Stop c.is_sound-sound.result act) (c.loop-act.invariant i es s)
    ∙ ap (λ b. (first ++ cancelled) ++ cancels_if hand Stop b act) (c.is_sound-sound.ensures i es s)
    ∙ append_assoc first cancelled (cancels_if hand Stop (is_sound i es act) act)
    ∙ ap (λ xs. first ++ xs) (gathered-more (is_sound i es) hand act Stop)
