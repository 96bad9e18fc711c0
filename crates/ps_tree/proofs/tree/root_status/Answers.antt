use Rattle.std.proofs.Common.{◌≡◌, ℕ, [], ◌∷◌, List, ap, sym, ◌∙◌}
use Rattle.ps_action.specs.Trees.{in_parallel, sequence_status, waits_at}
use Rattle.ps_tree.proofs.Parallel.{parallel_place_more}
use Rattle.ps_tree.proofs.tree.root_status.Goals as goal

pub loop-act-preserved : goal.loop-act-preserved
loop-act-preserved c =
    let states = c.args.states.now in
    let all = c.args.all.now in
    let act = c.loop-act.act in
    let here : c.sequence_status.result ≡ sequence_status states (waits_at all act) act =
    c.sequence_status.ensures ∙ ap (λ (ws : List ℕ). sequence_status states ws act) c.waits_at.ensures in
    c.joined-status.ensures ∙ (λ i. in_parallel (c.loop-act.invariant i ∷ here i ∷ []))
    ∙ sym (parallel_place_more (λ j. sequence_status states (waits_at all j) j) act)
