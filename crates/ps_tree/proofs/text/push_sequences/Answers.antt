use Rattle.std.proofs.Common.{◌++◌, flat_map, ◌∙◌}
use Rattle.ps_action.specs.Trees.{line, sequence_nodes, waits_at}
use Rattle.ps_tree.proofs.Texts.{sequences_more}
use Rattle.ps_tree.proofs.text.push_sequences.Goals as goal

pub loop-act-preserved : goal.loop-act-preserved
loop-act-preserved c =
    let states = c.args.states.now in
    let act = c.loop-act.act in
    c.in_ok-push_sequence.ensures ∙ (λ i. c.loop-act.invariant i ++ flat_map line (sequence_nodes states (c.waits_at.ensures i) act))
    ∙ sequences_more c.args.text.now.items (λ j. sequence_nodes states (waits_at c.args.all.now j) j) act
