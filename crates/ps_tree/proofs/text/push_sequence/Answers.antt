use Rattle.std.proofs.Common.{◌≡◌, ℕ, List, ◌++◌, codes, flat_map, map, ap, ◌∙◌}
use Rattle.ps_action.specs.Trees.{act_node, line, sequence_status, wait_node}
use Rattle.ps_tree.specs.Parts.{worded}
use Rattle.ps_tree.proofs.Texts.{sequence_lines}
use Rattle.ps_tree.proofs.text.push_sequence.Goals as goal

pub returns : goal.returns
returns c =
    let old = c.args.text.now.items in
    let states = c.args.states.now in
    let waits = c.args.waits.now in
    let act = c.args.act in
    let first = worded (codes "  sequence") (sequence_status states waits act) in
    let one : c.push_line.new.text.items ≡ old ++ first =
    c.in_ok-push_line.ensures ∙ (λ i. old ++ worded (codes "  sequence") (c.sequence_status.ensures i)) in
    c.in_ok-push_act.ensures
    ∙ ap (λ (l : List ℕ). l ++ line (act_node states act)) (c.in_ok-push_waits.ensures ∙ ap (λ (l : List ℕ). l ++ flat_map line (map (wait_node states) waits)) one)
    ∙ sequence_lines old first states waits act
