-- The lines of sequences, piece by piece.
use Rattle.std.proofs.Common.{◌≡◌, ℕ, ◌+◌, List, [], ◌∷◌, ◌++◌, flat_map, map, ap, sym, ◌∙◌}
use Rattle.std.specs.List.{range_with_len}
use Rattle.std.proofs.lemmas.List.{append-nil, append_assoc}
use Rattle.std.proofs.lemmas.List.Concat.{flat_map-append}
use Rattle.ps_action.specs.declared.states.ActState.{ActState}
use Rattle.ps_action.specs.Trees.{Node, act_node, line, wait_node}
use Rattle.ps_arcs.proofs.Ranges.{flat_map-range_more}

-- after its first line a sequence has those of the waits and that of the act
pub sequence_lines : (old first : List ℕ) (states : List ActState) (ws : List ℕ) (j : ℕ) → ((old ++ first) ++ flat_map line (map (wait_node states) ws)) ++ line (act_node states j) ≡ old ++ (first ++ flat_map line (map (wait_node states) ws ++ act_node states j ∷ []))
sequence_lines old first states ws j =
    let waits = map (wait_node states) ws in
    let last = line (act_node states j) in
    let both : flat_map line (waits ++ act_node states j ∷ []) ≡ flat_map line waits ++ last =
    flat_map-append line waits (act_node states j ∷ []) ∙ ap (λ (l : List ℕ). flat_map line waits ++ l) (append-nil last) in
    append_assoc (old ++ first) (flat_map line waits) last ∙ append_assoc old first (flat_map line waits ++ last)
    ∙ ap (λ (l : List ℕ). old ++ (first ++ l)) (sym both)

-- the lines of one sequence more
pub sequences_more : (old : List ℕ) (f : ℕ → List Node) (n : ℕ) → (old ++ flat_map line (flat_map f (range_with_len 0 n))) ++ flat_map line (f n) ≡ old ++ flat_map line (flat_map f (range_with_len 0 (n + 1)))
sequences_more old f n =
    let before = flat_map f (range_with_len 0 n) in
    append_assoc old (flat_map line before) (flat_map line (f n))
    ∙ ap (λ (l : List ℕ). old ++ l) (sym (ap (flat_map line) (flat_map-range_more f n) ∙ flat_map-append line before (f n)))
