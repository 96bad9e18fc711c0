-- Parts of a tree and of its text: the root over some of the acts, and pieces of lines.
use Rattle.std.specs.Prelude.{ℕ, List, [], ◌∷◌, ◌++◌, flat_map, map, replicate}
use Rattle.std.specs.Fmt.{decimal}
use Rattle.std.specs.List.{range_with_len}
use Rattle.ps_action.specs.declared.states.ActState.{ActState}
use Rattle.ps_action.specs.declared.states.ActState.TheVariants.{Waiting}
use Rattle.ps_action.specs.declared.states.Status.{Status}
use Rattle.ps_action.specs.Trees.{in_parallel, line, sequence_nodes, sequence_status, status_word, wait_node, waits_at}

-- so many acts that wait
abbrev pub waiting_acts : ℕ → List ActState
waiting_acts acts = replicate acts Waiting

-- the status of a root over the sequences of the first so many acts
abbrev pub root_over : List ActState → List (List ℕ) → ℕ → Status
root_over states waits acts = in_parallel (map (λ j. sequence_status states (waits_at waits j) j) (range_with_len 0 acts))

-- what ends a line: a space, a status and a line feed
abbrev pub line_end : Status → List ℕ
line_end status = 32 ∷ (status_word status ++ 10 ∷ [])

-- a line of words and a status
abbrev pub worded : List ℕ → Status → List ℕ
worded words status = words ++ line_end status

-- a line of words, a number and a status
abbrev pub numbered : List ℕ → ℕ → Status → List ℕ
numbered words number status = words ++ (decimal number ++ line_end status)

-- the lines of the leaves that wait for these
abbrev pub wait_lines : List ActState → List ℕ → List ℕ
wait_lines states waits = flat_map line (map (wait_node states) waits)

-- the lines of an act's sequence and of its leaves
abbrev pub act_lines : List ActState → List ℕ → ℕ → List ℕ
act_lines states waits j = flat_map line (sequence_nodes states waits j)

-- the lines of the sequences of the first so many acts
abbrev pub first_lines : List ActState → List (List ℕ) → ℕ → List ℕ
first_lines states waits acts =
    flat_map line (flat_map (λ j. sequence_nodes states (waits_at waits j) j) (range_with_len 0 acts))
