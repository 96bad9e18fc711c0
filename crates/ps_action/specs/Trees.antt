-- The behaviour tree of a plan: its nodes, their statuses and its text.
use Rattle.std.specs.Prelude.{ℕ, ◌*◌, Bool, true, false, ◌&&◌, if◌then◌else◌, List, [], ◌∷◌, ◌++◌, codes, filter, flat_map, length, map, replicate, slice_index_or}
use Rattle.std.specs.Fmt.{decimal}
use Rattle.std.specs.List.{list_all, list_any, range_with_len}
use Rattle.ps_action.specs.ArcTables.{Pairs, has_pair}
use Rattle.ps_action.specs.declared.states.ActState.{ActState}
use Rattle.ps_action.specs.declared.states.ActState.TheVariants.{Waiting, Active, Done, Failed, Cancelled}
use Rattle.ps_action.specs.declared.states.Status.{Status}
use Rattle.ps_action.specs.declared.states.Status.TheVariants.{Idle, Running, Success, Failure}

-- ---- what acts wait for

-- the acts that an act waits for, rising
abbrev pub waits_for : List (ℕ × ℕ) → ℕ → List ℕ
waits_for pairs j = filter (λ i. has_pair i j pairs) (range_with_len 0 j)

-- the same of each act, in order
abbrev pub waits_of : Pairs → List (List ℕ)
waits_of arcs = map (waits_for arcs.pairs) (range_with_len 0 arcs.acts)

-- a tree, by the acts that each act waits for and by the states of the acts
pub record TreeView : Type 0 where
  pub waits : List (List ℕ)
  pub states : List ActState

-- what an act of these waits for; nothing where there is no such act
abbrev pub waits_at : List (List ℕ) → ℕ → List ℕ
waits_at waits j = slice_index_or waits j []

-- the state of an act; one that isn't there waits
abbrev pub state_at : List ActState → ℕ → ActState
state_at states j = slice_index_or states j Waiting

-- ---- statuses

-- the status of a wait, by the state of the act that is waited for
abbrev pub wait_status : ActState → Status
wait_status Waiting = Running
wait_status Active = Running
wait_status Done = Success
wait_status Failed = Failure
wait_status Cancelled = Failure

-- the status of an act's leaf, by its state
abbrev pub act_status : ActState → Status
act_status Waiting = Idle
act_status Active = Running
act_status Done = Success
act_status Failed = Failure
act_status Cancelled = Failure

-- whether a status is success
abbrev pub is_success : Status → Bool
is_success Idle = false
is_success Running = false
is_success Success = true
is_success Failure = false

-- whether a status is failure
abbrev pub is_failure : Status → Bool
is_failure Idle = false
is_failure Running = false
is_failure Success = false
is_failure Failure = true

-- the status of a sequence of children: that of the first which isn't success, else success
abbrev pub in_sequence : List Status → Status
in_sequence [] = Success
in_sequence (s ∷ ss) = if is_success s then in_sequence ss else s

-- the status of children in parallel: failure where one is, success where all are, else running
abbrev pub in_parallel : List Status → Status
in_parallel ss = if list_any is_failure ss then Failure else (if list_all is_success ss then Success else Running)

-- ---- nodes

-- a node: how many levels it is below the root, its words, and its status
pub record Node : Type 0 where
  pub level : ℕ
  pub words : List ℕ
  pub status : Status

-- the leaf that waits for an act
abbrev pub wait_node : List ActState → ℕ → Node
wait_node states i = record { level = 2; words = codes "wait " ++ decimal i; status = wait_status (state_at states i) }

-- the leaf of an act
abbrev pub act_node : List ActState → ℕ → Node
act_node states j = record { level = 2; words = codes "act " ++ decimal j; status = act_status (state_at states j) }

-- the leaves of an act that waits for these: a leaf for each, and its own after them
abbrev pub leaves : List ActState → List ℕ → ℕ → List Node
leaves states waits j = map (wait_node states) waits ++ act_node states j ∷ []

-- the status of an act's sequence
abbrev pub sequence_status : List ActState → List ℕ → ℕ → Status
sequence_status states waits j = in_sequence (map (λ (n : Node). n.status) (leaves states waits j))

-- an act's sequence, and its leaves after it
abbrev pub sequence_nodes : List ActState → List ℕ → ℕ → List Node
sequence_nodes states waits j =
    record { level = 1; words = codes "sequence"; status = sequence_status states waits j } ∷ leaves states waits j

-- the places of the acts, in order
abbrev pub acts_of : TreeView → List ℕ
acts_of tree = range_with_len 0 (length tree.waits)

-- the status of the root, whose children are the sequences of all acts
abbrev pub root_status : TreeView → Status
root_status tree = in_parallel (map (λ j. sequence_status tree.states (waits_at tree.waits j) j) (acts_of tree))

-- all nodes, the root first, and each before its children
abbrev pub nodes : TreeView → List Node
nodes tree =
    record { level = 0; words = codes "parallel"; status = root_status tree }
    ∷ flat_map (λ j. sequence_nodes tree.states (waits_at tree.waits j) j) (acts_of tree)

-- ---- text

-- a status, as a line says it
abbrev pub status_word : Status → List ℕ
status_word Idle = codes "idle"
status_word Running = codes "running"
status_word Success = codes "success"
status_word Failure = codes "failure"

-- a node's line: two spaces for each level, its words, a space, its status, and a line feed
abbrev pub line : Node → List ℕ
line n = replicate (2 * n.level) 32 ++ (n.words ++ (32 ∷ (status_word n.status ++ 10 ∷ [])))

-- the lines of all nodes
abbrev pub tree_text : TreeView → List ℕ
tree_text tree = flat_map line (nodes tree)

-- ---- which acts are ready

-- whether a state is that of an act that waits
abbrev pub is_waiting : ActState → Bool
is_waiting Waiting = true
is_waiting Active = false
is_waiting Done = false
is_waiting Failed = false
is_waiting Cancelled = false

-- whether every wait before an act is a success and the act waits
abbrev pub is_ready : TreeView → ℕ → Bool
is_ready tree j =
    list_all (λ i. is_success (wait_status (state_at tree.states i))) (waits_at tree.waits j) && is_waiting (state_at tree.states j)
