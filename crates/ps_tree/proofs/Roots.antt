-- What the root of a tree says of its acts.
use Rattle.std.proofs.Common.{◌≡◌, ℕ, ◌<◌, Bool, true, false, if◌then◌else◌, List, [], ◌∷◌, All, length, map, refl, ap, ◌∙◌, arith}
use Rattle.std.specs.List.{range_with_len}
use Rattle.std.proofs.lemmas.List.Elements.{All-head, All-tail}
use Rattle.std.proofs.lemmas.List.FromFn.{get_or-map-range_with_len, length-map-range_with_len}
use Rattle.ps_action.specs.ArcTables.{has_pair}
use Rattle.ps_action.specs.declared.states.ActState.{ActState}
use Rattle.ps_action.specs.declared.states.ActState.TheVariants.{Waiting, Active, Done, Failed, Cancelled}
use Rattle.ps_action.specs.declared.states.Status.{Status}
use Rattle.ps_action.specs.declared.states.Status.TheVariants.{Success}
use Rattle.ps_tree.specs.Laws.{AllDoneIsSuccess, IsUnharmed, UnharmedIsNoFailure}
use Rattle.ps_action.specs.Trees.{act_status, in_parallel, is_failure, is_success, sequence_status, state_at, wait_status, waits_at, waits_for, waits_of}
use Rattle.ps_tree.proofs.Lists.{at_place, picked_below}
use Rattle.ps_tree.proofs.Parallel.{all_succeed, no_failure}

-- ---- no act failed or was cancelled

wait_unharmed : (s : ActState) → IsUnharmed s → is_failure (wait_status s) ≡ false
wait_unharmed Waiting h = refl
wait_unharmed Active h = refl
wait_unharmed Done h = refl
wait_unharmed Failed h = absurd (h.0 refl)
wait_unharmed Cancelled h = absurd (h.1 refl)

act_unharmed : (s : ActState) → IsUnharmed s → is_failure (act_status s) ≡ false
act_unharmed Waiting h = refl
act_unharmed Active h = refl
act_unharmed Done h = refl
act_unharmed Failed h = absurd (h.0 refl)
act_unharmed Cancelled h = absurd (h.1 refl)

waiting_unharmed : IsUnharmed Waiting
waiting_unharmed = (λ e. cc, λ e. cc)

-- of two statuses that are no failure, neither choice is one
chosen : (c : Bool) (s t : Status) → is_failure s ≡ false → is_failure t ≡ false → is_failure (if c then s else t) ≡ false
chosen true s t p q = p
chosen false s t p q = q

sequence_unharmed : (states : List ActState) → All IsUnharmed states → (ws : List ℕ) (j : ℕ) → is_failure (sequence_status states ws j) ≡ false
sequence_unharmed states h [] j =
    let last = act_status (state_at states j) in
    let leaf = act_unharmed (state_at states j) (at_place IsUnharmed states Waiting waiting_unharmed h j) in
    chosen (is_success last) Success last refl leaf
sequence_unharmed states h (w ∷ ws) j =
    let first = wait_status (state_at states w) in
    let leaf = wait_unharmed (state_at states w) (at_place IsUnharmed states Waiting waiting_unharmed h w) in
    chosen (is_success first) (sequence_status states ws j) first (sequence_unharmed states h ws j) leaf

pub unharmed_is_no_failure : UnharmedIsNoFailure
unharmed_is_no_failure tree h =
    no_failure (λ j. sequence_status tree.states (waits_at tree.waits j) j) (λ j. sequence_unharmed tree.states h (waits_at tree.waits j) j) (range_with_len 0 (length tree.waits))

-- ---- each act is done

sequence_done : (states : List ActState) → All (λ s. s ≡ Done) states → (ws : List ℕ) (j : ℕ) → All (λ i. i < length states) ws → j < length states → sequence_status states ws j ≡ Success
sequence_done states h [] j within below =
    let here : state_at states j ≡ Done = h j Waiting below in
    λ i. if is_success (act_status (here i)) then Success else act_status (here i)
sequence_done states h (w ∷ ws) j within below =
    let here : state_at states w ≡ Done = h w Waiting (All-head (λ i. i < length states) w ws within) in
    let rest = sequence_done states h ws j (All-tail (λ i. i < length states) w ws within) below in
    λ i. if is_success (wait_status (here i)) then rest i else wait_status (here i)

pub all_done_is_success : AllDoneIsSuccess
all_done_is_success arcs states many h =
    let n = arcs.acts in
    let size = length-map-range_with_len (waits_for arcs.pairs) 0 n in
    let status = λ (j : ℕ). sequence_status states (waits_at (waits_of arcs) j) j in
    let each : (j : ℕ) → j < n → status j ≡ Success =
    λ j below.
    let found : waits_at (waits_of arcs) j ≡ waits_for arcs.pairs j =
    get_or-map-range_with_len (waits_for arcs.pairs) 0 n j j [] below (omega arith) in
    ap (λ (ws : List ℕ). sequence_status states ws j) found
    ∙ sequence_done states h (waits_for arcs.pairs j) j (picked_below (λ i. has_pair i j arcs.pairs) 0 j (length states) (omega (arith, below, many))) (omega (arith, below, many)) in
    ap (λ (m : ℕ). in_parallel (map status (range_with_len 0 m))) size ∙ all_succeed status n each
