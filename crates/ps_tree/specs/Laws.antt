-- What the root of a tree says of its acts, and the text of a tree of one act.
use Rattle.std.specs.Prelude.{◌≡◌, ◌≢◌, List, [], ◌∷◌, All, codes, length}
use Rattle.ps_action.specs.ArcTables.{Pairs}
use Rattle.ps_action.specs.declared.states.ActState.{ActState}
use Rattle.ps_action.specs.declared.states.ActState.TheVariants.{Done, Failed, Cancelled}
use Rattle.ps_action.specs.declared.states.Status.TheVariants.{Success, Failure}
use Rattle.ps_action.specs.Trees.{TreeView, root_status, tree_text, waits_of}

-- neither failed nor cancelled
abbrev pub IsUnharmed : ActState → Type 0
IsUnharmed state = (state ≢ Failed) × (state ≢ Cancelled)

-- Where no act failed or was cancelled, the root is no failure.
abbrev pub UnharmedIsNoFailure : Type 0
UnharmedIsNoFailure = (tree : TreeView) → All IsUnharmed tree.states → root_status tree ≢ Failure

-- Where each act of these arcs is done, the root is a success.
abbrev pub AllDoneIsSuccess : Type 0
AllDoneIsSuccess =
    (arcs : Pairs) (states : List ActState)
    → length states ≡ arcs.acts
    → All (λ state. state ≡ Done) states
    → root_status (record { waits = waits_of arcs; states = states }) ≡ Success

-- the tree of one act that is done
abbrev pub one_done : TreeView
one_done = record { waits = waits_of (record { acts = 1; pairs = [] }); states = Done ∷ [] }

-- Its text has three lines.
abbrev pub OneDoneHasThreeLines : Type 0
OneDoneHasThreeLines = tree_text one_done ≡ codes "parallel success\n  sequence success\n    act 0 success\n"
