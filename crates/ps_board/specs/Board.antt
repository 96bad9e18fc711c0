-- What the calls of a board do and answer.
use Rattle.std.specs.Prelude.{◌≡◌, ℕ, Bool, true, false, ◌&&◌, not, if◌then◌else◌, Option, Some, None, is_none, option_and_then, List, [], map, slice_get, slice_set}
use Rattle.std.specs.Option.{option_map_or}
use Rattle.ps_machine.specs.declared.inputs.Query.TheVariants as query
use Rattle.ps_machine.specs.declared.journal.Event.{Event}
use Rattle.ps_machine.specs.declared.journal.Event.TheVariants as event
use Rattle.ps_action.specs.declared.answers.Answer.TheVariants as answer
use Rattle.ps_rules.specs.Known.{know}
use Rattle.ps_board.specs.Commands.{asks_plan}
use Rattle.ps_machine.specs.declared.journal.Entry.{Entry}
use Rattle.ps_rules.specs.Journal.{tree_of}
use Rattle.ps_rules.specs.Runs.{has_run, is_running, opens}
use Rattle.ps_rules.specs.Members.{observers}
use Rattle.ps_rules.specs.Choices.{line_event, observer_turn, performed, Says, ticked, with_block}
use Rattle.ps_rules.specs.Lines.{next_line}
use Rattle.ps_action.specs.Trees.{TreeView}
use Rattle.ps_progress_laws.specs.Working.{recorded, unit_due}
use Rattle.ps_ledger.specs.Members.{place_in}
use Rattle.ps_ledger.specs.Ends.{last_outcome}
use Rattle.ps_machine.specs.declared.inputs.Input.{Input}
use Rattle.ps_board.specs.Grants.{grant_for, granted, granted_after, performer_names, turn_of}
use Rattle.ps_board.specs.Parts.{CoversDone, spent}
use Rattle.ps_board.specs.Kept.{all_in}
use Rattle.ps_board.specs.Ticks.{closed_answer, snapshot_of, ticked_answer}
use Rattle.ps_board.specs.declared.ticks.Ticked.{Ticked}
use Rattle.ps_board.specs.declared.ticks.Ticked.TheVariants.{Halted}
use Rattle.ps_board.specs.declared.board.Shown.{Shown}
use Rattle.ps_board.specs.declared.turns.Step.{Step}
use Rattle.ps_board.specs.declared.turns.Step.TheVariants.{Said, Planned, Opened, End}
use Rattle.ps_board.specs.declared.works.Grant.{Grant}
use Rattle.ps_board.specs.declared.works.Turn.{Turn}
use Rattle.ps_board.specs.declared.works.Turn.TheVariants.{Did, Nothing}

-- a board of this input on which nothing was done yet
abbrev pub nothing_done : Input → Shown
nothing_done i = record { input = i; entries = []; grants = all_in i; halted = false; spare = 0 }

-- what the observer with this number does in its turn, in the order of the members: nothing where no run is open or the board is halted
abbrev pub observing : Shown → ℕ → Option Event
observing b o =
    if is_running b.entries && not b.halted
    then option_and_then (λ name. observer_turn b.input name b.entries) (slice_get (map (λ w. w.name) (observers b.input)) o)
    else None

-- the entries with the block of what is done, if something is
abbrev pub with_done : Shown → ℕ → Option Event → List Entry
with_done b hand done = option_map_or (with_block b.input hand b.entries) done b.entries

-- what is spare on a board once it has these entries: one less for each entry more, as long as there is one
abbrev pub spare_after : Shown → List Entry → ℕ
spare_after b es = spent b.spare b.entries es

-- the board has the block of what is done appended, if something is, and one less is spare for each entry of it; all else stays
abbrev pub Appended : ℕ → Option Event → Shown → Shown → Type 0
Appended hand done old new = new ≡ record old { entries = with_done old hand done; spare = spare_after old (with_done old hand done) }

-- whether a board is halted once this is done, if something is: it was, and the run goes on
abbrev pub still_halted : Shown → ℕ → Option Event → Bool
still_halted b hand done = b.halted && is_running (with_done b hand done)

-- something is done that takes no memory but room for its block, and that has at most as many entries as are spare
abbrev pub IsReserved : Shown → ℕ → Option Event → Type 0
IsReserved b hand done = CoversDone b.input b.entries b.spare hand done

-- the answer of a turn in which this is done, if something is
abbrev pub answer_of : Option Event → Turn
answer_of (Some e) = Did
answer_of None = Nothing

-- what answers the next line after these entries, where one is left and the solver says this; after the first `quit` none is left
abbrev pub answer_to : Says → Input → List Entry → Option Event
answer_to says i es = option_and_then (line_event says i es) (next_line i es)

-- the same of what a board has
abbrev pub commanded : Says → Shown → Option Event
commanded says b = answer_to says b.input b.entries

-- what a call says that answers the next line after these entries, where the solver says this: that none is left; or whether a run was
-- opened; or, where the line asks for a plan, the solver's
abbrev pub IsStep : Says → Input → List Entry → Step → Type 0
IsStep says i es End = answer_to says i es ≡ None
IsStep says i es Said = (e : Event) × (answer_to says i es ≡ Some e) × (opens e ≡ false) × (asks_plan e ≡ false)
IsStep says i es Opened = (e : Event) × (answer_to says i es ≡ Some e) × (opens e ≡ true)
IsStep says i es (Planned plan) =
    (answer_to says i es ≡ Some (event.Ask query.Plan)) × (says i.domain (know i es) i.budget ≡ answer.Plan plan)

-- whether a call answered that no line was left
abbrev pub is_end : Step → Bool
is_end End = true
is_end s = false

-- what a tick does: nothing where no run is open or the board is halted
abbrev pub ticking : Shown → Option Event
ticking b = if is_running b.entries && not b.halted then ticked b.input b.entries else None

-- what it answers: how the last run ended, where none is open; that the open one was halted; or what was done, or is handed out
abbrev pub tick_answer : Shown → Ticked
tick_answer b =
    if not (is_running b.entries) then closed_answer (last_outcome b.entries)
    else (if b.halted then Halted else ticked_answer (snapshot_of b.input b.entries) (ticked b.input b.entries))

-- whether the performer with this number, in the order of the members, may do something: a run is open, it wasn't halted, and no grant of
-- this performer is out
abbrev pub is_free : Shown → ℕ → Bool
is_free b p = is_running b.entries && (not b.halted && is_none (granted b.grants p))

-- what this performer does before any work in its turn
abbrev pub performing : Shown → ℕ → Option Event
performing b p =
    if is_free b p then option_and_then (λ name. performed b.input name b.entries) (slice_get (performer_names b.input) p) else None

-- the grant that it would be handed in its turn, where it does nothing before
abbrev pub handing : Shown → ℕ → Option Grant
handing b p = if is_free b p then option_and_then (grant_for b.input b.entries) (slice_get (performer_names b.input) p) else None

-- the answer of its turn: something was done, else a grant is handed out, else nothing is to be done
abbrev pub performing_answer : Shown → ℕ → Turn
performing_answer b p = turn_of (performing b p) (handing b p)

-- the grants that are out after its turn
abbrev pub grants_after : Shown → ℕ → List (Option ℕ)
grants_after b p = granted_after b.grants p (performing_answer b p)

-- the number of the performer of this name
abbrev pub number_of : Shown → Grant → ℕ
number_of b g = place_in (performer_names b.input) g.by

-- this grant is out: its performer has one out on its request, and its unit is the one that stands next in the performer's job
pub record IsOut (b : Shown) (g : Grant) : Type 0 where
  pub request : granted b.grants (number_of b g) ≡ Some g.r
  pub unit : unit_due b.input g.r g.by b.entries ≡ Some g.unit

-- the grants that are out once this one was handed in
abbrev pub grants_without : Shown → Grant → List (Option ℕ)
grants_without b g = slice_set b.grants (number_of b g) None

-- what is recorded where a grant that is out is handed in: its unit, or, where the act was cancelled meanwhile, that the performer stopped
abbrev pub recording : Shown → Grant → Option Event
recording b g = recorded b.input b.entries g.r g.by

-- the tree of the plan with the states of its acts, where a run was opened
abbrev pub shown_tree : Shown → Option TreeView
shown_tree b = if has_run b.entries then Some (tree_of b.input b.entries) else None

-- A board is at rest: it isn't halted, and no grant is out.
pub record IsAtRest (b : Shown) : Type 0 where
  pub halted : b.halted ≡ false
  pub all_in : (p : ℕ) → granted b.grants p ≡ None

-- somebody can go on: a grant is out, or some performer or some observer does something in its turn
pub data GoesOn (b : Shown) : Type 0 where
  granted_out : (p r : ℕ) → granted b.grants p ≡ Some r → GoesOn b
  performs_next : (p : ℕ) (e : Event) → performing b p ≡ Some e → GoesOn b
  works_next : (p : ℕ) (g : Grant) → handing b p ≡ Some g → GoesOn b
  observes_next : (o : ℕ) (e : Event) → observing b o ≡ Some e → GoesOn b
