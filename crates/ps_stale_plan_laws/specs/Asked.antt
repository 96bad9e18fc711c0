-- What may come, and what counts, while somebody who asked the solver for a plan looks for one.
use Rattle.std.specs.Prelude.{◌≡◌, ℕ, ◌+◌, ◌≤◌, ◌<◌, Bool, true, false, Some, Ok, List, ◌++◌, take, slice_get, length, IsTrue, IsFalse}
use Rattle.ps_world.specs.Knowledge.{edited}
use Rattle.ps_world.specs.declared.known.Knowledge.{Knowledge}
use Rattle.ps_world.specs.declared.edits.Edit.{Edit}
use Rattle.ps_machine.specs.declared.inputs.Input.{Input}
use Rattle.ps_machine.specs.declared.journal.By.{By}
use Rattle.ps_machine.specs.declared.journal.Event.{Event}
use Rattle.ps_machine.specs.declared.journal.Event.TheVariants as event
use Rattle.ps_machine.specs.declared.journal.Entry.{Entry}
use Rattle.ps_rules.specs.Known.{know}
use Rattle.ps_rules.specs.History.{IsHistory}
use Rattle.ps_rules.specs.Choices.{wants_plan}
use Rattle.ps_rules.specs.Laws.{is_change}

-- ---- who asks

-- The solver was asked after so many of these entries: a run was open and settled, and it didn't end without the solver.
pub record WasAsked (i : Input) (es : List Entry) (at : ℕ) : Type 0 where
  pub few : at ≤ length es
  pub asks : wants_plan i (take at es) ≡ true

-- ---- what counts

-- whether an event ends the plan: another one takes its place, or the run is over
abbrev pub ends_plan : Event → Bool
ends_plan (event.Replan acts) = true
ends_plan (event.Over how) = true
ends_plan e = false

-- The entry at this place counts for who asked the solver before it: it ended the plan, or it changed what is known.
pub data Counts (i : Input) (es : List Entry) (k : ℕ) : Type 0 where
  planned : (e : Entry) → slice_get es k ≡ Some e → IsTrue (ends_plan e.what) → Counts i es k
  changed : (know i (take k es) ≡ know i (take (k + 1) es) → ⊥) → Counts i es k

-- no entry from this place on counts
abbrev pub NoneCount : Input → List Entry → ℕ → Type 0
NoneCount i es at = (k : ℕ) → at ≤ k → Counts i es k → ⊥

-- no entry from the first of these places on and before the other one counts
abbrev pub NoneCountBetween : Input → List Entry → ℕ → ℕ → Type 0
NoneCountBetween i es at k = (j : ℕ) → at ≤ j → j < k → Counts i es j → ⊥

-- The entry at place `k` is the first from place `at` on that counts.
pub record IsFirstToCount (i : Input) (es : List Entry) (at k : ℕ) : Type 0 where
  pub after : at ≤ k
  pub counts : Counts i es k
  pub none : NoneCountBetween i es at k

-- ---- laws

-- whoever asked the solver after so many entries has asked it so, whatever entries follow
abbrev pub AskedForGood : Type 0
AskedForGood = (i : Input) (es more : List Entry) (at : ℕ) → WasAsked i es at → WasAsked i (es ++ more) at

-- the solver is still asked after these entries, and what is known is what was known after so many of them
pub record IsStillAsked (i : Input) (es : List Entry) (at : ℕ) : Type 0 where
  pub asks : wants_plan i es ≡ true
  pub known : know i es ≡ know i (take at es)

-- in a history, while nothing counts since the solver was asked, it is asked still, and what is known is the same
abbrev pub StillAsked : Type 0
StillAsked =
    (i : Input) (es : List Entry) (at : ℕ) → IsHistory i es → WasAsked i es at → NoneCount i es at → IsStillAsked i es at

-- whether an event may come while the solver is asked: an edit or its refusal, a pass, or what ends the plan
abbrev pub may_come : Event → Bool
may_come (event.Edit by edit) = true
may_come (event.Refused by why) = true
may_come (event.Pass r p why) = true
may_come (event.Replan acts) = true
may_come (event.Over how) = true
may_come e = false

-- in a history, while nothing counts since the solver was asked, nothing else comes next
abbrev pub OnlyEditsCount : Type 0
OnlyEditsCount =
    (i : Input) (es : List Entry) (at k : ℕ) (e : Entry) → IsHistory i es → WasAsked i es at → at ≤ k → slice_get es k ≡ Some e
    → NoneCountBetween i es at k → IsTrue (may_come e.what)

-- ---- what is known after one more entry

-- each edit of a history was accepted, and what is known after it is what it makes
abbrev pub EditsAreMade : Type 0
EditsAreMade =
    (i : Input) (es : List Entry) (k : ℕ) (e : Entry) (by : By) (edit : Edit) → IsHistory i es → slice_get es k ≡ Some e
    → e.what ≡ event.Edit by edit → edited i.domain (know i (take k es)) edit ≡ Ok (know i (take (k + 1) es))

-- an entry that is no edit, start or end leaves what is known
abbrev pub OthersLeave : Type 0
OthersLeave =
    (i : Input) (es : List Entry) (k : ℕ) (e : Entry) → slice_get es k ≡ Some e → IsFalse (is_change e.what)
    → know i (take (k + 1) es) ≡ know i (take k es)

-- two states of what is known are equal where they can't differ
abbrev pub KnowledgeDecides : Type 0
KnowledgeDecides = (k l : Knowledge) → ((k ≡ l → ⊥) → ⊥) → k ≡ l
