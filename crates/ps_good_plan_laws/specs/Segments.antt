-- The entries of one plan, after the entry that makes it.
use Rattle.std.specs.Prelude.{◌≡◌, Bool, true, false, List, [], ◌∷◌, ◌++◌, IsTrue, IsFalse}
use Rattle.std.specs.List.{AllByRecursion}
use Rattle.ps_machine.specs.declared.inputs.Input.{Input}
use Rattle.ps_machine.specs.declared.journal.RunKind.TheVariants as run
use Rattle.ps_machine.specs.declared.journal.FailWhy.TheVariants as fail
use Rattle.ps_machine.specs.declared.journal.CancelWhy.TheVariants as cancel
use Rattle.ps_machine.specs.declared.journal.Outcome.TheVariants as outcome
use Rattle.ps_machine.specs.declared.journal.Event.{Event}
use Rattle.ps_machine.specs.declared.journal.Event.TheVariants as event
use Rattle.ps_machine.specs.declared.journal.Entry.{Entry}
use Rattle.ps_arcs.specs.Commuting.{TellTheSame}
use Rattle.ps_rules.specs.Known.{know}
use Rattle.ps_rules.specs.History.{is_fail, IsHistory}

-- whether an event makes a plan that is good where it begins; that of `run action` needn't be
abbrev pub makes_good_plan : Event → Bool
makes_good_plan (event.Run run.Goal acts) = true
makes_good_plan (event.Run run.Plan acts) = true
makes_good_plan (event.Replan acts) = true
makes_good_plan e = false

-- whether an event ends the plan: another one takes its place, or the run is over
abbrev pub ends_plan : Event → Bool
ends_plan (event.Replan acts) = true
ends_plan (event.Over how) = true
ends_plan e = false

-- none of these entries but, maybe, the last ends the plan
abbrev pub IsOfOnePlan : List Entry → Type 0
IsOfOnePlan [] = Unit {0}
IsOfOnePlan (e ∷ []) = Unit {0}
IsOfOnePlan (e ∷ f ∷ es) = IsFalse (ends_plan e.what) × IsOfOnePlan (f ∷ es)

-- whether an event is an edit, by whomever
abbrev pub is_edit : Event → Bool
is_edit (event.Edit by edit) = true
is_edit e = false

-- none of these entries, which follow those before, is an edit that changed what is known
abbrev pub NoEditCounts : Input → List Entry → List Entry → Type 0
NoEditCounts i before [] = Unit {0}
NoEditCounts i before (e ∷ es) =
    (IsTrue (is_edit e.what) → TellTheSame (know i before) (know i (before ++ e ∷ [])))
    × NoEditCounts i (before ++ e ∷ []) es

-- whether an event tells that the plan went wrong by itself: an act failed by its end condition or its end effects, an over-all
-- condition broke, or the run is blocked
abbrev pub is_own_fault : Event → Bool
is_own_fault (event.Fail act fail.AtEnd) = true
is_own_fault (event.Fail act fail.Effect) = true
is_own_fault (event.Cancel act cancel.OverAll) = true
is_own_fault (event.Over outcome.Blocked) = true
is_own_fault e = false

-- whether an event leaves the plan without success: it is planned anew, or the run ends otherwise
abbrev pub is_given_up : Event → Bool
is_given_up (event.Replan acts) = true
is_given_up (event.Over outcome.Success) = false
is_given_up (event.Over how) = true
is_given_up e = false

-- no event of these entries passes this test
abbrev pub NoneIs : (Event → Bool) → List Entry → Type 0
NoneIs test es = AllByRecursion (λ e. IsFalse (test e.what)) es

-- entries of one plan tell that it goes well: none tells that it went wrong by itself, and if no act failed, none leaves it without
-- success
pub record GoesWell (es : List Entry) : Type 0 where
  pub no_fault : NoneIs is_own_fault es
  pub success : NoneIs is_fail es → NoneIs is_given_up es

-- The good plans of a journal go well: take entries of it that follow one that makes a plan which is good where it begins, up to the end
-- of the plan or less far, and let no edit among them have changed what is known; then they tell that the plan goes well.
pub record GoWell (i : Input) (all : List Entry) : Type 0 where
  pub each : (before es rest : List Entry) (e : Entry)
      → all ≡ before ++ e ∷ (es ++ rest)
      → IsTrue (makes_good_plan e.what)
      → IsOfOnePlan es
      → NoEditCounts i (before ++ e ∷ []) es
      → GoesWell es

-- the good plans of every history go well
abbrev pub JournalsGoWell : Type 0
JournalsGoWell = (i : Input) (all : List Entry) → IsHistory i all → GoWell i all
