-- Histories read from their beginning, entry by entry, and their prefixes.
use Rattle.std.specs.Prelude.{ℕ, ◌≤◌, ◌+◌, ◌==◌, ◌&&◌, ◌↔◌, Bool, true, false, if◌then◌else◌, List, [], ◌∷◌, ◌++◌, length, take, IsTrue}
use Rattle.ps_machine.specs.declared.journal.CancelWhy.{CancelWhy}
use Rattle.ps_machine.specs.declared.journal.CancelWhy.TheVariants as cancel
use Rattle.ps_machine.specs.declared.journal.Event.{Event}
use Rattle.ps_machine.specs.declared.journal.Event.TheVariants as event
use Rattle.ps_machine.specs.declared.inputs.Input.{Input}
use Rattle.ps_machine.specs.declared.journal.Entry.{Entry}
use Rattle.ps_rules.specs.Legal.{has_hand, is_legal}
use Rattle.ps_rules.specs.History.{forced, IsHistory}

-- The cancels that are due after the last of these entries, where these cancels were due before them: each entry is the next cancel
-- that is due, or, where none is due, a legal event, which makes its own due.
pub data Leads (i : Input) : List Entry → List Entry → List Entry → List Entry → Type 0 where
  here : (before due : List Entry) → Leads i before due [] due
  owed : (before due es last : List Entry) (c : Entry) → Leads i (before ++ c ∷ []) due es last
      → Leads i before (c ∷ due) (c ∷ es) last
  next : (before es last : List Entry) (e : Entry) → IsTrue (is_legal i before e.what) → IsTrue (has_hand e.what e.hand)
      → Leads i (before ++ e ∷ []) (forced i before e) es last → Leads i before [] (e ∷ es) last

-- A journal is a history exactly where its entries lead from nothing to nothing due.
abbrev pub HistoriesLead : Type 0
HistoriesLead = (i : Input) (es : List Entry) → IsHistory i es ↔ Leads i [] [] es []

-- these entries are a prefix of a history, and these are the cancels that are due after them
abbrev pub IsPrefix : Input → List Entry → List Entry → Type 0
IsPrefix i es due = Leads i [] [] es due

-- a prefix of a history, and then the cancels that are due after it, are a history
abbrev pub PrefixesGoOn : Type 0
PrefixesGoOn = (i : Input) (es due : List Entry) → IsPrefix i es due → IsHistory i (es ++ due)

-- ---- judging

-- whether two acts were cancelled for the same reason
abbrev pub same_why : CancelWhy → CancelWhy → Bool
same_why cancel.OverAll cancel.OverAll = true
same_why cancel.Stop cancel.Stop = true
same_why x y = false

-- whether two events are the same cancel
abbrev pub same_cancel : Event → Event → Bool
same_cancel (event.Cancel act why) (event.Cancel other reason) = (act == other) && same_why why reason
same_cancel e f = false

-- whether an entry is this cancel
abbrev pub is_due : Entry → Entry → Bool
is_due c e = (c.hand == e.hand) && same_cancel c.what e.what

-- how many of these entries, from the first on, may stand after those before them, where these cancels are due
abbrev pub good_length : Input → List Entry → List Entry → List Entry → ℕ
good_length i before due [] = 0
good_length i before (c ∷ due) (e ∷ es) = if is_due c e then good_length i (before ++ e ∷ []) due es + 1 else 0
good_length i before [] (e ∷ es) =
    if is_legal i before e.what && has_hand e.what e.hand then good_length i (before ++ e ∷ []) (forced i before e) es + 1 else 0

-- so many of the first entries are a prefix of a history exactly where they are no more than the good ones
abbrev pub GoodLengthIsLongest : Type 0
GoodLengthIsLongest =
    (i : Input) (es : List Entry) (n : ℕ) → n ≤ length es
    → n ≤ good_length i [] [] es ↔ ((due : List Entry) × IsPrefix i (take n es) due)
