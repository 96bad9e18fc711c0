-- What stands first among entries that lead on, and that those after some of them lead on too.
use Rattle.std.proofs.Common.{◌≡◌, ℕ, ◌||◌, true, List, [], ◌∷◌, ◌++◌, IsTrue, map, if◌then◌else◌, refl, sym, subst, inl, inr, ◌⊎◌, append_assoc, append-nil}
use Rattle.std.specs.List.{AllByRecursion}
use Rattle.ps_machine.specs.declared.inputs.Input.{Input}
use Rattle.ps_machine.specs.declared.journal.CancelWhy.{CancelWhy}
use Rattle.ps_machine.specs.declared.journal.CancelWhy.TheVariants as cancel
use Rattle.ps_machine.specs.declared.journal.Event.{Event}
use Rattle.ps_machine.specs.declared.journal.Entry.{Entry}
use Rattle.ps_rules.specs.Legal.{is_legal}
use Rattle.ps_rules.specs.History.{any_of, broken, cancels, forced, forced_after, is_fail, IsHistory, unbroken}
use Rattle.ps_rules.specs.Prefixes.{Leads}
use Rattle.ps_rules.specs.Prefixes.Leads.{here, owed, next}
use Rattle.ps_rules.specs.Laws.{is_cancel}
use Rattle.ps_rules.proofs.Prefixes.{history-leads}
use Rattle.ps_rules.proofs.Longest.{stops-are}

-- what stands first: a cancel that is due, or a legal event
abbrev pub Head : Input → List Entry → List Entry → List Entry → List Entry → Type 0
Head i before due [] last = Unit {0}
Head i before due (e ∷ es) last =
    ((more : List Entry) × (due ≡ e ∷ more) × Leads i (before ++ e ∷ []) more es last)
    ⊎ ((due ≡ []) × (IsTrue (is_legal i before e.what)) × Leads i (before ++ e ∷ []) (forced i before e) es last)

pub head_of : (i : Input) (before due es last : List Entry) → Leads i before due es last → Head i before due es last
head_of i _ _ _ _ (here before due) = tt
head_of i _ _ _ _ (owed before due es last c l) = inl (due, refl, l)
head_of i _ _ _ _ (next before es last e legal hand l) = inr (refl, legal, l)

-- ---- what is due

abbrev AreCancels : List Entry → Type 0
AreCancels due = AllByRecursion (λ c. is_cancel c.what ≡ true) due

cancels_are : (hand : ℕ) (why : CancelWhy) (acts : List ℕ) (more : List Entry) → AreCancels more → AreCancels (map (cancels hand why) acts ++ more)
cancels_are hand why [] more h = h
cancels_are hand why (act ∷ acts) more h = (refl, cancels_are hand why acts more h)

forced_are : (i : Input) (es : List Entry) (hand : ℕ) (e : Event) → AreCancels (forced_after i es hand e)
forced_are i es hand e =
    cancels_are hand cancel.OverAll (broken i es) (if is_fail e || any_of (broken i es) then map (cancels hand cancel.Stop) (unbroken i es) else [])
    (stops-are hand (is_fail e || any_of (broken i es)) (unbroken i es))

-- after the first of some entries, the others lead on
cut : (i : Input) (past due before es last : List Entry) → AreCancels due → Leads i past due (before ++ es) last
    → (now : List Entry) × AreCancels now × Leads i (past ++ before) now es last
cut i past due [] es last h l = (due, h, subst (λ t. Leads i t due es last) (sym (append-nil past)) l)
cut i past due (b ∷ before) es last h l =
    let join = append_assoc past (b ∷ []) before in
    elim (head_of i past due (b ∷ (before ++ es)) last l) [
      | inl w ↦
          let g = cut i (past ++ b ∷ []) w.0 before es last (subst AreCancels w.1 h).1 w.2 in
          (g.0, g.1, subst (λ t. Leads i t g.0 es last) join g.2)
      | inr w ↦
          let g = cut i (past ++ b ∷ []) (forced i past b) before es last (forced_are i (past ++ b ∷ []) b.hand b.what) w.2 in
          (g.0, g.1, subst (λ t. Leads i t g.0 es last) join g.2)
    ]

-- an entry of a history that is no cancel is legal where it stands, and the entries after it lead on with what it forces
pub from_history : (i : Input) (before es : List Entry) (e : Entry) → IsHistory i (before ++ e ∷ es) → (is_cancel e.what ≡ true → ⊥)
    → (is_legal i before e.what ≡ true) × Leads i (before ++ e ∷ []) (forced i before e) es []
from_history i before es e history own =
    let c = cut i [] [] before (e ∷ es) [] tt (history-leads i (before ++ e ∷ es) history) in
    elim (head_of i before c.0 (e ∷ es) [] c.2) [
      | inl w ↦ absurd (own (subst AreCancels w.1 c.1).0)
      | inr w ↦ (w.1, w.2)
    ]
