-- The end of a run is the last of the entries that answer no line.
use Rattle.std.proofs.Common.{◌≡◌, Bool, true, false, not, List, [], ◌∷◌, ◌++◌, IsTrue, refl, ap, sym, ◌∙◌, subst, append_assoc, append-nil, inl, inr, ◌⊎◌}
use Rattle.std.specs.List.{AllByRecursion}
use Rattle.std.specs.Option.{unwrap_or}
use Rattle.std.proofs.lemmas.Bool.{true≢false, and_parts}
use Rattle.ps_machine.specs.declared.inputs.Input.{Input}
use Rattle.ps_machine.specs.declared.journal.Outcome.{Outcome}
use Rattle.ps_machine.specs.declared.journal.Event.{Event}
use Rattle.ps_machine.specs.declared.journal.Event.TheVariants as event
use Rattle.ps_machine.specs.declared.journal.Entry.{Entry}
use Rattle.ps_rules.specs.Runs.{is_running, says_open}
use Rattle.ps_rules.specs.Lines.{answers_line}
use Rattle.ps_rules.specs.Legal.{is_legal, row_allows, same_flag}
use Rattle.ps_rules.specs.History.{forced, IsHistory}
use Rattle.ps_rules.specs.History.IsHistory.{nothing, block}
use Rattle.ps_rules.specs.Laws.{is_cancel}
use Rattle.ps_rules.specs.Prefixes.{Leads}
use Rattle.ps_rules.proofs.Prefixes.{history-leads, lead-next, lead-owed}
use Rattle.ps_rules.proofs.Pushed.{read-push}
use Rattle.ps_progress_laws.proofs.Picking.{clash}
use Rattle.ps_good_plan_laws.specs.Segments.{NoneIs}
use Rattle.ps_pool.proofs.Forcing.{each-forced, over-forces-nothing}

abbrev AreCancels : List Entry → Type 0
AreCancels due = AllByRecursion (λ c. is_cancel c.what ≡ true) due

-- A history goes on from some entries, where these cancels are due, by others.
pub record Way (i : Input) (past due es : List Entry) : Type 0 where
  pub leads : Leads i past due es []
  pub history : IsHistory i (past ++ due)
  pub cancels : AreCancels due

-- The next of them is a cancel, or a legal event after a whole history, which forces what is due then.
pub record Step (i : Input) (past : List Entry) (e : Entry) (es : List Entry) : Type 0 where
  pub due : List Entry
  pub way : Way i (past ++ e ∷ []) due es
  pub is : (is_cancel e.what ≡ true) ⊎ (IsHistory i past × IsTrue (is_legal i past e.what) × (due ≡ forced i past e))

pub step : (i : Input) (past due es : List Entry) (e : Entry) → Way i past due (e ∷ es) → Step i past e es
step i past [] es e w =
    let h = subst (IsHistory i) (append-nil past) w.history in
    let l = lead-next i past es [] e w.leads in
    record {
      due = forced i past e;
      way = record {
        leads = l.2;
        history = subst (IsHistory i) (sym (append_assoc past (e ∷ []) (forced i past e))) (block past e h l.0 l.1);
        cancels = each-forced (λ c. is_cancel c.what ≡ true) e.hand (λ why act. refl) i (past ++ e ∷ []) e.what;
      };
      is = inr (h, l.0, refl);
    }
step i past (c ∷ due) es e w =
    let l = lead-owed i past due es [] c e w.leads in
    record {
      due = due;
      way = record {
        leads = subst (λ x. Leads i (past ++ x ∷ []) due es []) (sym l.0) l.1;
        history = subst (IsHistory i) (sym (append_assoc past (e ∷ []) due)) (subst (λ x. IsHistory i (past ++ x ∷ due)) (sym l.0) w.history);
        cancels = w.cancels.1;
      };
      is = inl (ap (λ x. is_cancel x.what) l.0 ∙ w.cancels.0);
    }

-- from some entries on
pub from : (i : Input) (past due before es : List Entry) → Way i past due (before ++ es) → (now : List Entry) × Way i (past ++ before) now es
from i past due [] es w = (due, subst (λ t. Way i t due es) (sym (append-nil past)) w)
from i past due (b ∷ before) es w =
    let s = step i past due (before ++ es) b w in
    let g = from i (past ++ b ∷ []) s.due before es s.way in
    (g.0, subst (λ t. Way i t g.0 es) (append_assoc past (b ∷ []) before) g.1)

pub way-from : (i : Input) (before es : List Entry) → IsHistory i (before ++ es) → (due : List Entry) × Way i before due es
way-from i before es h = from i [] [] before es (record { leads = history-leads i (before ++ es) h; history = nothing; cancels = tt })

-- ---- ends of runs

-- whether an event ends a run
abbrev pub is_over : Event → Bool
is_over (event.Over how) = true
is_over e = false

pub over-so : (e : Event) → is_over e ≡ true → (how : Outcome) × (e ≡ event.Over how)
over-so (event.Over how) h = (how, refl)
over-so e h = absurd (true≢false (sym h))

over-cancels : (e : Event) → is_over e ≡ true → is_cancel e ≡ true → ⊥
over-cancels (event.Over how) h c = true≢false (sym c)
over-cancels e h c = true≢false (sym h)

-- an event is legal where no run is open only if it answers a line
closed-answers : (i : Input) (es : List Entry) (e : Event) → is_running es ≡ false → IsTrue (is_legal i es e) → answers_line e ≡ true
closed-answers i es e closed legal = by_flag (answers_line e) (ap (λ b. same_flag (answers_line e) (not b)) (sym closed) ∙ (and_parts (same_flag (answers_line e) (not (is_running es))) (row_allows i es e) legal).0)
  where
    by_flag : (b : Bool) → same_flag b true ≡ true → b ≡ true
    by_flag true h = refl
    by_flag false h = absurd (true≢false (sym h))

-- so nothing comes that answers none
closed-ends : (i : Input) (past es : List Entry) → Way i past [] es → is_running past ≡ false → NoneIs answers_line es → es ≡ []
closed-ends i past [] w closed none = refl
closed-ends i past (e ∷ es) w closed none =
    clash (answers_line e.what) (closed-answers i past e.what closed (lead-next i past es [] e w.leads).0) none.0

-- only the last of some entries ends a run
abbrev pub EndsLast : List Entry → Type 0
EndsLast [] = Unit {0}
EndsLast (e ∷ es) = (is_over e.what ≡ true → es ≡ []) × EndsLast es

pub ends-last : (i : Input) (past due es : List Entry) → Way i past due es → NoneIs answers_line es → EndsLast es
ends-last i past due [] w none = tt
ends-last i past due (e ∷ es) w none =
    let s = step i past due es e w in (
      (λ over.
          let how = over-so e.what over in
          elim s.is [
            | inl c ↦ absurd (over-cancels e.what over c)
            | inr l ↦
                let nothing_due : s.due ≡ [] = l.2 ∙ over-forces-nothing i past e how.0 l.0 l.1 how.1 in
                let closed : is_running (past ++ e ∷ []) ≡ false =
                read-push (λ b f. unwrap_or (says_open f) b) false past e ∙ ap (λ f. unwrap_or (says_open f) (is_running past)) how.1 in
                closed-ends i (past ++ e ∷ []) es (subst (λ d. Way i (past ++ e ∷ []) d es) nothing_due s.way) closed none.1
          ]),
      ends-last i (past ++ e ∷ []) s.due es s.way none.1,
    )
