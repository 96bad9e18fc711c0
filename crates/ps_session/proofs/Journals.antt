-- The journal of a session is one.
use Rattle.std.proofs.Common.{◌≡◌, ℕ, None, ◌≤◌, inl, inr, Bool, true, false, if◌then◌else◌, List, [], ◌∷◌, fold, refl, ap, sym, ◌∙◌}
use Rattle.std.proofs.lemmas.Bool.{true≢false}
use Rattle.ps_action.specs.Search.{answer}
use Rattle.ps_machine.specs.declared.inputs.Line.{Line}
use Rattle.ps_machine.specs.declared.inputs.Input.{Input}
use Rattle.ps_machine.specs.declared.journal.Entry.{Entry}
use Rattle.ps_rules.specs.Choices.{after_line, ordered, Says, with_line}
use Rattle.ps_rules.specs.History.{IsHistory}
use Rattle.ps_rules.specs.Lines.{due_lines, next_line}
use Rattle.ps_rules.specs.Runs.{is_running}
use Rattle.ps_order_laws.proofs.Moments.{le_or}
use Rattle.ps_pool.proofs.Ending.{closed-turns}
use Rattle.ps_replies.specs.Plans.{GivesLeast}
use Rattle.ps_session.specs.Laws.{OneJournal}
use Rattle.ps_session.specs.Lines.{IsBegun}
use Rattle.ps_session.specs.Session.{IsJournal, IsOrdered}
use Rattle.ps_session.specs.declared.ways.Turns.{Turns}
use Rattle.ps_session.proofs.Begun.{ordered-of, runs-answered, whole-of}
use Rattle.ps_session.proofs.Success.{histories_tell_success}

-- what a session that is done comes to
pub journal-of : (how : Turns) (says : Says) (i : Input) (es : List Entry) → GivesLeast says → IsBegun how says i es → IsHistory i es → next_line i es ≡ None
    → is_running es ≡ false → IsJournal how i es
journal-of how says i es gives b history none closed = record {
  history = history;
  whole = whole-of how says i es b none closed;
  hands = b.hands;
  runs = runs-answered says i es gives b.runs;
  success = histories_tell_success i es history;
  ordered = λ inOrder. ordered-of how says i es gives b (b.ordered inOrder) none;
}

module _ (says : Says) (i : Input) where
  -- nothing more is answered while a run is open
  stuck : (n : ℕ) (es : List Entry) (lines : List Line) → is_running es ≡ true → fold (after_line says i n) es lines ≡ es
  stuck n es [] live = refl
  stuck n es (line ∷ lines) live =
      let same : after_line says i n es line ≡ es = ap (λ b. if b then es else ordered says i (with_line says i es line) n) live in
      ap (λ x. fold (after_line says i n) x lines) same ∙ stuck n es lines live

  same-line : (m n : ℕ) (es : List Entry) (line : Line) → m ≤ n → is_running (after_line says i m es line) ≡ false → after_line says i n es line ≡ after_line says i m es line
  same-line m n es line l closed = by-open (is_running es) closed where
    by-open : (b : Bool) → is_running (if b then es else ordered says i (with_line says i es line) m) ≡ false
        → (if b then es else ordered says i (with_line says i es line) n) ≡ (if b then es else ordered says i (with_line says i es line) m)
    by-open true shut = refl
    by-open false shut = closed-turns says i (with_line says i es line) m n l shut

  -- whether the first line's run has ended
  goes-on : (m n : ℕ) (es : List Entry) (line : Line) (lines : List Line) (b : Bool) → m ≤ n → is_running (after_line says i m es line) ≡ b
      → is_running (fold (after_line says i m) es (line ∷ lines)) ≡ false
      → ((fs : List Entry) → is_running (fold (after_line says i m) fs lines) ≡ false → fold (after_line says i n) fs lines ≡ fold (after_line says i m) fs lines)
      → fold (after_line says i n) es (line ∷ lines) ≡ fold (after_line says i m) es (line ∷ lines)
  goes-on m n es line lines true l live closed more =
      absurd (true≢false (sym live ∙ ap is_running (sym (stuck m (after_line says i m es line) lines live)) ∙ closed))
  goes-on m n es line lines false l shut closed more =
      ap (λ x. fold (after_line says i n) x lines) (same-line m n es line l shut) ∙ more (after_line says i m es line) closed

  -- more turns change nothing where all runs have ended
  enough : (m n : ℕ) (es : List Entry) (lines : List Line) → m ≤ n → is_running (fold (after_line says i m) es lines) ≡ false
      → fold (after_line says i n) es lines ≡ fold (after_line says i m) es lines
  enough m n es [] l closed = refl
  enough m n es (line ∷ lines) l closed =
      goes-on m n es line lines (is_running (after_line says i m es line)) l refl closed (λ fs shut. enough m n fs lines l shut)

pub one_journal : OneJournal
one_journal i es fs j k =
    let one : IsOrdered i es = j.ordered refl in
    let other : IsOrdered i fs = k.ordered refl in
    elim (le_or one.turns other.turns) [
      | inl l ↦
          one.all
          ∙ sym (enough answer i one.turns other.turns [] (due_lines i.lines) l (ap is_running (sym one.all) ∙ j.whole.closed))
          ∙ sym other.all
      | inr l ↦
          one.all
          ∙ enough answer i other.turns one.turns [] (due_lines i.lines) l (ap is_running (sym other.all) ∙ k.whole.closed)
          ∙ sym other.all
    ]
