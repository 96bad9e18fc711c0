-- The text of a journal is found to be one thing.
use Rattle.std.proofs.Common.{◌≡◌, ℕ, List, sym, ap, ◌∙◌, subst}
use Rattle.ps_world.specs.Names.{Table}
use Rattle.ps_machine.specs.declared.inputs.Input.{Input}
use Rattle.ps_machine.specs.declared.journal.Entry.{Entry}
use Rattle.ps_rules.specs.Heads.{Head}
use Rattle.ps_rules.specs.Journal.{text_with}
use Rattle.ps_text.specs.Names.{AreNames}
use Rattle.ps_entry_laws.proofs.OneFault.{faults_are_one}
use Rattle.ps_entries.specs.Journals.{IsFault, IsJournal}
use Rattle.ps_entries.specs.declared.journals.JournalRefusal.{JournalRefusal}
use Rattle.ps_entry_laws.proofs.OneFault.{journals_have_no_fault}
use Rattle.ps_entry_laws.proofs.OneJournal.{texts_are_one_journal}
use Rattle.ps_audit.specs.Findings.{Finds, IsLegal, compared, due_head, entries_of, good_entries, line_of, line_of_fault, lines_in}
use Rattle.ps_audit.specs.Findings.Finds.{unread, broken, whole}
use Rattle.ps_audit.specs.declared.findings.Finding.{Finding}
use Rattle.ps_audit.specs.declared.findings.Finding.TheVariants.{Illegal}
use Rattle.ps_input_laws.specs.Findings.{TextsAreFoundToBeOne}

module _ (i : Input) (names : Table) (text : List ℕ) (are : AreNames names) where
  faulty-not : {A : Type 0} (why : JournalRefusal) (head : Head) (es : List (ℕ × Entry)) (after : Table) → IsFault names text why → IsJournal names text head es after → A
  faulty-not why head es after h k = absurd (journals_have_no_fault names after text head es why are k h)

  module _ (g h : Head) (es fs : List (ℕ × Entry)) (after other : Table) (x : IsJournal names text g es after) (y : IsJournal names text h fs other) where
    same-head : g ≡ h
    same-head = (texts_are_one_journal names after other text g h es fs are x y).0

    same-entries : es ≡ fs
    same-entries = (texts_are_one_journal names after other text g h es fs are x y).1.0

    same-table : after ≡ other
    same-table = (texts_are_one_journal names after other text g h es fs are x y).1.1

  pub one_finding : (f g : Finding) → Finds i names text f → Finds i names text g → f ≡ g
  one_finding _ _ (unread why h) (unread other k) = ap (λ r. Illegal (line_of_fault r)) (faults_are_one names text why other are h k)
  one_finding _ _ (unread why h) (broken head es after k bad) = faulty-not why head es after h k
  one_finding _ _ (unread why h) (whole head es after k good) = faulty-not why head es after h k
  one_finding _ _ (broken head es after k bad) (unread why h) = faulty-not why head es after h k
  one_finding _ _ (broken head es after h bad) (broken too fs other k none) =
      ap (λ xs. Illegal (line_of text (lines_in xs) (good_entries i xs))) (same-entries head too es fs after other h k)
  one_finding _ _ (broken head es after h bad) (whole too fs other k good) = absurd (bad (subst (IsLegal i) (sym (same-entries head too es fs after other h k)) good))
  one_finding _ _ (whole head es after k good) (unread why h) = faulty-not why head es after h k
  one_finding _ _ (whole head es after h good) (broken too fs other k bad) = absurd (bad (subst (IsLegal i) (same-entries head too es fs after other h k) good))
  one_finding _ _ (whole head es after h good) (whole too fs other k fine) =
      ap (λ xs. compared text (text_with (due_head head i) after i (entries_of xs))) (same-entries head too es fs after other h k)
      ∙ ap (λ t. compared text (text_with (due_head head i) t i (entries_of fs))) (same-table head too es fs after other h k)
      ∙ ap (λ d. compared text (text_with (due_head d i) other i (entries_of fs))) (same-head head too es fs after other h k)

pub texts_are_found_to_be_one : TextsAreFoundToBeOne
texts_are_found_to_be_one i names text f g are h k = one_finding i names text are f g h k
