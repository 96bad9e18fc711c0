-- What is found where the entries of a text are judged.
use Rattle.std.proofs.Common.{◌≡◌, ℕ, Bool, true, false, List, [], ◌++◌, Some, Result, Ok, IfOk, refl, ap, sym, ◌∙◌, subst}
use Rattle.ps_world.specs.Names.{Table}
use Rattle.ps_machine.specs.declared.inputs.Input.{Input}
use Rattle.ps_machine.specs.declared.journal.Entry.{Entry}
use Rattle.ps_rules.specs.History.{IsHistory, IsWhole}
use Rattle.ps_rules.specs.Heads.{head_text, settings_of}
use Rattle.ps_rules.specs.Journal.{text_after, text_with}
use Rattle.ps_rules.specs.Prefixes.{good_length}
use Rattle.ps_replay.specs.Replay.{Replays}
use Rattle.ps_replay.specs.declared.verdict.Verdict.{Verdict}
use Rattle.ps_replay.specs.declared.verdict.Verdict.TheVariants as verdict
use Rattle.ps_entries.specs.Journals.{IsText}
use Rattle.ps_entries.specs.declared.journals.JournalText.{JournalText}
use Rattle.ps_audit.specs.Texts.{AddsIfLegal}
use Rattle.ps_audit.specs.declared.audits.Judged.{Judged}
use Rattle.ps_audit.specs.Findings.{compared, due_head, entries_of, finding_line, Finds, FindsOf, found_by, good_entries, IsAnswer, IsLegal, IsWritten, IsWrittenAnew, Judges, line_of, lines_in}
use Rattle.ps_audit.specs.Findings.Finds.{broken, whole}
use Rattle.ps_audit.specs.declared.findings.Finding.{Finding}
use Rattle.ps_audit.specs.declared.findings.Finding.TheVariants.{Illegal, Legal}

module _ (i : Input) (after : Table) (text : List ℕ) (t : JournalText) where
  abbrev es : List Entry
  es = entries_of t.entries

  -- they are a whole history
  found-whole : (due : List ℕ) (f : Finding) → IsLegal i t.entries → due ≡ text_with (due_head t.settings i) after i es → f ≡ compared text due → FindsOf i after text t f
  found-whole due f w is e = λ names journal.
      subst (Finds i names text) (sym (e ∙ ap (compared text) is)) (whole t.settings t.entries after journal w)

  -- they are none
  found-broken : (at : ℕ) → (¬ (IsLegal i t.entries)) × (at ≡ good_entries i t.entries) → FindsOf i after text t (Illegal (line_of text (lines_in t.entries) at))
  found-broken at b = λ names journal.
      subst (λ n. Finds i names text (Illegal (line_of text (lines_in t.entries) n))) (sym b.1) (broken t.settings t.entries after journal b.0)

  -- ---- judged

  abbrev text_due : List ℕ
  text_due = text_after after i [] es

  by-verdict : (E : Type 0) (v : Verdict) (old body : List ℕ) (j : Judged) → Replays {E = E} i es (Ok v) → AddsIfLegal text_due old body v → old ≡ []
      → j.finding ≡ found_by i text t v body → j.body.items ≡ body → Judges i after text t j
  by-verdict E verdict.Legal old body j w added empty found is =
      let all : body ≡ text_due = added ∙ ap (λ o. o ++ text_due) empty in
      record {
        finds = found-whole (head_text (due_head t.settings i) ++ body) j.finding w (ap (λ b. head_text (due_head t.settings i) ++ b) all) found;
        entries = λ legal. (w, is ∙ all);
      }
  by-verdict E (verdict.Illegal at) old body j b added empty found is =
      record {
        finds = subst (FindsOf i after text t) (sym found) (found-broken at b);
        entries = λ legal.
            let none : Illegal (line_of text (lines_in t.entries) at) ≡ Legal = sym found ∙ legal in
            absurd (cc);
      }

  -- the entries of a text were judged
  pub judged : {E : Type 0} (r : Result Verdict E) (v : Verdict) (old body : List ℕ) (j : Judged) → r ≡ Ok v → Replays i es r
      → IfOk r (AddsIfLegal text_due old body) → old ≡ [] → j.finding ≡ found_by i text t v body → j.body.items ≡ body → Judges i after text t j
  judged {E} r v old body j er replays added empty found is =
      by-verdict E v old body j (subst (Replays i es) er replays) (subst (λ x. IfOk x (AddsIfLegal text_due old body)) er added) empty found is

-- ---- what is to be written

module _ (names after : Table) (i : Input) (text : List ℕ) (t : JournalText) (j : Judged) (read : IsText names text t after) (judges : Judges i after text t j) where
  pub judged-finds : Finds i names text j.finding
  judged-finds = judges.finds names read.journal

  written-anew : (f : Finding) (out : List ℕ) → j.finding ≡ f → IsWrittenAnew (settings_of i) j f out → IsAnswer i names text true f out
  written-anew Legal out is w =
      let legal = judges.entries is in
      record {
        head = t.settings;
        es = t.entries;
        after = after;
        journal = read.journal;
        legal = legal.0;
        is = w ∙ ap (λ b. head_text (Some (settings_of i)) ++ b) legal.1;
      }
  written-anew (Illegal line) out is w = w

  pub written-answer : (anew : Bool) (f : Finding) (out : List ℕ) → f ≡ j.finding → IsWritten (settings_of i) j anew out → IsAnswer i names text anew f out
  written-answer true f out is w = subst (λ g. IsAnswer i names text true g out) (sym is) (written-anew j.finding out refl w)
  written-answer false f out is w = w ∙ ap finding_line (sym is)
