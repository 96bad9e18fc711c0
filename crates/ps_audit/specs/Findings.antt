-- What the text of a journal is found to be.
use Rattle.std.specs.Prelude.{◌≡◌, ℕ, Bool, true, false, suc, ◌==◌, if◌then◌else◌, List, [], ◌++◌, codes, count_by, decimal, length, map, nat_eq, slice_get, take, Some, None}
use Rattle.std.specs.List.{common_prefix_len}
use Rattle.std.specs.Option.{unwrap_or}
use Rattle.ps_world.specs.Lines.{line_end, lines_of, same_text}
use Rattle.ps_world.specs.Names.{Table}
use Rattle.ps_machine.specs.declared.inputs.Input.{Input}
use Rattle.ps_machine.specs.declared.journal.Entry.{Entry}
use Rattle.ps_rules.specs.History.{IsHistory, IsWhole}
use Rattle.ps_rules.specs.Heads.{Head, Settings, head_text, settings_of}
use Rattle.ps_rules.specs.Journal.{journal_text, text_after, text_with}
use Rattle.ps_rules.specs.Prefixes.{good_length}
use Rattle.ps_entries.specs.Journals.{IsFault, IsJournal}
use Rattle.ps_entries.specs.declared.journals.JournalRefusal.{JournalRefusal}
use Rattle.ps_entries.specs.declared.journals.JournalText.{JournalText}
use Rattle.ps_replay.specs.declared.verdict.Verdict.{Verdict}
use Rattle.ps_replay.specs.declared.verdict.Verdict.TheVariants as verdict
use Rattle.ps_audit.specs.declared.audits.Judged.{Judged}
use Rattle.ps_entries.specs.declared.journals.JournalRefusal.TheVariants as refusal
use Rattle.ps_audit.specs.declared.findings.Finding.{Finding}
use Rattle.ps_audit.specs.declared.findings.Finding.TheVariants.{Legal, Illegal}

-- ---- lines

-- the line of a text's first fault
abbrev pub line_of_fault : JournalRefusal → ℕ
line_of_fault refusal.Header = 1
line_of_fault (refusal.Line n) = n

-- how many lines of a text are ended
abbrev pub line_ends : List ℕ → ℕ
line_ends text = count_by (λ b. b == 10) text

-- the first line at which two texts differ: the one after those that are ended in what both begin with
abbrev pub line_of_difference : List ℕ → List ℕ → ℕ
line_of_difference text due = suc (line_ends (take (common_prefix_len nat_eq text due) text))

-- the entries of a journal, without their lines
abbrev pub entries_of : List (ℕ × Entry) → List Entry
entries_of es = map (λ e. e.1) es

-- the lines of the entries
abbrev pub lines_in : List (ℕ × Entry) → List ℕ
lines_in es = map (λ e. e.0) es

-- the line of the entry at this place, where these are the lines of a text's entries; the line after the last of the text where there
-- is none
abbrev pub line_of : List ℕ → List ℕ → ℕ → ℕ
line_of text lines at = unwrap_or (slice_get lines at) (suc (length (lines_of text)))

-- the head that the text of entries is to have where theirs has this one: in version 2 it says the settings of the input
abbrev pub due_head : Head → Input → Head
due_head None i = None
due_head (Some s) i = Some (settings_of i)

-- what the text of a whole history is found to be, which should be this one
abbrev pub compared : List ℕ → List ℕ → Finding
compared text due = if same_text text due then Legal else Illegal (line_of_difference text due)

-- ---- what is found

-- the entries are a whole history of an input
abbrev pub IsLegal : Input → List (ℕ × Entry) → Type 0
IsLegal i es = IsHistory i (entries_of es) × IsWhole i (entries_of es)

-- how many of the first entries are a prefix of a history
abbrev pub good_entries : Input → List (ℕ × Entry) → ℕ
good_entries i es = good_length i [] [] (entries_of es)

-- What the text of a journal is found to be, with a table of names before it: it has a line that is out of the grammar; or its entries
-- are none of a whole history, and then the first one that may not stand there is told, or the line after the last; or they are, and
-- then it is compared with their text, in its version.
pub data Finds (i : Input) (names : Table) (text : List ℕ) : Finding → Type 0 where
  unread : (why : JournalRefusal) → IsFault names text why → Finds i names text (Illegal (line_of_fault why))
  broken : (head : Head) (es : List (ℕ × Entry)) (after : Table) → IsJournal names text head es after → ¬ (IsLegal i es)
      → Finds i names text (Illegal (line_of text (lines_in es) (good_entries i es)))
  whole : (head : Head) (es : List (ℕ × Entry)) (after : Table) → IsJournal names text head es after → IsLegal i es
      → Finds i names text (compared text (text_with (due_head head i) after i (entries_of es)))

-- what a text is found to be that is read as this, by what judging its entries came to, and by this text of theirs
abbrev pub found_by : Input → List ℕ → JournalText → Verdict → List ℕ → Finding
found_by i text t verdict.Legal body = compared text (head_text (due_head t.settings i) ++ body)
found_by i text t (verdict.Illegal at) body = Illegal (line_of text (lines_in t.entries) at)

-- a text is found to be this, if it is read as that, with this table after it
abbrev pub FindsOf : Input → Table → List ℕ → JournalText → Finding → Type 0
FindsOf i after text t f = (names : Table) → IsJournal names text t.settings t.entries after → Finds i names text f

-- a text that is read as this is judged: it is found to be that, and if it is legal, this is the text of its entries
pub record Judges (i : Input) (after : Table) (text : List ℕ) (t : JournalText) (j : Judged) : Type 0 where
  pub finds : FindsOf i after text t j.finding
  pub entries : j.finding ≡ Legal → IsLegal i t.entries × (j.body.items ≡ text_after after i [] (entries_of t.entries))

-- ---- what is said of it

-- the line that says what was found
abbrev pub finding_line : Finding → List ℕ
finding_line Legal = codes "legal" ++ line_end
finding_line (Illegal line) = codes "illegal line " ++ (decimal line ++ line_end)

-- 0 where the journal is legal, else 7
abbrev pub finding_status : Finding → ℕ
finding_status Legal = 0
finding_status (Illegal line) = 7

-- Text that is a legal journal's, written anew: that of its entries, which begins with the settings of the input.
pub record IsAnew (i : Input) (names : Table) (text out : List ℕ) : Type 0 where
  pub head : Head
  pub es : List (ℕ × Entry)
  pub after : Table
  pub journal : IsJournal names text head es after
  pub legal : IsLegal i es
  pub is : out ≡ journal_text after i (entries_of es)

-- what is written anew for a text that is judged so and found to be this
abbrev pub IsWrittenAnew : Settings → Judged → Finding → List ℕ → Type 0
IsWrittenAnew s j Legal out = out ≡ head_text (Some s) ++ j.body.items
IsWrittenAnew s j (Illegal line) out = out ≡ finding_line (Illegal line)

-- what is written for a text that is judged so: the text of its entries after these settings, where that is wanted and it is legal, or else
-- the line that says what was found
abbrev pub IsWritten : Settings → Judged → Bool → List ℕ → Type 0
IsWritten s j true out = IsWrittenAnew s j j.finding out
IsWritten s j false out = out ≡ finding_line j.finding

-- what is to be written for a text that is found to be this: the text anew, where that is wanted and it is legal, or else the line that says
-- what was found
abbrev pub IsAnswer : Input → Table → List ℕ → Bool → Finding → List ℕ → Type 0
IsAnswer i names text true Legal out = IsAnew i names text out
IsAnswer i names text true (Illegal line) out = out ≡ finding_line (Illegal line)
IsAnswer i names text false f out = out ≡ finding_line f
