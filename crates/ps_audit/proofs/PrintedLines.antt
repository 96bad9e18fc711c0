-- The lines of a journal's entries are what is printed of them with the table of names after the last.
use Rattle.std.proofs.Common.{◌≡◌, ℕ, zero, suc, ◌-◌, ◌<◌, false, List, [], ◌∷◌, ◌++◌, drop, get_or, length, map, slice_get, unwrap_or, Some, None, refl, ap, sym, ◌∙◌, arith}
use Rattle.std.specs.Option.{option_map}
use Rattle.std.proofs.lemmas.Option.{same_Some, slice_get-map, slice_get_read}
use Rattle.ps_world.specs.Lines.{line_end, lines_of}
use Rattle.ps_world.specs.Names.{Table}
use Rattle.ps_world.specs.Texts.{edit_text}
use Rattle.ps_machine.specs.Texts.{entry_line, query_text}
use Rattle.ps_machine.specs.declared.inputs.Command.TheVariants as command
use Rattle.ps_machine.specs.declared.inputs.Input.{Input}
use Rattle.ps_machine.specs.declared.inputs.Line.TheVariants.{Good}
use Rattle.ps_machine.specs.declared.journal.Entry.{Entry}
use Rattle.ps_machine.specs.declared.journal.Event.{Event}
use Rattle.ps_machine.specs.declared.journal.Event.TheVariants as event
use Rattle.ps_rules.specs.Heads.{Head}
use Rattle.ps_rules.specs.Journal.{entry_text, reply_lines, reply_text}
use Rattle.ps_text.specs.Names.{AreNames, Keeps}
use Rattle.ps_text.specs.Words.{words}
use Rattle.ps_text.proofs.Kept.{kept_along}
use Rattle.ps_entries.specs.EntryLines.{IsEntryLine, IsTold, head_text}
use Rattle.ps_entries.specs.Journals.{AreEntries, IsJournal}
use Rattle.ps_entries.specs.Journals.AreEntries.{none_left, reply, entry}
use Rattle.ps_entries.specs.Words.{with_words}
use Rattle.ps_entries.proofs.KnownNames.{kept_words, names_words}
use Rattle.ps_entries.proofs.OneEntry.{goes_told}
use Rattle.ps_entry_laws.specs.Laws.{IsSayable}
use Rattle.ps_entry_laws.proofs.KeptTexts.{entry-kept}
use Rattle.ps_entry_laws.proofs.OneJournal.{names_line}
use Rattle.ps_history_laws.proofs.ReadLines.{lines_are_sayable}
use Rattle.ps_audit.specs.EntryLines.{ArePrinted, asks, line_numbered}
use Rattle.ps_audit.specs.Findings.{lines_in}

-- ---- the table

-- an entry's line keeps the names
line_keeps : (names : Table) (line : List ℕ) (e : Entry) (after : Table) → IsEntryLine names line e after → Keeps names after
line_keeps names line e after x =
    let mid = with_words names (words (head_text after e)) in
    kept_along names mid after (kept_words names (words (head_text after e))) (goes_told mid e.what after x.told).kept

-- and so do the lines of entries
lines_keep : (n : ℕ) (names : Table) (lines : List (List ℕ)) (es : List (ℕ × Entry)) (after : Table) → AreEntries n names lines es after → Keeps names after
lines_keep _ _ _ _ _ (none_left n names) = λ k lt. refl
lines_keep _ _ _ _ _ (reply n names after line lines es r x) = lines_keep (suc n) names lines es after x
lines_keep _ _ _ _ _ (entry n names middle after line lines e es r x y) = kept_along names middle after (line_keeps names line e middle x) (lines_keep (suc n) middle lines es after y)

-- what a line says in an event can be said
told_sayable : (mid : Table) (e : Event) (after : Table) → AreNames mid → IsTold mid e after → IsSayable after e
told_sayable mid (event.Edit who change) after known x = lines_are_sayable mid (edit_text after change) (Good (command.Edit change)) after known x
told_sayable mid (event.Ask q) after known x = lines_are_sayable mid (query_text after q) (Good (command.Ask q)) after known x
told_sayable mid e after known x = tt

-- an entry's line is what is printed of it with each table that keeps the names after it
line-printed : (names : Table) (line : List ℕ) (e : Entry) (middle after : Table) → AreNames names → IsEntryLine names line e middle → Keeps middle after → line ≡ entry_line after e
line-printed names line e middle after known x keeps =
    let ws = words (head_text middle e) in
    let sayable = told_sayable (with_words names ws) e.what middle (names_words names ws known) x.told in
    sym (entry-kept middle after keeps e x.in_form sayable ∙ x.text)

-- ---- the lines of a text from one on

got-first : (all : List (List ℕ)) (k : ℕ) (x : List ℕ) (xs : List (List ℕ)) → drop k all ≡ x ∷ xs → slice_get all k ≡ Some x
got-first [] zero x xs e = absurd (cc)
got-first [] (suc k) x xs e = absurd (cc)
got-first (y ∷ all) zero x xs e = cc
got-first (y ∷ all) (suc k) x xs e = got-first all k x xs e

dropped-rest : (all : List (List ℕ)) (k : ℕ) (x : List ℕ) (xs : List (List ℕ)) → drop k all ≡ x ∷ xs → drop (suc k) all ≡ xs
dropped-rest [] zero x xs e = absurd (cc)
dropped-rest [] (suc k) x xs e = absurd (cc)
dropped-rest (y ∷ all) zero x xs e = cc
dropped-rest (y ∷ all) (suc k) x xs e = dropped-rest all k x xs e

module _ (text : List ℕ) where
  numbered-first : (n k : ℕ) (line : List ℕ) (lines : List (List ℕ)) → n ≡ suc k → drop k (lines_of text) ≡ line ∷ lines → line_numbered text n ≡ line
  numbered-first n k line lines h d =
      let here : n - 1 ≡ k = omega (arith, h) in
      ap (λ j. unwrap_or (slice_get (lines_of text) j) []) here ∙ ap (λ o. unwrap_or o []) (got-first (lines_of text) k line lines d)

  lines-printed : (n k : ℕ) (names : Table) (lines : List (List ℕ)) (es : List (ℕ × Entry)) (after : Table) → AreNames names → AreEntries n names lines es after → n ≡ suc k → drop k (lines_of text) ≡ lines
      → ArePrinted after text es
  lines-printed _ k _ _ _ _ known (none_left n names) h d = refl
  lines-printed _ k _ _ _ _ known (reply n names after line lines es r x) h d =
      lines-printed (suc n) (suc k) names lines es after known x (ap suc h) (dropped-rest (lines_of text) k line lines d)
  lines-printed _ k _ _ _ _ known (entry n names middle after line lines e es r x y) h d =
      let keeps = lines_keep (suc n) middle lines es after y in
      let here : line_numbered text n ≡ entry_line after e = numbered-first n k line lines h d ∙ line-printed names line e middle after known x keeps in
      let rest = lines-printed (suc n) (suc k) middle lines es after (names_line names line e middle known x) y (ap suc h) (dropped-rest (lines_of text) k line lines d) in
      ap (λ l. l ∷ map (line_numbered text) (lines_in es)) here ∙ ap (λ ls. entry_line after e ∷ ls) rest

-- the line of each entry of a journal is what is printed of it with the table after the journal
pub are-printed : (names : Table) (text : List ℕ) (head : Head) (es : List (ℕ × Entry)) (after : Table) → AreNames names → IsJournal names text head es after → ArePrinted after text es
are-printed names text None es after known j = lines-printed text 2 1 names j.lines es after known j.entries refl (ap (drop 1) j.headed)
are-printed names text (Some s) es after known j = lines-printed text 3 2 names j.lines es after known j.entries refl (ap (drop 2) j.headed)

-- ---- one entry

-- the line at an entry's place is its own
pub line-at : (names : Table) (lines : List (List ℕ)) (es : List Entry) (at : ℕ) (e : Entry) (line : List ℕ) → lines ≡ map (entry_line names) es → at < length es → e ≡ get_or es at e
    → slice_get lines at ≡ Some line → line ≡ entry_line names e
line-at names lines es at e line printed lt same is =
    let there : slice_get es at ≡ Some e = slice_get_read es (length es) at e refl lt same in
    same_Some line (entry_line names e)
    (sym is ∙ ap (λ ls. slice_get ls at) printed ∙ slice_get-map (entry_line names) es at ∙ ap (option_map (entry_line names)) there)

-- what is no query has no reply
no-reply : (names : Table) (i : Input) (es : List Entry) (what : Event) → asks what ≡ false → reply_lines names i es what ≡ []
no-reply names i es (event.Ask q) h = absurd (cc)
no-reply names i es what h = refl

-- so its text is its line
pub line-text : (names : Table) (i : Input) (es : List Entry) (e : Entry) (line : List ℕ) → line ≡ entry_line names e → asks e.what ≡ false → line ++ line_end ≡ entry_text names i es e
line-text names i es e line is none =
    ap (λ l. l ++ line_end) is ∙ ap (λ ls. entry_line names e ++ (line_end ++ reply_text ls)) (sym (no-reply names i es e.what none))
