-- A text is one journal at most.
use Rattle.std.proofs.Common.{◌≡◌, ℕ, suc, true, false, List, ◌∷◌, map, refl, sym, ap, ◌∙◌, subst}
use Rattle.ps_world.specs.Names.{Table}
use Rattle.ps_machine.specs.declared.inputs.Command.TheVariants as command
use Rattle.ps_machine.specs.declared.journal.Event.TheVariants as event
use Rattle.ps_machine.specs.declared.journal.Entry.{Entry}
use Rattle.ps_rules.specs.Heads.{Head, line_after}
use Rattle.ps_rules.specs.Journal.{text_with}
use Rattle.ps_text.specs.Names.{AreNames}
use Rattle.ps_text.specs.Words.{words}
use Rattle.ps_entries.specs.Words.{with_words}
use Rattle.ps_entries.specs.EntryLines.{IsEntryLine, head_text}
use Rattle.ps_entries.specs.Journals.{AreEntries, is_reply}
use Rattle.ps_entries.specs.Journals.AreEntries.{none_left, reply, entry}
use Rattle.ps_entries.proofs.HeadLines.{heads_one}
use Rattle.ps_entries.proofs.KnownNames.{names_words}
use Rattle.ps_entries.proofs.OneEntry.{line-once, goes_told}
use Rattle.ps_entry_laws.specs.Laws.{HistoriesArePrintedApart, IsJournalOf, TextsAreOneJournal}
use Rattle.ps_entry_laws.proofs.ReadJournals.{printed_journals_are_read}

-- the table after an entry's line is one of names
pub names_line : (table : Table) (line : List ℕ) (e : Entry) (after : Table) → AreNames table → IsEntryLine table line e after → AreNames after
names_line table line e after known x =
    (goes_told (with_words table (words (head_text after e))) e.what after x.told).names (names_words table (words (head_text after e)) known)

pub apart : (line : List ℕ) {A : Type 0} → is_reply line ≡ true → is_reply line ≡ false → A
apart line r s = absurd (cc)

entries_one : (n : ℕ) (table : Table) (lines : List (List ℕ)) (es fs : List (ℕ × Entry)) (after other : Table) → AreNames table → AreEntries n table lines es after → AreEntries n table lines fs other → (es ≡ fs) × (after ≡ other)
entries_one _ _ _ _ _ _ _ known (none_left n table) (none_left _ _) = (refl, refl)
entries_one _ _ _ _ _ _ _ known (reply n table after line lines es r x) (reply _ _ other _ _ fs s y) = entries_one (suc n) table lines es fs after other known x y
entries_one _ _ _ _ _ _ _ known (reply n table after line lines es r x) (entry _ _ middle other _ _ f fs s z y) = apart line r s
entries_one _ _ _ _ _ _ _ known (entry n table middle after line lines e es r z x) (reply _ _ other _ _ fs s y) = apart line s r
entries_one _ _ _ _ _ _ _ known (entry n table middle after line lines e es r z x) (entry _ _ between other _ _ f fs s w y) =
    let one = line-once table line known e f middle between z w in
    let here : AreEntries (suc n) middle lines fs other = subst (λ (t : Table). AreEntries (suc n) t lines fs other) (sym one.1) y in
    let rest = entries_one (suc n) middle lines es fs after other (names_line table line e middle known z) x here in
    let first : (n, e) ∷ es ≡ (n, f) ∷ es = ap (λ (d : Entry). (n, d) ∷ es) one.0 in
    (first ∙ ap (λ l. (n, f) ∷ l) rest.0, rest.1)

pub texts_are_one_journal : TextsAreOneJournal
texts_are_one_journal table after other text g h es fs known x y =
    let heads = heads_one g h x.lines y.lines x.good y.good (sym x.headed ∙ y.headed) in
    let lines : AreEntries (line_after h) table x.lines fs other = subst (λ (ls : List (List ℕ)). AreEntries (line_after h) table ls fs other) (sym heads.1) y.entries in
    let here : AreEntries (line_after g) table x.lines fs other = subst (λ k. AreEntries (line_after k) table x.lines fs other) (sym heads.0) lines in
    (heads.0, entries_one (line_after g) table x.lines es fs after other known x.entries here)

-- a text is a journal with one head and of one list of entries
pub entries_are_one : (table : Table) (text : List ℕ) (g h : Head) (es fs : List Entry) → AreNames table → IsJournalOf table text g es
    → IsJournalOf table text h fs → (g ≡ h) × (es ≡ fs)
entries_are_one table text g h es fs known x y =
    let one = texts_are_one_journal table x.after y.after text g h x.numbered y.numbered known x.read y.read in
    (one.0, sym x.same ∙ ap (map (λ z. z.1)) one.1.0 ∙ y.same)

pub histories_are_printed_apart : HistoriesArePrintedApart
histories_are_printed_apart g h names i j es fs gg gh named si sj hi hj ei ej same =
    let x = printed_journals_are_read g names names i es gg named named (λ n lt. refl) si hi ei in
    let y = printed_journals_are_read h names names j fs gh named named (λ n lt. refl) sj hj ej in
    entries_are_one names (text_with g names i es) g h es fs named x (subst (λ (text : List ℕ). IsJournalOf names text h fs) (sym same) y)
