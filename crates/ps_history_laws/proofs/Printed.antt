-- The texts of histories are read as their entries, and so two histories with one text have the same entries.
use Rattle.std.proofs.Common.{◌≡◌, ℕ, List, [], ◌∷◌, ◌++◌, codes, map, refl, sym, subst, ap, ◌∙◌}
use Rattle.std.specs.Fmt.{decimal}
use Rattle.std.proofs.lemmas.List.Elements.{All-map}
use Rattle.ps_world.specs.Names.{Table}
use Rattle.ps_machine.specs.Texts.{by_text, entry_line, event_text}
use Rattle.ps_machine.specs.declared.journal.Event.{Event}
use Rattle.ps_machine.specs.declared.journal.Event.TheVariants as event
use Rattle.ps_machine.specs.declared.journal.Entry.{Entry}
use Rattle.ps_rules.specs.Journal.{AreEntriesIn, text_with}
use Rattle.ps_rules.proofs.Notes.{histories_are_read_back}
use Rattle.ps_rules.proofs.SameThings.{sameness_decides}
use Rattle.ps_journal.proofs.NameLines.{AreLines-names}
use Rattle.ps_entry_laws.specs.Laws.{IsEntryOf, IsJournalOf}
use Rattle.ps_entry_laws.proofs.OneJournal.{entries_are_one}
use Rattle.ps_entry_laws.proofs.ReadJournals.{entries_are_read}
use Rattle.ps_history_laws.specs.Entries.{first_entry, first_event}
use Rattle.ps_history_laws.specs.Laws.{FirstEntriesPrintAlike, PrintedHistoriesAreOne, PrintedHistoriesAreRead}
use Rattle.ps_history_laws.proofs.Histories.{histories_are_in_form}

event-alike : (names : Table) (e : Event) → event_text names (first_event e) ≡ event_text names e
event-alike names (event.Refused who why) = ap (λ text. codes "refused " ++ (by_text names who ++ (codes " " ++ text))) (sameness_decides.printed names why)
event-alike names e = refl

pub first_entries_print_alike : FirstEntriesPrintAlike
first_entries_print_alike names e = ap (λ text. decimal e.hand ++ (codes " " ++ text)) (event-alike names e.what)

lines-alike : (names : Table) (es : List Entry) → map (entry_line names) (map first_entry es) ≡ map (entry_line names) es
lines-alike names [] = refl
lines-alike names (e ∷ es) =
    ap (λ line. line ∷ map (entry_line names) (map first_entry es)) (first_entries_print_alike names e) ∙ ap (λ lines. entry_line names e ∷ lines) (lines-alike names es)

pub printed_histories_are_read : PrintedHistoriesAreRead
printed_histories_are_read head names table i es good named known keeps h =
    let lines : AreEntriesIn head names (text_with head names i es) (map first_entry es) =
    histories_are_read_back head names i es (AreLines-names names named) h.sound h.history ∙ sym (lines-alike names es) in
    entries_are_read head names table i es (map first_entry es) good named known keeps lines
    (All-map (IsEntryOf names) first_entry es (histories_are_in_form names i es h))

pub printed_histories_are_one : PrintedHistoriesAreOne
printed_histories_are_one g h names i j es fs gg gh named said too same =
    let x = printed_histories_are_read g names names i es gg named named (λ n lt. refl) said in
    let y = printed_histories_are_read h names names j fs gh named named (λ n lt. refl) too in
    entries_are_one names (text_with g names i es) g h (map first_entry es) (map first_entry fs) named x
    (subst (λ (text : List ℕ). IsJournalOf names text h (map first_entry fs)) (sym same) y)
