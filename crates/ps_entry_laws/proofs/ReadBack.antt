-- What is printed of entries is read back.
use Rattle.std.proofs.Common.{◌≡◌, ℕ, true, List, length, refl, sym, ap, ◌∙◌, subst}
use Rattle.ps_world.specs.Names.{Table}
use Rattle.ps_world.specs.Texts.{edit_text}
use Rattle.ps_machine.specs.Texts.{entry_line, query_text}
use Rattle.ps_machine.specs.declared.inputs.Command.TheVariants as command
use Rattle.ps_machine.specs.declared.inputs.Line.TheVariants.{Good}
use Rattle.ps_machine.specs.declared.journal.Event.{Event}
use Rattle.ps_machine.specs.declared.journal.Event.TheVariants as event
use Rattle.ps_text.specs.Names.{AreNames, Keeps}
use Rattle.ps_text.specs.Words.{words}
use Rattle.ps_text.proofs.Kept.{kept_along}
use Rattle.ps_script.specs.Lines.{IsRead}
use Rattle.ps_script.specs.declared.reading.Read.TheVariants.{Line}
use Rattle.ps_script_laws.specs.WordNames.{with_words as with_tail}
use Rattle.ps_script_laws.proofs.ReadBack.{edits_are_read_back, queries_are_read_back}
use Rattle.ps_entries.specs.Words.{head_of, with_words}
use Rattle.ps_entries.specs.Forms.{is_entry}
use Rattle.ps_entries.specs.EntryLines.{IsTold, head_text}
use Rattle.ps_entries.proofs.KnownNames.{kept_words, names_words}
use Rattle.ps_entries.proofs.OneEntry.{head-entry}
use Rattle.ps_entries.proofs.ReadTables.{Goes, goes_nowhere, goes_read}
use Rattle.ps_entry_laws.specs.Laws.{PrintedEntriesAreRead, IsSayable}
use Rattle.ps_entry_laws.proofs.KeptTexts.{edit-kept, entry-in, entry-kept, query-kept}

-- the table after an event whose head's names are in it
abbrev after_event : Table → Table → Event → Table
after_event names mid (event.Edit who change) = with_tail mid (words (edit_text names change))
after_event names mid (event.Ask q) = with_tail mid (words (query_text names q))
after_event names mid e = mid

module _ (names mid : Table) (named : AreNames names) (known : AreNames mid) (keeps : Keeps names mid) where
  goes : (e : Event) → IsSayable names e → Goes mid (after_event names mid e)
  goes (event.Edit who change) s = goes_read mid (edit_text names change) (Line (Good (command.Edit change))) (after_event names mid (event.Edit who change)) (edits_are_read_back names mid change named known keeps s)
  goes (event.Ask q) s = goes_read mid (query_text names q) (Line (Good (command.Ask q))) (after_event names mid (event.Ask q)) (queries_are_read_back names mid q named known keeps s)
  goes e s = goes_nowhere mid

  all-kept : (e : Event) → IsSayable names e → Keeps names (after_event names mid e)
  all-kept e s = kept_along names mid (after_event names mid e) keeps (goes e s).kept

  told : (e : Event) → IsSayable names e → IsTold mid e (after_event names mid e)
  told (event.Edit who change) s =
      let after = after_event names mid (event.Edit who change) in
      let same : edit_text after change ≡ edit_text names change = edit-kept names after (all-kept (event.Edit who change) s) change s in
      subst (λ (text : List ℕ). IsRead mid text (Line (Good (command.Edit change))) after) (sym same) (edits_are_read_back names mid change named known keeps s)
  told (event.Ask q) s =
      let after = after_event names mid (event.Ask q) in
      let same : query_text after q ≡ query_text names q = query-kept names after (all-kept (event.Ask q) s) q s in
      subst (λ (text : List ℕ). IsRead mid text (Line (Good (command.Ask q))) after) (sym same) (queries_are_read_back names mid q named known keeps s)
  told e s = refl

pub printed_entries_are_read : PrintedEntriesAreRead
printed_entries_are_read names table e named known keeps is =
    let mid = with_words table (words (head_text names e)) in
    let mid-names : AreNames mid = names_words table (words (head_text names e)) known in
    let mid-keeps : Keeps names mid = kept_along names table mid keeps (kept_words table (words (head_text names e))) in
    let after = after_event names mid e.what in
    let here = goes names mid named mid-names mid-keeps e.what is.sayable in
    let after-names : AreNames after = here.names mid-names in
    let after-keeps : Keeps names after = kept_along names mid after mid-keeps here.kept in
    let text : entry_line after e ≡ entry_line names e = entry-kept names after after-keeps e is.in_form is.sayable in
    let form : is_entry (length after) e ≡ true = entry-in names after after-keeps e is.in_form in
    let head : head_text names e ≡ head_text after e = sym (head-entry names named e is.in_form) ∙ ap head_of (sym text) ∙ head-entry after after-names e form in
    record {
      after = after;
      read = record {
        text = text;
        in_form = form;
        told = subst (λ (h : List ℕ). IsTold (with_words table (words h)) e.what after) head (told names mid named mid-names mid-keeps e.what is.sayable);
      };
      are_names = after-names;
      keeps = after-keeps;
    }
