-- The texts of histories are read as journals.
use Rattle.std.proofs.Common.{◌≡◌, ℕ, suc, true, false, not, nat_eq, List, [], ◌∷◌, ◌++◌, map, filter, drop, All, Some, None, refl, sym, ap, ◌∙◌, subst, inl, inr}
use Rattle.std.proofs.lemmas.Bool.{cases_Bool}
use Rattle.std.proofs.lemmas.List.Elements.{All-head, All-tail}
use Rattle.std.specs.List.{starts_with}
use Rattle.ps_world.specs.Lines.{lines_of}
use Rattle.ps_world.specs.Names.{Table}
use Rattle.ps_machine.specs.Texts.{entry_line}
use Rattle.ps_machine.specs.declared.inputs.Input.{Input}
use Rattle.ps_machine.specs.declared.journal.Entry.{Entry}
use Rattle.ps_rules.specs.Heads.{Head, IsHead, head_lines, line_after}
use Rattle.ps_rules.specs.Journal.{AreEntriesIn, reply_mark, text_after, text_with}
use Rattle.ps_rules.proofs.Notes.{histories_are_read_back}
use Rattle.ps_rules.proofs.ReadBack.{lines_of-head}
use Rattle.ps_text.specs.Names.{AreNames, Keeps}
use Rattle.ps_journal.proofs.NameLines.{AreLines-names}
use Rattle.ps_entries.specs.EntryLines.{IsEntryLine}
use Rattle.ps_entries.specs.Journals.{AreEntries, is_reply}
use Rattle.ps_entries.specs.Journals.AreEntries.{none_left, reply, entry}
use Rattle.ps_entry_laws.specs.Laws.{IsEntryOf, IsJournalOf, PrintedJournalsAreRead}
use Rattle.ps_entry_laws.proofs.ReadBack.{printed_entries_are_read}

pub one_list : {A : Type 0} (x y : A) (xs ys : List A) → x ∷ xs ≡ y ∷ ys → (x ≡ y) × (xs ≡ ys)
one_list x y xs ys e = (cc, cc)

-- the lines that aren't replies
abbrev kept : List (List ℕ) → List (List ℕ)
kept lines = filter (λ line. not (starts_with nat_eq line reply_mark)) lines

module _ (names : Table) (named : AreNames names) where
  -- lines from this one on are those of these entries, with a table before them
  pub record AreRead (n : ℕ) (table : Table) (lines : List (List ℕ)) (es : List Entry) : Type 0 where
    pub numbered : List (ℕ × Entry)
    pub after : Table
    pub read : AreEntries n table lines numbered after
    pub same : map (λ x. x.1) numbered ≡ es

  -- lines whose entry lines are those of entries are read so, whatever the entries, the table and the number of the first
  abbrev AreAllRead : List (List ℕ) → Type 0
  AreAllRead lines = (es : List Entry) (n : ℕ) (table : Table) → AreNames table → Keeps names table → All (IsEntryOf names) es → kept lines ≡ map (entry_line names) es → AreRead n table lines es

  no_line : (es : List Entry) (n : ℕ) (table : Table) → [] ≡ map (entry_line names) es → AreRead n table [] es
  no_line [] n table e = record { numbered = []; after = table; read = none_left n table; same = refl }
  no_line (e ∷ es) n table h = absurd (cc)

  after_reply : (line : List ℕ) (lines : List (List ℕ)) (es : List Entry) (n : ℕ) (table : Table) → is_reply line ≡ true → AreRead (suc n) table lines es → AreRead n table (line ∷ lines) es
  after_reply line lines es n table r x = record {
    numbered = x.numbered;
    after = x.after;
    read = reply n table x.after line lines x.numbered r x.read;
    same = x.same;
  }

  after_entry : (line : List ℕ) (lines : List (List ℕ)) (es : List Entry) (n : ℕ) (table : Table) → is_reply line ≡ false → AreAllRead lines → AreNames table → Keeps names table → All (IsEntryOf names) es → line ∷ kept lines ≡ map (entry_line names) es → AreRead n table (line ∷ lines) es
  after_entry line lines [] n table r next known keeps all h = absurd (cc)
  after_entry line lines (e ∷ es) n table r next known keeps all h =
      let same = one_list line (entry_line names e) (kept lines) (map (entry_line names) es) h in
      let here = printed_entries_are_read names table e named known keeps (All-head (IsEntryOf names) e es all) in
      let read : IsEntryLine table line e here.after = subst (λ (l : List ℕ). IsEntryLine table l e here.after) (sym same.0) here.read in
      let rest = next es (suc n) here.after here.are_names here.keeps (All-tail (IsEntryOf names) e es all) same.1 in
      record {
        numbered = (n, e) ∷ rest.numbered;
        after = rest.after;
        read = entry n table here.after rest.after line lines e rest.numbered r read rest.read;
        same = ap (λ l. e ∷ l) rest.same;
      }

  all_read : (lines : List (List ℕ)) → AreAllRead lines
  all_read [] es n table known keeps all h = no_line es n table h
  all_read (line ∷ lines) es n table known keeps all h =
      elim (cases_Bool (is_reply line)) [
        | inl r ↦ after_reply line lines es n table r (all_read lines es (suc n) table known keeps all (rw r at h))
        | inr r ↦ after_entry line lines es n table r (all_read lines) known keeps all (rw r at h)
      ]

-- what is left of the lines of a text after a head
left-of : (head : Head) (names : Table) (text : List ℕ) (lines : List (List ℕ)) (fs : List Entry) → lines_of text ≡ head_lines head ++ lines
    → AreEntriesIn head names text fs → kept lines ≡ map (entry_line names) fs
left-of None names text lines fs e are = sym (ap (λ ls. kept (drop 1 ls)) e) ∙ are
left-of (Some s) names text lines fs e are = sym (ap (λ ls. kept (drop 2 ls)) e) ∙ are

-- a journal's text whose entry lines are those of entries in form is read as a journal of these
pub entries_are_read : (head : Head) (names table : Table) (i : Input) (es fs : List Entry) → IsHead head → AreNames names → AreNames table → Keeps names table
    → AreEntriesIn head names (text_with head names i es) fs → All (IsEntryOf names) fs → IsJournalOf table (text_with head names i es) head fs
entries_are_read head names table i es fs good named known keeps are all =
    let rest = text_after names i [] es in
    let lines = lines_of rest in
    let headed : lines_of (text_with head names i es) ≡ head_lines head ++ lines = lines_of-head head rest in
    let left = left-of head names (text_with head names i es) lines fs headed are in
    let x = all_read names named lines fs (line_after head) table known keeps all left in
    record {
      numbered = x.numbered;
      after = x.after;
      read = record { lines = lines; good = good; headed = headed; entries = x.read };
      same = x.same;
    }

pub printed_journals_are_read : PrintedJournalsAreRead
printed_journals_are_read head names table i es good named known keeps sound history all =
    entries_are_read head names table i es es good named known keeps (histories_are_read_back head names i es (AreLines-names names named) sound history) all
