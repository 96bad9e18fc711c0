-- The entries of a journal's text, or its first fault.
use Rattle.std.specs.Prelude.{◌≡◌, ℕ, suc, Bool, true, false, nat_eq, List, [], ◌∷◌, ◌++◌, Option, Some, None, length, ◌≤◌, ◌⊎◌}
use Rattle.std.specs.List.{starts_with}
use Rattle.ps_world.specs.Lines.{lines_of}
use Rattle.ps_world.specs.Names.{Table}
use Rattle.ps_machine.specs.declared.journal.Entry.{Entry}
use Rattle.ps_rules.specs.Heads.{AreSettings, Head, IsHead, Settings, bare_title, head_lines, line_after, settings_line, title}
use Rattle.ps_rules.specs.Journal.{reply_mark}
use Rattle.ps_text.specs.Words.{AreWithin, pieces}
use Rattle.ps_text.specs.declared.spans.Span.{Span}
use Rattle.ps_entries.specs.EntryLines.{IsEntryLine, IsNoEntryLine}
use Rattle.ps_entries.specs.declared.heads.Heading.{Heading}
use Rattle.ps_entries.specs.declared.heads.Heading.TheVariants.{Headed, Untitled, Unsettled}
use Rattle.ps_entries.specs.declared.journals.JournalText.{JournalText}
use Rattle.ps_entries.specs.declared.journals.JournalRefusal.{JournalRefusal}
use Rattle.ps_entries.specs.declared.journals.JournalRefusal.TheVariants as refusal

-- a line that begins with two spaces
abbrev pub is_reply : List ℕ → Bool
is_reply line = starts_with nat_eq line reply_mark

-- Lines are those of these entries, and replies, with a table of names before them and the table after them. The first is line n, and
-- each entry goes with its line.
pub data AreEntries : ℕ → Table → List (List ℕ) → List (ℕ × Entry) → Table → Type 0 where
  none_left : (n : ℕ) (names : Table) → AreEntries n names [] [] names
  reply : (n : ℕ) (names after : Table) (line : List ℕ) (lines : List (List ℕ)) (es : List (ℕ × Entry)) → is_reply line ≡ true → AreEntries (suc n) names lines es after → AreEntries n names (line ∷ lines) es after
  entry : (n : ℕ) (names middle after : Table) (line : List ℕ) (lines : List (List ℕ)) (e : Entry) (es : List (ℕ × Entry)) → is_reply line ≡ false → IsEntryLine names line e middle → AreEntries (suc n) middle lines es after → AreEntries n names (line ∷ lines) ((n, e) ∷ es) after

-- The first line that is neither a reply nor an entry's is this one, where the first is line n.
pub data IsFirstOther : ℕ → Table → List (List ℕ) → ℕ → Type 0 where
  here : (n : ℕ) (names : Table) (line : List ℕ) (lines : List (List ℕ)) → is_reply line ≡ false → IsNoEntryLine names line → IsFirstOther n names (line ∷ lines) n
  reply : (n : ℕ) (names : Table) (line : List ℕ) (lines : List (List ℕ)) (at : ℕ) → is_reply line ≡ true → IsFirstOther (suc n) names lines at → IsFirstOther n names (line ∷ lines) at
  entry : (n : ℕ) (names middle : Table) (line : List ℕ) (lines : List (List ℕ)) (e : Entry) (at : ℕ) → is_reply line ≡ false → IsEntryLine names line e middle → IsFirstOther (suc n) middle lines at → IsFirstOther n names (line ∷ lines) at

-- Line n is a reply, or this entry's, which then stands last among the entries, with a table of names before it and the table after it.
pub data Takes (n : ℕ) (names : Table) (line : List ℕ) (before : List (ℕ × Entry)) : List (ℕ × Entry) → Table → Type 0 where
  reply : is_reply line ≡ true → Takes n names line before before names
  entry : (e : Entry) (after : Table) → is_reply line ≡ false → IsEntryLine names line e after → Takes n names line before (before ++ (n, e) ∷ []) after

-- the same where it is one of these, or it is neither
abbrev pub TakesOrNot : ℕ → Table → List ℕ → List (ℕ × Entry) → Bool → List (ℕ × Entry) → Table → Type 0
TakesOrNot n names line before true now after = Takes n names line before now after
TakesOrNot n names line before false now after = (is_reply line ≡ false) × IsNoEntryLine names line

-- ---- the head

-- these are the lines of a text
pub record IsSplit (bytes : List ℕ) (lines : List Span) : Type 0 where
  pub within : AreWithin bytes lines
  pub all : pieces bytes lines ≡ lines_of bytes
  pub few : length lines ≤ length bytes

-- the first line is no title, or there is none
abbrev pub IsUntitled : List (List ℕ) → Type 0
IsUntitled lines = (rest : List (List ℕ)) → ¬ (lines ≡ bare_title ∷ rest) × ¬ (lines ≡ title ∷ rest)

-- the first line is the title of version 2, and no line of settings in their ranges follows
abbrev pub IsUnsettled : List (List ℕ) → Type 0
IsUnsettled lines =
    ((rest : List (List ℕ)) × (lines ≡ title ∷ rest))
    × ((s : Settings) (rest : List (List ℕ)) → AreSettings s → ¬ (lines ≡ title ∷ settings_line s ∷ rest))

-- What the lines of a text begin with: the head of a journal, whose settings are in their ranges; or another first line; or the title of
-- version 2 with no line of such settings after it.
abbrev pub BeginsWith : List (List ℕ) → Heading → Type 0
BeginsWith lines (Headed head) = IsHead head × ((rest : List (List ℕ)) × (lines ≡ head_lines head ++ rest))
BeginsWith lines Untitled = IsUntitled lines
BeginsWith lines Unsettled = IsUnsettled lines

-- a line says these settings, or none that are in their ranges
abbrev pub SaysOrNot : List ℕ → Option Settings → Type 0
SaysOrNot line (Some s) = AreSettings s × (line ≡ settings_line s)
SaysOrNot line None = (s : Settings) → AreSettings s → ¬ (line ≡ settings_line s)

-- a text says these settings at its head, or none
abbrev pub HasSettings : List ℕ → Option Settings → Type 0
HasSettings text (Some s) = AreSettings s × ((rest : List (List ℕ)) × (lines_of text ≡ title ∷ settings_line s ∷ rest))
HasSettings text None = (s : Settings) (rest : List (List ℕ)) → AreSettings s → ¬ (lines_of text ≡ title ∷ settings_line s ∷ rest)

-- ---- the text

-- The first lines of a text are this head, and the others are those of these entries, with their lines, or replies.
pub record IsJournal (names : Table) (bytes : List ℕ) (head : Head) (es : List (ℕ × Entry)) (after : Table) : Type 0 where
  pub lines : List (List ℕ)
  pub good : IsHead head
  pub headed : lines_of bytes ≡ head_lines head ++ lines
  pub entries : AreEntries (line_after head) names lines es after

-- which version a head is of
abbrev pub version_of : Head → ℕ
version_of None = 1
version_of (Some s) = 2

-- a text is a journal, with this version, these settings and these entries
pub record IsText (names : Table) (bytes : List ℕ) (t : JournalText) (after : Table) : Type 0 where
  pub version : t.version ≡ version_of t.settings
  pub journal : IsJournal names bytes t.settings t.entries after

-- this line, of those from line n on, is the first that is neither a reply nor an entry's
abbrev pub IsOther : ℕ → Table → List (List ℕ) → JournalRefusal → Type 0
IsOther n names lines refusal.Header = ⊥
IsOther n names lines (refusal.Line at) = IsFirstOther n names lines at

-- after the head of a journal, this is the first line that is neither a reply nor an entry's
pub record HasOther (names : Table) (bytes : List ℕ) (at : ℕ) : Type 0 where
  pub head : Head
  pub good : IsHead head
  pub lines : List (List ℕ)
  pub headed : lines_of bytes ≡ head_lines head ++ lines
  pub first : IsFirstOther (line_after head) names lines at

-- Why a text is no journal: its first line is no title; or its second line isn't one of settings, where the title wants it; or this is its
-- first line that is neither a reply nor an entry's.
abbrev pub IsFault : Table → List ℕ → JournalRefusal → Type 0
IsFault names bytes refusal.Header = IsUntitled (lines_of bytes)
IsFault names bytes (refusal.Line at) = (IsUnsettled (lines_of bytes) × (at ≡ 2)) ⊎ HasOther names bytes at
