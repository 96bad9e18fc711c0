-- The lines that the entries of a journal have in its text.
use Rattle.std.specs.Prelude.{◌≡◌, ℕ, ◌-◌, Bool, true, false, List, [], map, slice_get}
use Rattle.std.specs.Option.{unwrap_or}
use Rattle.ps_world.specs.Lines.{lines_of}
use Rattle.ps_world.specs.Names.{Table}
use Rattle.ps_machine.specs.Texts.{entry_line}
use Rattle.ps_machine.specs.declared.journal.Entry.{Entry}
use Rattle.ps_machine.specs.declared.journal.Event.{Event}
use Rattle.ps_machine.specs.declared.journal.Event.TheVariants.{Ask}
use Rattle.ps_text.specs.declared.spans.Span.{Span}
use Rattle.ps_audit.specs.Findings.{entries_of, lines_in}

-- the line of a text with this number, counted from 1, or the empty text where there is none
abbrev pub line_numbered : List ℕ → ℕ → List ℕ
line_numbered text n = unwrap_or (slice_get (lines_of text) (n - 1)) []

-- the span of that line, where these are those of all lines, or an empty one
abbrev pub span_numbered : List Span → ℕ → Span
span_numbered spans n = unwrap_or (slice_get spans (n - 1)) (record { from = 0; to = 0 })

-- the line of a text that has an entry's number is the one that is printed of it with this table of names, for each of these
abbrev pub ArePrinted : Table → List ℕ → List (ℕ × Entry) → Type 0
ArePrinted names text es = map (line_numbered text) (lines_in es) ≡ map (entry_line names) (entries_of es)

-- whether an event asks something
abbrev pub asks : Event → Bool
asks (Ask q) = true
asks e = false
