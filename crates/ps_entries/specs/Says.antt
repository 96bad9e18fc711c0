-- The entry that a line's words and its tail say.
use Rattle.std.specs.Prelude.{◌≡◌, ℕ, ◌^◌, ◌-◌, true, false, List, codes, Option, Some, None}
use Rattle.ps_world.specs.Names.{Table}
use Rattle.ps_world.specs.declared.names.Name.{Name}
use Rattle.ps_world.specs.declared.edits.Edit.{Edit as Change}
use Rattle.ps_machine.specs.declared.inputs.Command.TheVariants as command
use Rattle.ps_machine.specs.declared.inputs.Line.TheVariants.{Good}
use Rattle.ps_machine.specs.declared.inputs.Query.{Query}
use Rattle.ps_machine.specs.declared.journal.By.{By}
use Rattle.ps_machine.specs.declared.journal.Event.{Event}
use Rattle.ps_machine.specs.declared.journal.Event.TheVariants as event
use Rattle.ps_machine.specs.declared.journal.Entry.{Entry}
use Rattle.ps_script.specs.Lines.{IsRead}
use Rattle.ps_script.specs.declared.reading.Read.{Read}
use Rattle.ps_script.specs.declared.reading.Read.TheVariants.{Line}
use Rattle.ps_entries.specs.Words.{number_at, reads, up_to}
use Rattle.ps_entries.specs.Events.{by_of, feedback_of, plain_event}

-- The event of words before such a tail, with a table of names before the tail and the table after it.
pub data Says (table : Table) (ws : List (List ℕ)) (ns : List Name) (tail : List ℕ) : Event → Table → Type 0 where
  edit : (who : By) (change : Change) (after : Table) → reads ws 1 (codes "edit") ≡ true → by_of ws ns ≡ Some who → IsRead table tail (Line (Good (command.Edit change))) after → Says table ws ns tail (event.Edit who change) after
  ask : (q : Query) (after : Table) → reads ws 1 (codes "edit") ≡ false → reads ws 1 (codes "ask") ≡ true → IsRead table tail (Line (Good (command.Ask q))) after → Says table ws ns tail (event.Ask q) after
  told : (e : Event) → reads ws 1 (codes "edit") ≡ false → reads ws 1 (codes "ask") ≡ false → reads ws 1 (codes "feedback") ≡ true → feedback_of ws ns tail ≡ Some e → Says table ws ns tail e table
  plain : (e : Event) → reads ws 1 (codes "edit") ≡ false → reads ws 1 (codes "ask") ≡ false → reads ws 1 (codes "feedback") ≡ false → plain_event ws ns ≡ Some e → Says table ws ns tail e table

-- the same of an entry, whose hand is its first word
pub record SaysEntry (table : Table) (ws : List (List ℕ)) (ns : List Name) (tail : List ℕ) (e : Entry) (after : Table) : Type 0 where
  pub hand : up_to (2 ^ 8 - 1) (number_at ws 0) ≡ Some e.hand
  pub what : Says table ws ns tail e.what after

-- these words and the tail say this event, or no event at all
abbrev pub Finds : Table → List (List ℕ) → List Name → List ℕ → Option Event → Table → Type 0
Finds table ws ns tail (Some e) after = Says table ws ns tail e after
Finds table ws ns tail None after = (e : Event) (other : Table) → ¬ (Says table ws ns tail e other)

-- the same of an entry
abbrev pub FindsEntry : Table → List (List ℕ) → List Name → List ℕ → Option Entry → Table → Type 0
FindsEntry table ws ns tail (Some e) after = SaysEntry table ws ns tail e after
FindsEntry table ws ns tail None after = (e : Entry) (other : Table) → ¬ (SaysEntry table ws ns tail e other)

-- the edit, and the query, that a line is read as, if it is one
abbrev pub edit_in : Read → Option Change
edit_in (Line (Good (command.Edit change))) = Some change
edit_in r = None

abbrev pub query_in : Read → Option Query
query_in (Line (Good (command.Ask q))) = Some q
query_in r = None
