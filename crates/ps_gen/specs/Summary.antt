-- The summary of a generated session: how many entries of each kind its journal has.
use Rattle.std.specs.Prelude.{ℕ, Bool, true, false, List, ◌++◌, codes, count_by, decimal, length}
use Rattle.ps_world.specs.Lines.{line_end}
use Rattle.ps_machine.specs.declared.journal.Entry.{Entry}
use Rattle.ps_machine.specs.declared.journal.Event.{Event}
use Rattle.ps_machine.specs.declared.journal.Event.TheVariants.{Run, Start, Request, Offer}

-- the event opens a run
unfoldable pub is_run : Event → Bool
is_run (Run kind acts) = true
is_run event = false

-- the event starts an act
unfoldable pub is_start : Event → Bool
is_start (Start act) = true
is_start event = false

-- the event asks for a performer
unfoldable pub is_request : Event → Bool
is_request (Request r act) = true
is_request event = false

-- the event is a performer's offer
unfoldable pub is_offer : Event → Bool
is_offer (Offer r by) = true
is_offer event = false

-- how many entries are of a kind
abbrev pub count_of : (Event → Bool) → List Entry → ℕ
count_of kind entries = count_by (λ entry. kind entry.what) entries

-- a line that gives a count after its name
abbrev pub count_line : List ℕ → ℕ → List ℕ
count_line name count = name ++ (codes " " ++ (decimal count ++ line_end))

-- the number of carts, and the counts of the entries of a session with so many
unfoldable pub summary_text : ℕ → List Entry → List ℕ
summary_text carts entries =
    count_line (codes "carts") carts
    ++ (count_line (codes "runs") (count_of is_run entries)
    ++ (count_line (codes "acts") (count_of is_start entries)
    ++ (count_line (codes "requests") (count_of is_request entries)
    ++ (count_line (codes "offers") (count_of is_offer entries)
    ++ count_line (codes "entries") (length entries)))))
