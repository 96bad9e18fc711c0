-- What is kept of the lines of the terminal.
use Rattle.std.specs.Prelude.{◌≡◌, ◌||◌, not, nat_lt, Bool, true, false, List}
use Rattle.ps_machine.specs.declared.journal.By.{By}
use Rattle.ps_machine.specs.declared.journal.By.TheVariants.{Terminal}
use Rattle.ps_machine.specs.declared.journal.Event.{Event}
use Rattle.ps_machine.specs.declared.journal.Entry.{Entry}
use Rattle.ps_rules.specs.Lines.{answered, answers_line}
use Rattle.ps_ledger.specs.declared.lines.Lines.{Lines}

-- whether the terminal did it
abbrev pub is_by_terminal : By → Bool
is_by_terminal (Terminal n) = true
is_by_terminal by = false

-- What is kept of the lines is what the entries tell of them.
pub record TellsLines (es : List Entry) (l : Lines) : Type 0 where
  pub count : answered es ≡ l.answered

-- whether one line more may be answered, where an event answers one
abbrev pub speaks_of_lines : Lines → Event → Bool
speaks_of_lines l e = not (answers_line e) || nat_lt l.answered 18446744073709551615
