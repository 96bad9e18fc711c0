-- How a journal grows in a run.
use Rattle.std.specs.Prelude.{◌≡◌, List, ◌++◌}
use Rattle.ps_machine.specs.declared.journal.Entry.{Entry}
use Rattle.ps_rules.specs.Lines.{answers_line}
use Rattle.ps_good_plan_laws.specs.Segments.{NoneIs}

-- A journal has grown by entries none of which answers a line of the terminal.
pub record GrowsInRun (old new : List Entry) : Type 0 where
  pub since : List Entry
  pub all : new ≡ old ++ since
  pub no_line : NoneIs answers_line since
