-- What the text of a journal is found to be is one thing.
use Rattle.std.specs.Prelude.{◌≡◌, ℕ, List}
use Rattle.ps_world.specs.Names.{Table}
use Rattle.ps_machine.specs.declared.inputs.Input.{Input}
use Rattle.ps_text.specs.Names.{AreNames}
use Rattle.ps_audit.specs.Findings.{Finds}
use Rattle.ps_audit.specs.declared.findings.Finding.{Finding}

-- The text of a journal is found to be one thing at most, for one input and one table of names before it.
abbrev pub TextsAreFoundToBeOne : Type 0
TextsAreFoundToBeOne = (i : Input) (names : Table) (text : List ℕ) (f g : Finding) → AreNames names → Finds i names text f → Finds i names text g → f ≡ g
