-- What a replay answers.
use Rattle.std.specs.Prelude.{◌≡◌, Result, Ok, Err, List, []}
use Rattle.ps_machine.specs.declared.inputs.Input.{Input}
use Rattle.ps_machine.specs.declared.journal.Entry.{Entry}
use Rattle.ps_rules.specs.History.{IsHistory, IsWhole}
use Rattle.ps_rules.specs.Prefixes.{good_length}
use Rattle.ps_replay.specs.declared.verdict.Verdict.{Verdict}
use Rattle.ps_replay.specs.declared.verdict.Verdict.TheVariants.{Legal, Illegal}

-- The entries of a journal are a whole history of this input, or they are not, and so many of the first ones are a prefix of a history,
-- and no more are; where memory ran out nothing is said.
abbrev pub Replays : {E : Type 0} → Input → List Entry → Result Verdict E → Type 0
Replays i es (Ok Legal) = IsHistory i es × IsWhole i es
Replays i es (Ok (Illegal at)) = (¬ (IsHistory i es × IsWhole i es)) × (at ≡ good_length i [] [] es)
Replays i es (Err e) = Unit {0}
