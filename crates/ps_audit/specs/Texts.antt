-- The text of entries that are judged.
use Rattle.std.specs.Prelude.{◌≡◌, ℕ, List, ◌++◌}
use Rattle.ps_replay.specs.declared.verdict.Verdict.{Verdict}
use Rattle.ps_replay.specs.declared.verdict.Verdict.TheVariants.{Legal, Illegal}

-- a text is added, where it is that of a whole history
abbrev pub AddsIfLegal : List ℕ → List ℕ → List ℕ → Verdict → Type 0
AddsIfLegal text old new Legal = new ≡ old ++ text
AddsIfLegal text old new (Illegal at) = Unit {0}
