-- What stays of who asked the solver.
use Rattle.std.specs.Prelude.{◌≡◌, ℕ, take}
use Rattle.ps_rules.specs.Known.{know}
use Rattle.ps_stale_plan_laws.specs.Asked.{WasAsked}
use Rattle.ps_board.specs.declared.board.Shown.{Shown}

-- who asked the solver on one board did so on the other, and knew the same
abbrev pub KeepsAsked : Shown → Shown → Type 0
KeepsAsked old new =
    (at : ℕ) → WasAsked old.input old.entries at
    → WasAsked new.input new.entries at × (know new.input (take at new.entries) ≡ know old.input (take at old.entries))
