-- What a line is, before it is read.
use Rattle.std.specs.Prelude.{◌≡◌, ◌⊎◌, ℕ, true, false, List, None, Some}
use Rattle.ps_script.specs.Files.{after_run, file_in, is_run_plan, is_source}
use Rattle.ps_script.specs.Lines.{is_nothing}
use Rattle.ps_script.specs.declared.kinds.Kind.{Kind}
use Rattle.ps_script.specs.declared.kinds.Kind.TheVariants.{Nothing, Source, RunPlan, Command}

-- A line says nothing, or it names a file after `source`, or after `run plan`, or it is a command line: one without `source` and
-- `run plan`, or one of these that names no file.
abbrev pub IsKind : List ℕ → Kind → Type 0
IsKind bytes Nothing = is_nothing bytes ≡ true
IsKind bytes (Source file) = (is_nothing bytes ≡ false) × (is_source bytes ≡ true) × (file_in (after_run bytes) ≡ Some file)
IsKind bytes (RunPlan file) = (is_nothing bytes ≡ false) × (is_source bytes ≡ false) × (is_run_plan bytes ≡ true) × (file_in (after_run (after_run bytes)) ≡ Some file)
IsKind bytes Command =
    (is_nothing bytes ≡ false) × (((is_source bytes ≡ true) × (file_in (after_run bytes) ≡ None))
    ⊎ ((is_source bytes ≡ false) × ((is_run_plan bytes ≡ false) ⊎ (file_in (after_run (after_run bytes)) ≡ None))))
