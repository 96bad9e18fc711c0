-- The lines that a journal begins with.
use Rattle.std.specs.Prelude.{ℕ, ◌≤◌, suc, Option, Some, None, List, [], ◌∷◌, ◌++◌, codes, decimal, length}
use Rattle.ps_world.specs.Lines.{line_end}
use Rattle.ps_machine.specs.declared.inputs.Input.{Input}

-- the settings of a session: how many states a search may reach, and how often a run's plan may be made anew
abbrev pub Settings : Type 0
Settings = ℕ × ℕ

-- the settings of an input
abbrev pub settings_of : Input → Settings
settings_of i = (i.budget, i.replans)

-- settings are in their ranges
abbrev pub AreSettings : Settings → Type 0
AreSettings s = (1 ≤ s.0) × (s.0 ≤ 200000) × (s.1 ≤ 8)

-- the first line of a journal of version 1, which doesn't say its settings
abbrev pub bare_title : List ℕ
bare_title = codes "plansys-journal 1"

-- the first line of a journal of version 2
abbrev pub title : List ℕ
title = codes "plansys-journal 2"

-- the line of settings, as settings budget 20000 replans 3
abbrev pub settings_line : Settings → List ℕ
settings_line s = codes "settings budget " ++ (decimal s.0 ++ (codes " replans " ++ decimal s.1))

-- What a journal begins with: the settings that it says, in version 2, or none, in version 1.
abbrev pub Head : Type 0
Head = Option Settings

-- the lines of a head
abbrev pub head_lines : Head → List (List ℕ)
head_lines None = bare_title ∷ []
head_lines (Some s) = title ∷ settings_line s ∷ []

-- the number of the first line after it, counted from 1
abbrev pub line_after : Head → ℕ
line_after None = 2
line_after (Some s) = 3

-- a head's settings, if it has some, are in their ranges
abbrev pub IsHead : Head → Type 0
IsHead None = Unit {0}
IsHead (Some s) = AreSettings s

-- the text of a head
abbrev pub head_text : Head → List ℕ
head_text None = bare_title ++ line_end
head_text (Some s) = title ++ (line_end ++ (settings_line s ++ line_end))
