-- The settings that the words of a line say.
use Rattle.std.specs.Prelude.{ℕ, ◌-◌, ◌^◌, Bool, ◌&&◌, nat_le, if◌then◌else◌, List, Option, Some, None}
use Rattle.ps_world.specs.Lines.{same_text}
use Rattle.ps_rules.specs.Heads.{Settings, settings_line}
use Rattle.ps_entries.specs.Words.{number_at, short_at, up_to}

-- two numbers, where both are there
abbrev pub both : Option ℕ → Option ℕ → Option Settings
both (Some budget) (Some replans) = Some (budget, replans)
both (Some budget) None = None
both None replans = None

-- the numbers at the places of a line of settings
abbrev pub settings_at : List (List ℕ) → Option Settings
settings_at ws = both (short_at ws 2) (up_to (2 ^ 8 - 1) (number_at ws 4))

-- whether settings are in their ranges
abbrev pub are_settings : Settings → Bool
are_settings s = nat_le 1 s.0 && (nat_le s.0 200000 && nat_le s.1 8)

-- settings that the words of a line say, where this is their line
abbrev pub believed_settings : Settings → List ℕ → Option Settings
believed_settings s line = if are_settings s && same_text (settings_line s) line then Some s else None
