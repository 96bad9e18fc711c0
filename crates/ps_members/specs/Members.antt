-- The member that a text is, or the first fault of the text.
use Rattle.std.specs.Prelude.{◌≡◌, ℕ, suc, true, false, List, [], ◌∷◌, Result, Ok, Err}
use Rattle.ps_world.specs.Names.{Table}
use Rattle.ps_world.specs.declared.domains.Domain.{Domain}
use Rattle.ps_machine.specs.declared.inputs.LineCause.{LineCause}
use Rattle.ps_machine.specs.declared.inputs.LineCause.TheVariants.{Command}
use Rattle.ps_machine.specs.declared.members.Member.{Member}
use Rattle.ps_text.specs.ScriptLines.{script_lines}
use Rattle.ps_script.specs.Lines.{is_nothing}
use Rattle.ps_members.specs.Lines.{IsSaid}
use Rattle.ps_members.specs.Moves.{moved}
use Rattle.ps_members.specs.declared.places.Place.{Place}
use Rattle.ps_members.specs.declared.places.Place.TheVariants.{Beginning, Ended}
use Rattle.ps_members.specs.declared.places.Said.{Said}
use Rattle.ps_members.specs.declared.refusals.ScriptRefusal.{ScriptRefusal}
use Rattle.ps_members.specs.declared.refusals.ScriptRefusal.TheVariants.{Line}

-- what a text that ends here is, where its next line would be line n
abbrev pub at_end : ℕ → Place → Result Member ScriptRefusal
at_end n (Ended m) = Ok m
at_end n _ = Err (Line n Command)

-- Where line n leads, or why it is the fault, with a table of names before it and the table after it. A line that says nothing
-- leads nowhere else, a bad line is the fault, and what any other line says leads on or is the fault.
pub data Leads (d : Domain) (n : ℕ) (at : Place) (table : Table) (line : List ℕ) : Result Place ScriptRefusal → Table → Type 0 where
  nothing : is_nothing line ≡ true → Leads d n at table line (Ok at) table
  bad : (c : LineCause) (after : Table) → is_nothing line ≡ false → IsSaid at table line (Err c) after → Leads d n at table line (Err (Line n c)) after
  said : (s : Said) (after : Table) → is_nothing line ≡ false → IsSaid at table line (Ok s) after → Leads d n at table line (moved d n at s) after

-- What lines are from a place on, of which the first is line n, with a table of names before them and the table after them: the first
-- line with a fault decides, and any other leads to the place of the lines after it.
pub data AreLines (d : Domain) : ℕ → Place → Table → List (List ℕ) → Result Member ScriptRefusal → Table → Type 0 where
  none_left : (n : ℕ) (at : Place) (table : Table) → AreLines d n at table [] (at_end n at) table
  fault : (n : ℕ) (at : Place) (table : Table) (line : List ℕ) (lines : List (List ℕ)) (why : ScriptRefusal) (after : Table) → Leads d n at table line (Err why) after → AreLines d n at table (line ∷ lines) (Err why) after
  good : (n : ℕ) (at next : Place) (table middle after : Table) (line : List ℕ) (lines : List (List ℕ)) (r : Result Member ScriptRefusal) → Leads d n at table line (Ok next) middle → AreLines d (suc n) next middle lines r after → AreLines d n at table (line ∷ lines) r after

-- A text is this member of the domain, or this is its first fault, with a table of names before it and the table after it.
abbrev pub IsMember : Domain → Table → List ℕ → Result Member ScriptRefusal → Table → Type 0
IsMember d table bytes r after = AreLines d 1 Beginning table (script_lines bytes) r after
