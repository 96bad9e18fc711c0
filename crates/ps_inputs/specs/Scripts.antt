-- The lines of a script.
use Rattle.std.specs.Prelude.{◌≡◌, ℕ, Bool, true, false, Option, Some, None, Result, Ok, Err, List, [], ◌∷◌, ◌++◌}
use Rattle.ps_world.specs.Names.{Table}
use Rattle.ps_machine.specs.declared.inputs.LineCause.TheVariants.{Nest}
use Rattle.ps_machine.specs.declared.inputs.Line.{Line}
use Rattle.ps_machine.specs.declared.inputs.Line.TheVariants.{Good, Bad}
use Rattle.ps_machine.specs.declared.inputs.Command.TheVariants.{RunPlan, Quit}
use Rattle.ps_plan.specs.PlanText.{plan_fault, planned, said_by}
use Rattle.ps_action.specs.declared.acts.PlanStep.{PlanStep}
use Rattle.ps_action.specs.declared.refusals.PlanTextRefusal.{PlanTextRefusal}
use Rattle.ps_edit_words.specs.Words.{edit_word}
use Rattle.ps_edit_words.specs.declared.words.EditWord.{EditWord}
use Rattle.ps_script.specs.Lines.{IsRead}
use Rattle.ps_script.specs.declared.reading.Read.{Read}
use Rattle.ps_script.specs.declared.reading.Read.TheVariants as read
use Rattle.ps_inputs.specs.Flats.{Flattened}
use Rattle.ps_inputs.specs.Flats.Flattened.{plain, with_plan, too_deep}

-- a line that ends the script
abbrev pub ends_script : Line → Bool
ends_script (Good Quit) = true
ends_script line = false

-- The lines that a line gives, by what it is read as: none where it says nothing, or where the lines of a file stand in its place, and
-- this line where it runs the plan in a file.
abbrev pub given_by : Line → Read → List Line
given_by run read.Nothing = []
given_by run (read.Line line) = line ∷ []
given_by run (read.Source file) = []
given_by run (read.RunPlan file) = run ∷ []

-- the steps of a plan's text with the table after it, where the text has no fault; else its fault, and no names
abbrev pub unless_faulty : Table → List ℕ → Option PlanTextRefusal → Result (List PlanStep) PlanTextRefusal × Table
unless_faulty table text (Some fault) = (Err fault, table)
unless_faulty table text None = (Ok (planned table [] (said_by text)).0, (planned table [] (said_by text)).1)

-- what the text of a plan's file gives, and the table after it
abbrev pub plan_in : Table → List ℕ → Result (List PlanStep) PlanTextRefusal × Table
plan_in table text = unless_faulty table text (plan_fault text)

-- What a command line adds to those before it, with a table before it and the table after it: the line that it is read as. The text of
-- a plan's file stands after the words of its line.
abbrev pub Adds : Table → Flattened → List Line → Table → Type 0
Adds table (plain bytes) new after = (line : Line) × IsRead table bytes (read.Line line) after × (new ≡ line ∷ [])
Adds table (with_plan bytes text) new after =
    (r : Read) × (between : Table) × IsRead table bytes r between
    × (new ≡ given_by (Good (RunPlan (plan_in between text).0)) r) × (after ≡ (plan_in between text).1)
Adds table too_deep new after = (new ≡ Bad Nest ∷ []) × (after ≡ table)

-- what a command line says to an editor alone, if it begins with a word that no session knows
abbrev pub word_of : Flattened → Option EditWord
word_of (plain bytes) = edit_word bytes
word_of (with_plan bytes text) = None
word_of too_deep = None

-- These command lines, read one after another, are these lines of the terminal: the first is read with the first table, each
-- other one with the table after the line before it, and the last table is that after the last line.
pub data IsScript (first : Table) : List Flattened → List Line → Table → Type 0 where
  nothing : IsScript first [] [] first
  one_more : (before : List Flattened) (lines : List Line) (table : Table) (one : Flattened) (new : List Line) (after : Table) → IsScript first before lines table → Adds table one new after → IsScript first (before ++ one ∷ []) (lines ++ new) after
