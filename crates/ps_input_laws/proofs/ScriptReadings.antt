-- Every script of command lines is read as lines, of which there are no more than it has.
use Rattle.std.proofs.Common.{ℕ, ◌≤◌, List, [], ◌∷◌, ◌++◌, length, refl, ap, subst, arith}
use Rattle.std.proofs.lemmas.List.{length-append}
use Rattle.std.proofs.lemmas.List.Elements.{All-head, All-tail}
use Rattle.ps_world.specs.Names.{Table}
use Rattle.ps_machine.specs.declared.inputs.Command.TheVariants.{RunPlan}
use Rattle.ps_machine.specs.declared.inputs.Line.{Line}
use Rattle.ps_machine.specs.declared.inputs.Line.TheVariants.{Good, Bad}
use Rattle.ps_machine.specs.declared.inputs.LineCause.TheVariants.{Nest}
use Rattle.ps_script.specs.Kinds.{IsKind}
use Rattle.ps_script.specs.Lines.{IsRead}
use Rattle.ps_script.specs.declared.kinds.Kind.TheVariants.{Command}
use Rattle.ps_script.specs.declared.reading.Read.{Read}
use Rattle.ps_script.specs.declared.reading.Read.TheVariants as read
use Rattle.ps_reading_laws.proofs.LineReadings.{every_line_is_read}
use Rattle.ps_inputs.specs.Flats.{Flattened}
use Rattle.ps_inputs.specs.Flats.Flattened.{plain, with_plan, too_deep}
use Rattle.ps_inputs.specs.Scripts.{Adds, IsScript, given_by, plan_in}
use Rattle.ps_inputs.specs.Scripts.IsScript.{nothing, one_more}
use Rattle.ps_inputs.proofs.Flattening.{command_read, scripts_join}
use Rattle.ps_input_laws.specs.Readings.{EveryScriptIsRead, IsCommandLine}

-- a command line is read as one line
plain_added : (table : Table) (bytes : List ℕ) → IsKind bytes Command → (new : List Line) × (after : Table) × Adds table (plain bytes) new after
plain_added table bytes is =
    let reading = every_line_is_read table bytes in
    let line = command_read table bytes reading.0 reading.1 is reading.2 in
    (line.0 ∷ [], reading.1, (line.0, subst (λ (r : Read). IsRead table bytes r reading.1) line.1 reading.2, refl))

-- each line of a script adds something
added : (table : Table) (one : Flattened) → IsCommandLine one → (new : List Line) × (after : Table) × Adds table one new after
added table (plain bytes) is = plain_added table bytes is
added table (with_plan bytes text) is =
    let reading = every_line_is_read table bytes in
    let plan = plan_in reading.1 text in
    (given_by (Good (RunPlan plan.0)) reading.0, plan.1, (reading.0, reading.1, reading.2, refl, refl))
added table too_deep is = (Bad Nest ∷ [], table, (refl, refl))

pub every_script_is_read : EveryScriptIsRead
every_script_is_read first [] are = ([], first, nothing)
every_script_is_read first (one ∷ script) are =
    let head = added first one (All-head IsCommandLine one script are) in
    let rest = every_script_is_read head.1 script (All-tail IsCommandLine one script are) in
    let begun = one_more [] [] first one head.0 head.1 nothing head.2 in
    (head.0 ++ rest.0, rest.1, scripts_join first head.1 rest.1 (one ∷ []) script head.0 rest.0 begun rest.2)

-- ---- how many lines there are

given_few : (run : Line) (r : Read) → length (given_by run r) ≤ 1
given_few run read.Nothing = omega arith
given_few run (read.Line line) = omega arith
given_few run (read.Source file) = omega arith
given_few run (read.RunPlan file) = omega arith

-- a command line adds one line at most
added_few : (table : Table) (one : Flattened) (new : List Line) (after : Table) → Adds table one new after → length new ≤ 1
added_few table (plain bytes) new after is = omega (arith, ap length is.2)
added_few table (with_plan bytes text) new after is =
    omega (arith, ap length is.3, given_few (Good (RunPlan (plan_in is.1 text).0)) is.0)
added_few table too_deep new after is = omega (arith, ap length is.0)

-- so there are no more lines than command lines
pub lines_few : (first : Table) (script : List Flattened) (lines : List Line) (after : Table) → IsScript first script lines after → length lines ≤ length script
lines_few first _ _ _ nothing = omega arith
lines_few first _ _ after (one_more before lines table one new _ is adds) =
    omega (arith, length-append before (one ∷ []), length-append lines new, lines_few first before lines table is, added_few table one new after adds)
