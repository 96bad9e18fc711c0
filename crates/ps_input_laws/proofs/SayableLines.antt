-- The lines of a script that is read can be said.
use Rattle.std.proofs.Common.{◌≡◌, ℕ, Option, Some, None, List, [], ◌∷◌, All, refl, sym, subst}
use Rattle.std.proofs.lemmas.List.Elements.{All-nil, All-cons, All-append, All-weaker}
use Rattle.ps_world.specs.Names.{Table}
use Rattle.ps_action.specs.declared.refusals.PlanTextRefusal.{PlanTextRefusal}
use Rattle.ps_machine.specs.declared.inputs.Command.TheVariants.{RunPlan}
use Rattle.ps_machine.specs.declared.inputs.Line.{Line}
use Rattle.ps_machine.specs.declared.inputs.Line.TheVariants.{Good, Bad}
use Rattle.ps_machine.specs.declared.inputs.LineCause.TheVariants.{Nest}
use Rattle.ps_text.specs.Names.{AreNames, Keeps}
use Rattle.ps_plan.specs.PlanText.{plan_fault, planned, said_by}
use Rattle.ps_script.specs.Lines.{IsRead}
use Rattle.ps_script.specs.declared.reading.Read.{Read}
use Rattle.ps_script.specs.declared.reading.Read.TheVariants as read
use Rattle.ps_history_laws.specs.Inputs.{IsSayableLine}
use Rattle.ps_history_laws.proofs.Kept.{line-in}
use Rattle.ps_history_laws.proofs.ReadDomains.{plans_are_sayable}
use Rattle.ps_history_laws.proofs.ReadLines.{lines_are_sayable}
use Rattle.ps_inputs.specs.Flats.{Flattened}
use Rattle.ps_inputs.specs.Flats.Flattened.{plain, with_plan, too_deep}
use Rattle.ps_inputs.specs.Scripts.{Adds, IsScript, given_by, plan_in, unless_faulty}
use Rattle.ps_inputs.specs.Scripts.IsScript.{nothing, one_more}
use Rattle.ps_input_laws.proofs.TablesFollow.{added_follows, line_follows, plan_follows, script_follows}

-- lines can be said with each table that keeps the names
pub lines_later : (t u : Table) → Keeps t u → (lines : List Line) → All (IsSayableLine t) lines → All (IsSayableLine u) lines
lines_later t u keeps lines h = All-weaker (IsSayableLine t) (IsSayableLine u) (line-in t u keeps) lines h

one_line : (names : Table) (line : Line) → IsSayableLine names line → All (IsSayableLine names) (line ∷ [])
one_line names line h = All-cons (IsSayableLine names) line [] h (All-nil (IsSayableLine names))

-- a line that runs the plan of a text, or refuses it, can be said with the table after the text
plan_said : (t : Table) (text : List ℕ) (fault : Option PlanTextRefusal) → plan_fault text ≡ fault → IsSayableLine (unless_faulty t text fault).1 (Good (RunPlan (unless_faulty t text fault).0))
plan_said t text (Some why) e = tt
plan_said t text None e =
    plans_are_sayable t text (planned t [] (said_by text)).0 (planned t [] (said_by text)).1 (record { faultless = e; steps_are = refl })

-- what a line gives can be said with each table that keeps the names after it, where the line for running a plan can
given_said : (t between after : Table) (bytes : List ℕ) (run : Line) → AreNames t → Keeps between after → IsSayableLine after run → (r : Read) → IsRead t bytes r between → All (IsSayableLine after) (given_by run r)
given_said t between after bytes run known keeps h read.Nothing is = All-nil (IsSayableLine after)
given_said t between after bytes run known keeps h (read.Line line) is =
    one_line after line (line-in between after keeps line (lines_are_sayable t bytes line between known is))
given_said t between after bytes run known keeps h (read.Source file) is = All-nil (IsSayableLine after)
given_said t between after bytes run known keeps h (read.RunPlan file) is = one_line after run h

-- what a command line adds can be said
added_said : (t : Table) (one : Flattened) (new : List Line) (after : Table) → AreNames t → Adds t one new after → All (IsSayableLine after) new
added_said t (plain bytes) new after known is =
    subst (All (IsSayableLine after)) (sym is.2) (one_line after is.0 (lines_are_sayable t bytes is.0 after known is.1))
added_said t (with_plan bytes text) new after known is =
    let between = is.1 in
    let plan = plan_in between text in
    let follows = plan_follows between text (line_follows t bytes is.0 between known is.2).names in
    let run = plan_said between text (plan_fault text) refl in
    let said = given_said t between plan.1 bytes (Good (RunPlan plan.0)) known follows.keeps run is.0 is.2 in
    subst (λ (names : Table). All (IsSayableLine names) new) (sym is.4) (subst (All (IsSayableLine plan.1)) (sym is.3) said)
added_said t too_deep new after known is = subst (All (IsSayableLine after)) (sym is.0) (one_line after (Bad Nest) tt)

-- the lines of a script can be said with the table after it
pub script_said : (first : Table) (script : List Flattened) (lines : List Line) (after : Table) → AreNames first → IsScript first script lines after → All (IsSayableLine after) lines
script_said first _ _ _ known nothing = All-nil (IsSayableLine first)
script_said first _ _ after known (one_more before lines table one new _ is adds) =
    let names = (script_follows first before lines table known is).names in
    let follows = added_follows table one new after names adds in
    let earlier = lines_later table after follows.keeps lines (script_said first before lines table known is) in
    All-append (IsSayableLine after) lines new earlier (added_said table one new after names adds)
