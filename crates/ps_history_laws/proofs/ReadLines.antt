-- What a line that is read says can be said.
use Rattle.std.proofs.Common.{◌≡◌, ℕ, ◌<◌, List, [], None, IfOk, Result, Ok, Err, length, refl, subst}
use Rattle.ps_world.specs.Names.{Table}
use Rattle.ps_world.specs.Tables.{IsOf}
use Rattle.ps_machine.specs.declared.inputs.Command.{Command}
use Rattle.ps_machine.specs.declared.inputs.Line.TheVariants.{Good}
use Rattle.ps_text.specs.Names.{AreNames}
use Rattle.ps_text.specs.declared.lexing.Token.{Token}
use Rattle.ps_grammar.specs.Shape.{Derives, IsShallowFrom}
use Rattle.ps_grammar.specs.declared.marks.Mark.{Mark}
use Rattle.ps_lists.specs.Lexemes.{lexemes_of, marks}
use Rattle.ps_lists.specs.Nested.{Nesteds, none, more}
use Rattle.ps_lists.specs.Places.{head, items_at, rest}
use Rattle.ps_lists.specs.Spelling.{SpellAll}
use Rattle.ps_lists.specs.declared.lexemes.Lexeme.{Lexeme}
use Rattle.ps_pddl.specs.Reading.{HasWords}
use Rattle.ps_pddl.proofs.ReadNames.{AreTold, first_below, lists_told, names_after}
use Rattle.ps_script.specs.Commands.{after_two, command_of}
use Rattle.ps_script.specs.Forms.{start_of}
use Rattle.ps_script.specs.Goals.{fact_of}
use Rattle.ps_script.specs.Judged.{IsJudged}
use Rattle.ps_script.specs.Lines.{IsOfForm, IsRead}
use Rattle.ps_script.specs.Lines.IsRead.{nothing, source, source_nothing, run_plan, run_nothing, without_class, without_number, without_form, without_shape, good}
use Rattle.ps_script.specs.Scopes.{stray, strays}
use Rattle.ps_script.proofs.Judgements.{fitting_parts}
use Rattle.ps_script.specs.declared.forms.Form.{Form}
use Rattle.ps_script.specs.declared.forms.Form.TheVariants.{SetInstance, SetPredicate, SetFunction, SetGoal, RemoveInstance, RemovePredicate, RemoveFunction, ModelPredicate, ModelAction, RunAction}
use Rattle.ps_script.specs.declared.reading.Read.{Read}
use Rattle.ps_script.specs.declared.reading.Read.TheVariants as read
use Rattle.ps_script_laws.specs.Sayable.{IsFactOf}
use Rattle.ps_limit_laws.proofs.SoundLines.{form_sound, goal_formed}
use Rattle.ps_history_laws.specs.Inputs.{IsSayableLine}
use Rattle.ps_history_laws.specs.Laws.{LinesAreSayable}
use Rattle.ps_history_laws.proofs.ReadGoals.{neither, fact_here, first_here, head_name, head_number, items_told, rest_told}

module _ (after : Table) (first : 0 < length after) where
  two_told : (ts : Nesteds) → AreTold after ts → AreTold after (after_two ts)
  two_told ts h = rest_told after first (rest ts) (rest_told after first ts h)

  third_here : (ts : Nesteds) → AreTold after ts → IsOf (length after) (head (after_two ts)).name
  third_here ts h = head_name after first (after_two ts) (two_told ts h)

  fourth_here : (ts : Nesteds) → AreTold after ts → IsOf (length after) (head (rest (after_two ts))).name
  fourth_here ts h = head_name after first (rest (after_two ts)) (rest_told after first (after_two ts) (two_told ts h))

  stated_here : (ts : Nesteds) → AreTold after ts → IsFactOf (length after) (fact_of (items_at (after_two ts)))
  stated_here ts h = fact_here after first (items_at (after_two ts)) (items_told after first (after_two ts) (two_told ts h))

  rest_stays : (ts : Nesteds) → strays [] ts ≡ None → strays [] (rest ts) ≡ None
  rest_stays none e = refl
  rest_stays (more t ts) e = (neither (stray [] t) (strays [] ts) e).1

  -- what a line that fits its form says can be said
  pub form_said : (f : Form) (ts : Nesteds) (ls : List Lexeme) (ms : List Mark) → SpellAll ts ls → ms ≡ marks ls → Derives (start_of f) ms → IsShallowFrom (start_of f) ms
      → strays [] ts ≡ None → AreTold after ts → IsSayableLine after (Good (command_of f ts))
  form_said SetGoal ts ls ms spelt e derived flat stays h =
      let here = first_here after first (after_two ts) (two_told ts h) (goal_formed ts ls ms spelt e derived flat) (rest_stays (rest ts) (rest_stays ts stays)) in
      record { known = here.0; heads = here.1; shallow = (form_sound SetGoal ts ls ms spelt e derived flat).shallow }
  form_said SetInstance ts ls ms spelt e derived flat stays h = (third_here ts h, fourth_here ts h)
  form_said SetPredicate ts ls ms spelt e derived flat stays h = stated_here ts h
  form_said SetFunction ts ls ms spelt e derived flat stays h =
      let us = items_at (after_two ts) in
      let told : AreTold after us = items_told after first (after_two ts) (two_told ts h) in
      (fact_here after first (items_at (rest us)) (items_told after first (rest us) (rest_told after first us told)), head_number after first (rest (rest us)) (two_told us told))
  form_said RemoveInstance ts ls ms spelt e derived flat stays h = third_here ts h
  form_said RemovePredicate ts ls ms spelt e derived flat stays h = stated_here ts h
  form_said RemoveFunction ts ls ms spelt e derived flat stays h = stated_here ts h
  form_said ModelPredicate ts ls ms spelt e derived flat stays h = fourth_here ts h
  form_said ModelAction ts ls ms spelt e derived flat stays h = fourth_here ts h
  form_said RunAction ts ls ms spelt e derived flat stays h =
      let act = stated_here ts h in
      (act.head, act.args)
  form_said _ ts ls ms spelt e derived flat stays h = tt

-- what is read can be said, if it is a line
abbrev IsSayableRead : Table → Read → Type 0
IsSayableRead after (read.Line line) = IsSayableLine after line
IsSayableRead after r = Unit {0}

judged_said : (table after : Table) (bytes : List ℕ) (f : Form) (tokens : List Token) (ls : List Lexeme) (r : Result Nesteds ℕ) → AreNames table → IsOfForm bytes f tokens → lexemes_of bytes table tokens ≡ (ls, after) → IsJudged (start_of f) bytes tokens ls r
    → IfOk r (λ ts. IsSayableLine after (Good (command_of f ts)))
judged_said table after bytes f tokens ls (Err at) known is words judged = tt
judged_said table after bytes f tokens ls (Ok ts) known is words judged =
    let has : HasWords table bytes ls after = record { tokens = tokens; are_tokens = is.are_tokens; words = words } in
    let first = first_below after (names_after table bytes ls after known has) in
    let fits = fitting_parts (start_of f) bytes tokens ls (Ok ts) judged in
    form_said after first f ts ls (marks ls) fits.spelt refl fits.derived fits.shallow fits.in_scope (lists_told table bytes ls after ts known has fits.spelt)

read_said : (table after : Table) (bytes : List ℕ) (r : Read) → AreNames table → IsRead table bytes r after → IsSayableRead after r
read_said table _ bytes _ known (nothing a) = tt
read_said table _ bytes _ known (source file a b c) = tt
read_said table _ bytes _ known (source_nothing a b c) = tt
read_said table _ bytes _ known (run_plan file a b c d) = tt
read_said table _ bytes _ known (run_nothing a b c d) = tt
read_said table _ bytes _ known (without_class at a b) = tt
read_said table _ bytes _ known (without_number at a b) = tt
read_said table _ bytes _ known (without_form tokens a b c) = tt
read_said table _ bytes _ known (without_shape form tokens ls after at is words judged) = tt
read_said table _ bytes _ known (good form tokens ls after ts command is words judged e) =
    subst (λ (c : Command). IsSayableLine after (Good c)) e (judged_said table after bytes form tokens ls (Ok ts) known is words judged)

pub lines_are_sayable : LinesAreSayable
lines_are_sayable table bytes line after known is = read_said table after bytes (read.Line line) known is
