-- A line that is read is one that a script may have.
use Rattle.std.proofs.Common.{◌≡◌, ℕ, true, List, [], ◌∷◌, IfOk, Result, Ok, Err, refl, subst, arith}
use Rattle.ps_world.specs.Names.{Table}
use Rattle.ps_machine.specs.declared.inputs.Line.TheVariants.{Good}
use Rattle.ps_rules.specs.Sound.{IsScriptCond, IsSoundLine}
use Rattle.ps_text.specs.declared.lexing.Token.{Token}
use Rattle.ps_grammar.specs.Shape.{Derives, IsShallowFrom}
use Rattle.ps_grammar.specs.declared.marks.Mark.{Mark}
use Rattle.ps_grammar.specs.declared.symbols.Symbol.{Symbol}
use Rattle.ps_grammar.specs.declared.symbols.Symbol.TheVariants.{AnyName, InGoal}
use Rattle.ps_grammar.specs.declared.symbols.GoalPart.TheVariants as goal
use Rattle.ps_lists.specs.Lexemes.{marks}
use Rattle.ps_lists.specs.Nested.{Nesteds}
use Rattle.ps_lists.specs.Places.{rest}
use Rattle.ps_lists.specs.Spelling.{SpellAll}
use Rattle.ps_lists.specs.declared.lexemes.Lexeme.{Lexeme}
use Rattle.ps_script.specs.Commands.{command_of}
use Rattle.ps_script.specs.Forms.{start_of}
use Rattle.ps_script.specs.Goals.{first_condition}
use Rattle.ps_script.specs.Judged.{IsJudged}
use Rattle.ps_script.specs.Lines.{IsRead}
use Rattle.ps_script.specs.Lines.IsRead.{nothing, source, source_nothing, run_plan, run_nothing, without_class, without_number, without_form, without_shape, good}
use Rattle.ps_script.specs.declared.forms.Form.{Form}
use Rattle.ps_script.specs.declared.forms.Form.TheVariants.{SetGoal}
use Rattle.ps_script.specs.declared.reading.Read.{Read}
use Rattle.ps_script.specs.declared.reading.Read.TheVariants.{Line}
use Rattle.ps_script.proofs.Judgements.{fitting_parts}
use Rattle.ps_limit_laws.proofs.GoalMarks.{Runs, runs_of}
use Rattle.ps_limit_laws.proofs.GoalTexts.{after_name, formed_goal, script_goal}
use Rattle.ps_limit_laws.proofs.GoalTrees.{begins_formed}
use Rattle.ps_limit_laws.specs.Sound.{LinesAreSound}

abbrev goal_start : List Symbol
goal_start = InGoal goal.Condition ∷ []

-- a goal after one word
pub goal_after_one : (ts : Nesteds) (ls : List Lexeme) (ms : List Mark) → SpellAll ts ls → ms ≡ marks ls → Derives (AnyName ∷ goal_start) ms → IsShallowFrom (AnyName ∷ goal_start) ms → IsScriptCond (first_condition (rest ts))
goal_after_one ts ls ms spelt e derived flat =
    let runs = runs_of (AnyName ∷ goal_start) ms derived flat in
    let now = after_name ts ls spelt goal_start (omega arith) (subst (λ x. Runs (AnyName ∷ goal_start) x) e runs) in
    script_goal (rest ts) now.words now.spelt now.runs

-- what stands after two words where a goal is wanted
pub record AfterTwo (ts : Nesteds) : Type 0 where
  pub words : List Lexeme
  pub spelt : SpellAll (rest (rest ts)) words
  pub runs : Runs goal_start (marks words)

after_two_words : (ts : Nesteds) (ls : List Lexeme) (ms : List Mark) → SpellAll ts ls → ms ≡ marks ls → Derives (start_of SetGoal) ms → IsShallowFrom (start_of SetGoal) ms → AfterTwo ts
after_two_words ts ls ms spelt e derived flat =
    let runs = runs_of (start_of SetGoal) ms derived flat in
    let now = after_name ts ls spelt (AnyName ∷ goal_start) (omega arith) (subst (λ x. Runs (start_of SetGoal) x) e runs) in
    let next = after_name (rest ts) now.words now.spelt goal_start (omega arith) now.runs in
    record { words = next.words; spelt = next.spelt; runs = next.runs }

-- the list of a goal that is set is formed
pub goal_formed : (ts : Nesteds) (ls : List Lexeme) (ms : List Mark) → SpellAll ts ls → ms ≡ marks ls → Derives (start_of SetGoal) ms → IsShallowFrom (start_of SetGoal) ms → begins_formed (rest (rest ts)) ≡ true
goal_formed ts ls ms spelt e derived flat =
    let next = after_two_words ts ls ms spelt e derived flat in
    formed_goal (rest (rest ts)) next.words next.spelt next.runs

-- a goal after two words
goal_after_two : (ts : Nesteds) (ls : List Lexeme) (ms : List Mark) → SpellAll ts ls → ms ≡ marks ls → Derives (start_of SetGoal) ms → IsShallowFrom (start_of SetGoal) ms → IsScriptCond (first_condition (rest (rest ts)))
goal_after_two ts ls ms spelt e derived flat =
    let next = after_two_words ts ls ms spelt e derived flat in
    script_goal (rest (rest ts)) next.words next.spelt next.runs

-- what a line that fits its form says is one that a script may have
pub form_sound : (f : Form) (ts : Nesteds) (ls : List Lexeme) (ms : List Mark) → SpellAll ts ls → ms ≡ marks ls → Derives (start_of f) ms → IsShallowFrom (start_of f) ms → IsSoundLine (Good (command_of f ts))
form_sound SetGoal ts ls ms spelt e derived flat = goal_after_two ts ls ms spelt e derived flat
form_sound _ ts ls ms spelt e derived flat = tt

judged_sound : (f : Form) (bytes : List ℕ) (tokens : List Token) (ls : List Lexeme) (r : Result Nesteds ℕ) → IsJudged (start_of f) bytes tokens ls r → IfOk r (λ ts. IsSoundLine (Good (command_of f ts)))
judged_sound f bytes tokens ls (Err at) judged = tt
judged_sound f bytes tokens ls (Ok ts) judged =
    let fits = fitting_parts (start_of f) bytes tokens ls (Ok ts) judged in
    form_sound f ts ls (marks ls) fits.spelt refl fits.derived fits.shallow

-- what is read is a sound line, if it is a line
abbrev ReadsSound : Read → Type 0
ReadsSound (Line line) = IsSoundLine line
ReadsSound r = Unit {0}

reads_sound : (table after : Table) (bytes : List ℕ) (r : Read) → IsRead table bytes r after → ReadsSound r
reads_sound table _ bytes _ (nothing a) = tt
reads_sound table _ bytes _ (source file a b c) = tt
reads_sound table _ bytes _ (source_nothing a b c) = tt
reads_sound table _ bytes _ (run_plan file a b c d) = tt
reads_sound table _ bytes _ (run_nothing a b c d) = tt
reads_sound table _ bytes _ (without_class at a b) = tt
reads_sound table _ bytes _ (without_number at a b) = tt
reads_sound table _ bytes _ (without_form tokens a b c) = tt
reads_sound table _ bytes _ (without_shape form tokens ls after at is words judged) = tt
reads_sound table _ bytes _ (good form tokens ls after ts command is words judged e) =
    subst (λ x. IsSoundLine (Good x)) e (judged_sound form bytes tokens ls (Ok ts) judged)

pub lines_are_sound : LinesAreSound
lines_are_sound table bytes line after is = reads_sound table after bytes (Line line) is
