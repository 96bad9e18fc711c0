-- What a line of the terminal is read as.
use Rattle.std.specs.Prelude.{◌≡◌, ℕ, Bool, true, false, ◌||◌, ◌==◌, List, [], ◌∷◌, codes, length, map, slice_range, None, Some, Ok, Err}
use Rattle.ps_world.specs.Names.{Table}
use Rattle.ps_machine.specs.declared.inputs.Command.{Command}
use Rattle.ps_machine.specs.declared.inputs.LineCause.{LineCause}
use Rattle.ps_machine.specs.declared.inputs.LineCause.TheVariants as cause
use Rattle.ps_machine.specs.declared.inputs.Line.TheVariants.{Good, Bad}
use Rattle.ps_text.specs.Names.{interned}
use Rattle.ps_text.specs.Tokens.{AreTokens, IsFirstFault}
use Rattle.ps_text.specs.Words.{words}
use Rattle.ps_text.specs.declared.lexing.LexRefusal.{LexRefusal}
use Rattle.ps_text.specs.declared.lexing.LexRefusal.TheVariants as lexing
use Rattle.ps_text.specs.declared.lexing.Token.{Token}
use Rattle.ps_grammar.specs.declared.marks.Mark.{Mark}
use Rattle.ps_lists.specs.Lexemes.{lexemes_of, mark_of}
use Rattle.ps_lists.specs.Nested.{Nesteds}
use Rattle.ps_lists.specs.declared.lexemes.Lexeme.{Lexeme}
use Rattle.ps_script.specs.Commands.{command_of}
use Rattle.ps_script.specs.Files.{after_run, file_in, is_run_plan, is_source, trimmed}
use Rattle.ps_script.specs.Forms.{form_of, start_of}
use Rattle.ps_script.specs.Judged.{IsJudged}
use Rattle.ps_script.specs.declared.forms.Form.{Form}
use Rattle.ps_script.specs.declared.reading.Read.{Read}
use Rattle.ps_script.specs.declared.reading.Read.TheVariants.{Nothing, Line, Source, RunPlan}

-- `#` or `;` stands first, or nothing does
abbrev pub begins_nothing : List ℕ → Bool
begins_nothing [] = true
begins_nothing (b ∷ bs) = b == 35 || b == 59

-- a line that is blank, or whose first byte after blanks is `#` or `;`
abbrev pub is_nothing : List ℕ → Bool
is_nothing bytes = begins_nothing (trimmed bytes)

-- a line that says something and names no file
pub record IsPlain (bytes : List ℕ) : Type 0 where
  pub something : is_nothing bytes ≡ false
  pub no_source : is_source bytes ≡ false
  pub no_plan : is_run_plan bytes ≡ false

-- the table with the names `run` and `plan`
abbrev pub with_run_plan : Table → Table
with_run_plan table = interned (interned table (codes "run")) (codes "plan")

-- what each token is to the grammar
abbrev pub marks_of : List ℕ → List Token → List Mark
marks_of bytes tokens = map (λ t. mark_of t.class (slice_range bytes t.from t.to)) tokens

-- a bad line
abbrev pub bad : LineCause → Read
bad c = Line (Bad c)

-- why a line with a word without a class is bad
abbrev pub cause_of : LexRefusal → LineCause
cause_of (lexing.Bad at) = cause.Lex at
cause_of (lexing.Number at) = cause.Number at

-- a line with these words is of this form
pub record IsOfForm (bytes : List ℕ) (form : Form) (tokens : List Token) : Type 0 where
  pub plain : IsPlain bytes
  pub are_tokens : AreTokens bytes tokens
  pub form_is : form_of (words bytes) ≡ Some form

-- What a line is read as, with a table of names before it and the table after it. A word without a class comes first, then leading
-- words that are no form, then the first word that doesn't fit or is a variable out of its scope, and any other line is what its nested
-- lists mean.
pub data IsRead (table : Table) (bytes : List ℕ) : Read → Table → Type 0 where
  nothing : is_nothing bytes ≡ true → IsRead table bytes Nothing table
  source : (file : List ℕ) → is_nothing bytes ≡ false → is_source bytes ≡ true → file_in (after_run bytes) ≡ Some file → IsRead table bytes (Source file) table
  source_nothing : is_nothing bytes ≡ false → is_source bytes ≡ true → file_in (after_run bytes) ≡ None → IsRead table bytes (bad (cause.Shape (length bytes))) table
  run_plan : (file : List ℕ) → is_nothing bytes ≡ false → is_source bytes ≡ false → is_run_plan bytes ≡ true → file_in (after_run (after_run bytes)) ≡ Some file → IsRead table bytes (RunPlan file) (with_run_plan table)
  run_nothing : is_nothing bytes ≡ false → is_source bytes ≡ false → is_run_plan bytes ≡ true → file_in (after_run (after_run bytes)) ≡ None → IsRead table bytes (bad (cause.Shape (length bytes))) table
  without_class : (at : ℕ) → IsPlain bytes → IsFirstFault bytes at (lexing.Bad at) → IsRead table bytes (bad (cause.Lex at)) table
  without_number : (at : ℕ) → IsPlain bytes → IsFirstFault bytes at (lexing.Number at) → IsRead table bytes (bad (cause.Number at)) table
  without_form : (tokens : List Token) → IsPlain bytes → AreTokens bytes tokens → form_of (words bytes) ≡ None → IsRead table bytes (bad cause.Command) table
  without_shape : (form : Form) (tokens : List Token) (ls : List Lexeme) (after : Table) (at : ℕ) → IsOfForm bytes form tokens → lexemes_of bytes table tokens ≡ (ls, after) → IsJudged (start_of form) bytes tokens ls (Err at) → IsRead table bytes (bad (cause.Shape at)) table
  good : (form : Form) (tokens : List Token) (ls : List Lexeme) (after : Table) (ts : Nesteds) (command : Command) → IsOfForm bytes form tokens → lexemes_of bytes table tokens ≡ (ls, after) → IsJudged (start_of form) bytes tokens ls (Ok ts) → command_of form ts ≡ command → IsRead table bytes (Line (Good command)) after
