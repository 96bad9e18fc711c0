-- Every line of a script is read as something.
use Rattle.std.proofs.Common.{◌≡◌, ℕ, false, true, List, length, Some, Result, Ok, Err, refl, inl, inr}
use Rattle.std.proofs.lemmas.Bool.{cases_Bool}
use Rattle.ps_world.specs.Names.{Table}
use Rattle.ps_machine.specs.declared.inputs.LineCause.TheVariants as cause
use Rattle.ps_machine.specs.declared.inputs.Line.TheVariants.{Good}
use Rattle.ps_text.specs.Tokens.{AreTokens, RefusesText}
use Rattle.ps_text.specs.Words.{words}
use Rattle.ps_text.specs.declared.lexing.LexRefusal.{LexRefusal}
use Rattle.ps_text.specs.declared.lexing.LexRefusal.TheVariants as lexing
use Rattle.ps_text.specs.declared.lexing.Token.{Token}
use Rattle.ps_lists.specs.Lexemes.{lexemes_of}
use Rattle.ps_lists.specs.Nested.{Nesteds}
use Rattle.ps_lists.specs.declared.lexemes.Lexeme.{Lexeme}
use Rattle.ps_script.specs.Commands.{command_of}
use Rattle.ps_script.specs.Files.{after_run, file_in, is_run_plan, is_source}
use Rattle.ps_script.specs.Forms.{form_of, start_of}
use Rattle.ps_script.specs.Judged.{IsJudged}
use Rattle.ps_script.specs.Lines.{IsOfForm, IsPlain, IsRead, bad, is_nothing, with_run_plan}
use Rattle.ps_script.specs.Lines.IsRead.{good, nothing, run_nothing, run_plan, source, source_nothing, without_class, without_form, without_number, without_shape}
use Rattle.ps_script.specs.declared.forms.Form.{Form}
use Rattle.ps_script.specs.declared.reading.Read.{Read}
use Rattle.ps_script.specs.declared.reading.Read.TheVariants.{Line, Nothing, RunPlan, Source}
use Rattle.ps_script.proofs.Balance.{start_closed, start_paired}
use Rattle.ps_script.proofs.Fronts.{front_balance}
use Rattle.ps_reading_laws.specs.Laws.{EveryLineIsRead}
use Rattle.ps_reading_laws.proofs.Cases.{found}
use Rattle.ps_reading_laws.proofs.Lexing.{lexed}
use Rattle.ps_reading_laws.proofs.WordsJudged.{words_judged}

module _ (table : Table) (bytes : List ℕ) where
  -- the line is read as something
  abbrev Reads : Type 0
  Reads = (read : Read) × (after : Table) × IsRead table bytes read after

  -- ---- a line that names a file

  source_line : is_nothing bytes ≡ false → is_source bytes ≡ true → Reads
  source_line some is =
      elim (found (file_in (after_run bytes))) [
        | inl file ↦ (Source file.0, table, source file.0 some is file.1)
        | inr none ↦ (bad (cause.Shape (length bytes)), table, source_nothing some is none)
      ]

  plan_line : is_nothing bytes ≡ false → is_source bytes ≡ false → is_run_plan bytes ≡ true → Reads
  plan_line some other is =
      elim (found (file_in (after_run (after_run bytes)))) [
        | inl file ↦ (RunPlan file.0, with_run_plan table, run_plan file.0 some other is file.1)
        | inr none ↦ (bad (cause.Shape (length bytes)), table, run_nothing some other is none)
      ]

  -- ---- another line

  judged_line : (form : Form) (tokens : List Token) (r : Result Nesteds ℕ) → IsOfForm bytes form tokens → IsJudged (start_of form) bytes tokens (lexemes_of bytes table tokens).0 r → Reads
  judged_line form tokens (Ok ts) is fits =
      let ls : List Lexeme = (lexemes_of bytes table tokens).0 in
      let after : Table = (lexemes_of bytes table tokens).1 in
      (Line (Good (command_of form ts)), after, good form tokens ls after ts (command_of form ts) is refl fits refl)
  judged_line form tokens (Err at) is out =
      let ls : List Lexeme = (lexemes_of bytes table tokens).0 in
      let after : Table = (lexemes_of bytes table tokens).1 in
      (bad (cause.Shape at), table, without_shape form tokens ls after at is refl out)

  module _ (plain : IsPlain bytes) where
    classless_line : (fault : LexRefusal) → RefusesText fault bytes → Reads
    classless_line (lexing.Bad at) fault = (bad (cause.Lex at), table, without_class at plain fault)
    classless_line (lexing.Number at) fault = (bad (cause.Number at), table, without_number at plain fault)

    formed_line : (tokens : List Token) (form : Form) → AreTokens bytes tokens → form_of (words bytes) ≡ Some form → Reads
    formed_line tokens form are is =
        let ls : List Lexeme = (lexemes_of bytes table tokens).0 in
        let words = words_judged (start_of form) bytes tokens ls (λ found fits. front_balance (start_of form) ls found (start_paired form) (start_closed form) fits) in
        judged_line form tokens words.0 (record { plain = plain; are_tokens = are; form_is = is }) words.1

    worded_line : (tokens : List Token) → AreTokens bytes tokens → Reads
    worded_line tokens are =
        elim (found (form_of (words bytes))) [
          | inl form ↦ formed_line tokens form.0 are form.1
          | inr none ↦ (bad cause.Command, table, without_form tokens plain are none)
        ]

    plain_line : Reads
    plain_line =
        elim (lexed bytes) [
          | inl tokens ↦ worded_line tokens.0 tokens.1
          | inr fault ↦ classless_line fault.0 fault.1
        ]

pub every_line_is_read : EveryLineIsRead
every_line_is_read table bytes =
    elim (cases_Bool (is_nothing bytes)) [
      | inl none ↦ (Nothing, table, nothing none)
      | inr some ↦ elim (cases_Bool (is_source bytes)) [
        | inl is ↦ source_line table bytes some is
        | inr other ↦ elim (cases_Bool (is_run_plan bytes)) [
          | inl is ↦ plan_line table bytes some other is
          | inr neither ↦ plain_line table bytes (record { something = some; no_source = other; no_plan = neither })
        ]
      ]
    ]
