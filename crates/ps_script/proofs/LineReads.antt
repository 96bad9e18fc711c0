-- What a line is read as, by what was found out of it.
use Rattle.std.proofs.Common.{◌≡◌, ℕ, true, false, List, length, take, Option, None, Some, IfSome, Result, Ok, Err, sym, ◌∙◌, ap, subst}
use Rattle.ps_world.specs.Failures.{refusal_of}
use Rattle.ps_world.specs.Names.{Table}
use Rattle.ps_world.specs.declared.failures.Failure.{Failure}
use Rattle.ps_world.specs.declared.failures.Failure.TheVariants.{Refused}
use Rattle.ps_machine.specs.declared.inputs.Command.{Command}
use Rattle.ps_machine.specs.declared.inputs.LineCause.{LineCause}
use Rattle.ps_machine.specs.declared.inputs.LineCause.TheVariants as cause
use Rattle.ps_machine.specs.declared.inputs.Line.TheVariants.{Good}
use Rattle.ps_text.specs.Names.{Keeps}
use Rattle.ps_text.proofs.Kept.{kept_front}
use Rattle.ps_text.specs.Tokens.{AreTokens, RefusesText}
use Rattle.ps_text.specs.Words.{words}
use Rattle.ps_text.specs.declared.lexing.LexRefusal.{LexRefusal}
use Rattle.ps_text.specs.declared.lexing.LexRefusal.TheVariants as lexing
use Rattle.ps_text.specs.declared.lexing.Token.{Token}
use Rattle.ps_grammar.specs.declared.symbols.Symbol.{Symbol}
use Rattle.ps_lists.specs.Lexemes.{lexemes_of, marks}
use Rattle.ps_lists.specs.Nested.{Nesteds}
use Rattle.ps_lists.specs.declared.lexemes.Lexeme.{Lexeme}
use Rattle.ps_script.specs.Commands.{command_of}
use Rattle.ps_script.specs.Files.{after_run, file_in, is_run_plan, is_source}
use Rattle.ps_script.specs.Forms.{form_of, start_of}
use Rattle.ps_script.specs.FactLines.{Means}
use Rattle.ps_script.specs.Judged.{BeginAlike, Fits, IsJudged}
use Rattle.ps_script.specs.Judged.IsJudged.{fitting}
use Rattle.ps_script.specs.Lines.{IsOfForm, IsPlain, IsRead, bad, cause_of, is_nothing, with_run_plan}
use Rattle.ps_script.specs.Lines.IsRead.{good, run_nothing, run_plan, source, source_nothing, without_class, without_form, without_number, without_shape}
use Rattle.ps_script.specs.declared.forms.Form.{Form}
use Rattle.ps_script.specs.declared.reading.Read.{Read}
use Rattle.ps_script.specs.declared.reading.Read.TheVariants.{Line, RunPlan, Source}
use Rattle.ps_script.proofs.Beginnings.{words_begin}

of_form : (bytes : List ℕ) (form : Form) (tokens : List Token) → IsPlain bytes → AreTokens bytes tokens → form_of (words bytes) ≡ Some form → IsOfForm bytes form tokens
of_form bytes form tokens plain are is = record { plain = plain; are_tokens = are; form_is = is }

-- a line in plain names is what they say
pub plain_read : (table now : Table) (bytes : List ℕ) (form : Form) (tokens : List Token) (ls same : List Lexeme) (found : Option Command) (command : Command) → IsPlain bytes → AreTokens bytes tokens → form_of (words bytes) ≡ Some form → lexemes_of bytes table tokens ≡ (ls, now) → same ≡ ls → IfSome found (Means form same) → found ≡ Some command → IsRead table bytes (Line (Good command)) now
plain_read table now bytes form tokens ls same found command plain are is words e means f =
    let told : Means form ls command = subst (λ (x : List Lexeme). Means form x command) e (subst (λ (o : Option Command). IfSome o (Means form same)) f means) in
    good form tokens ls now told.0 command (of_form bytes form tokens plain are is) words (fitting told.0 told.1.0 told.1.1 told.2 told.3) told.4

module _ (table now : Table) (bytes : List ℕ) (form : Form) (tokens : List Token) (ls : List Lexeme) (misfit : Option ℕ) (found : Result Nesteds ℕ) (plain : IsPlain bytes) (are : AreTokens bytes tokens) (is : form_of (words bytes) ≡ Some form) (words : lexemes_of bytes table tokens ≡ (ls, now)) (judged : (start : List Symbol) (ts : List Token) → BeginAlike ts ls → Fits start (marks ls) misfit → IsJudged start bytes ts ls found) (fits : Fits (start_of form) (marks ls) misfit) where
  judged_words : (r : Result Nesteds ℕ) → found ≡ r → IsJudged (start_of form) bytes tokens ls r
  judged_words r f =
      subst (λ (x : Result Nesteds ℕ). IsJudged (start_of form) bytes tokens ls x) f
      (judged (start_of form) tokens (words_begin bytes table now tokens ls words) fits)

  -- a line that fits its form is the command of its words
  pub good_read : (ts us : Nesteds) (command : Command) → found ≡ Ok ts → us ≡ ts → command ≡ command_of form us → IsRead table bytes (Line (Good command)) now
  good_read ts us command f u c =
      good form tokens ls now ts command (of_form bytes form tokens plain are is) words (judged_words (Ok ts) f) (ap (command_of form) (sym u) ∙ sym c)

  -- a line with a fault puts no name into the table
  pub bad_read : (after : Table) (before at : ℕ) (r : Read) → before ≡ length table → Keeps table now → after ≡ take before now → found ≡ Err at → r ≡ bad (cause.Shape at) → IsRead table bytes r after
  bad_read after before at r count kept cut f b =
      let back : after ≡ table = cut ∙ ap (λ k. take k now) count ∙ kept_front table now kept in
      let bare : IsRead table bytes (bad (cause.Shape at)) table = without_shape form tokens ls now at (of_form bytes form tokens plain are is) words (judged_words (Err at) f) in
      subst (λ (x : Table). IsRead table bytes r x) (sym back) (subst (λ (x : Read). IsRead table bytes x table) (sym b) bare)

pub formless_read : (table : Table) (bytes : List ℕ) (tokens : List Token) (found : Option Form) (r : Read) → IsPlain bytes → AreTokens bytes tokens → found ≡ form_of (words bytes) → found ≡ None → r ≡ bad cause.Command → IsRead table bytes r table
formless_read table bytes tokens found r plain are f n e = subst (λ (x : Read). IsRead table bytes x table) (sym e) (without_form tokens plain are (sym f ∙ n))

classless_read : (table : Table) (bytes : List ℕ) (fault : LexRefusal) → IsPlain bytes → RefusesText fault bytes → IsRead table bytes (bad (cause_of fault)) table
classless_read table bytes (lexing.Bad at) plain fault = without_class at plain fault
classless_read table bytes (lexing.Number at) plain fault = without_number at plain fault

pub refused_read : {A : Type 0} (table : Table) (bytes : List ℕ) (answer : Result A (Failure LexRefusal)) (failure : Failure LexRefusal) (f g : LexRefusal) (c : LineCause) (r : Read) → IsPlain bytes → IfSome (refusal_of answer) (λ x. RefusesText x bytes) → answer ≡ Err failure → failure ≡ Refused f → g ≡ f → c ≡ cause_of g → r ≡ bad c → IsRead table bytes r table
refused_read table bytes answer failure f g c r plain fault was is same from e =
    let here : RefusesText f bytes = subst (λ a. IfSome (refusal_of a) (λ x. RefusesText x bytes)) (was ∙ ap Err is) fault in
    subst (λ (x : Read). IsRead table bytes x table) (sym (e ∙ ap bad (from ∙ ap cause_of same))) (classless_read table bytes f plain here)

pub source_read : (table : Table) (bytes text : List ℕ) (found : Option (List ℕ)) (file : List ℕ) → is_nothing bytes ≡ false → is_source bytes ≡ true → text ≡ after_run bytes → found ≡ file_in text → found ≡ Some file → IsRead table bytes (Source file) table
source_read table bytes text found file some is t f s = source file some is (ap file_in (sym t) ∙ sym f ∙ s)

pub source_nothing_read : (table : Table) (bytes text : List ℕ) (found : Option (List ℕ)) (r : Read) → is_nothing bytes ≡ false → is_source bytes ≡ true → text ≡ after_run bytes → found ≡ file_in text → found ≡ None → r ≡ bad (cause.Shape (length bytes)) → IsRead table bytes r table
source_nothing_read table bytes text found r some is t f s e = subst (λ (x : Read). IsRead table bytes x table) (sym e) (source_nothing some is (ap file_in (sym t) ∙ sym f ∙ s))

pub plan_read : (table after : Table) (bytes text rest : List ℕ) (found : Option (List ℕ)) (file : List ℕ) → is_nothing bytes ≡ false → is_source bytes ≡ false → is_run_plan bytes ≡ true → text ≡ after_run bytes → rest ≡ after_run text → found ≡ file_in rest → found ≡ Some file → after ≡ with_run_plan table → IsRead table bytes (RunPlan file) after
plan_read table after bytes text rest found file some other is t u f s e =
    subst (λ (x : Table). IsRead table bytes (RunPlan file) x) (sym e) (run_plan file some other is (ap file_in (ap after_run (sym t) ∙ sym u) ∙ sym f ∙ s))

pub plan_nothing_read : (table : Table) (bytes text rest : List ℕ) (found : Option (List ℕ)) (r : Read) → is_nothing bytes ≡ false → is_source bytes ≡ false → is_run_plan bytes ≡ true → text ≡ after_run bytes → rest ≡ after_run text → found ≡ file_in rest → found ≡ None → r ≡ bad (cause.Shape (length bytes)) → IsRead table bytes r table
plan_nothing_read table bytes text rest found r some other is t u f s e =
    subst (λ (x : Read). IsRead table bytes x table) (sym e) (run_nothing some other is (ap file_in (ap after_run (sym t) ∙ sym u) ∙ sym f ∙ s))
