-- Every text is read as a member or has a first fault.
use Rattle.std.proofs.Common.{◌≡◌, ℕ, suc, true, false, List, [], ◌∷◌, Result, Ok, Err, refl, inl, inr}
use Rattle.std.proofs.lemmas.Bool.{cases_Bool}
use Rattle.ps_world.specs.Names.{Table}
use Rattle.ps_world.specs.declared.domains.Domain.{Domain}
use Rattle.ps_machine.specs.declared.inputs.LineCause.{LineCause}
use Rattle.ps_machine.specs.declared.inputs.LineCause.TheVariants as cause
use Rattle.ps_machine.specs.declared.members.Member.{Member}
use Rattle.ps_text.specs.ScriptLines.{script_lines}
use Rattle.ps_text.specs.Tokens.{AreTokens}
use Rattle.ps_text.specs.Words.{words}
use Rattle.ps_text.specs.declared.lexing.Token.{Token}
use Rattle.ps_lists.specs.Lexemes.{lexemes_of}
use Rattle.ps_lists.specs.Nested.{Nesteds}
use Rattle.ps_lists.specs.declared.lexemes.Lexeme.{Lexeme}
use Rattle.ps_script.specs.Judged.{IsJudged, place}
use Rattle.ps_script.specs.Lines.{cause_of, is_nothing}
use Rattle.ps_members.specs.Args.{first_other, pattern_of}
use Rattle.ps_members.specs.Feedback.{feedback_of}
use Rattle.ps_members.specs.Forms.{form_at, may_edit, start_of}
use Rattle.ps_members.specs.Lines.{IsFormed, IsSaid, is_plain}
use Rattle.ps_members.specs.Lines.IsFormed.{meant, misfit, no_note, no_place, note, places}
use Rattle.ps_members.specs.Lines.IsSaid.{with_form, without_class, without_form}
use Rattle.ps_members.specs.Members.{AreLines, Leads, at_end}
use Rattle.ps_members.specs.Members.AreLines.{fault, good, none_left}
use Rattle.ps_members.specs.Members.Leads.{bad, nothing, said}
use Rattle.ps_members.specs.Moves.{moved}
use Rattle.ps_members.specs.Parts.{worded}
use Rattle.ps_members.specs.declared.forms.Form.{Form}
use Rattle.ps_members.specs.declared.forms.Form.TheVariants as form
use Rattle.ps_members.specs.declared.places.Place.{Place}
use Rattle.ps_members.specs.declared.places.Place.TheVariants.{Beginning}
use Rattle.ps_members.specs.declared.places.Said.{Said}
use Rattle.ps_members.specs.declared.places.Said.TheVariants.{Args, Unit as Does}
use Rattle.ps_members.specs.declared.refusals.ScriptRefusal.{ScriptRefusal}
use Rattle.ps_members.specs.declared.refusals.ScriptRefusal.TheVariants.{Line}
use Rattle.ps_members.proofs.FormEdits.{form_edits}
use Rattle.ps_members.proofs.FormLines.{fit_balance}
use Rattle.ps_reading_laws.specs.Laws.{EveryMemberIsRead}
use Rattle.ps_reading_laws.proofs.Cases.{answered, found}
use Rattle.ps_reading_laws.proofs.Lexing.{lexed}
use Rattle.ps_reading_laws.proofs.MemberForms.{says}
use Rattle.ps_reading_laws.proofs.WordsJudged.{words_judged}

-- ---- a line of a form

module _ (table : Table) (bytes : List ℕ) (tokens : List Token) where
  -- a line of this form says something, or is bad
  abbrev Forms : Form → Type 0
  Forms f = (answer : Result Said LineCause) × (after : Table) × IsFormed table bytes tokens f answer after

  args_line : Forms form.Args
  args_line =
      elim (found (first_other tokens)) [
        | inl i ↦ (Err (cause.Shape (place (worded bytes) tokens i.0)), table, no_place i.0 i.1)
        | inr names ↦ (Ok (Args (pattern_of table bytes).0), (pattern_of table bytes).1, places names)
      ]

  feedback_line : Forms form.Feedback
  feedback_line =
      elim (answered (feedback_of bytes)) [
        | inl u ↦ (Ok (Does u.0), (lexemes_of (worded bytes) table tokens).1, note u.0 u.1)
        | inr c ↦ (Err c.0, table, no_note c.0 c.1)
      ]

  module _ (f : Form) (plain : is_plain f ≡ true) (may : may_edit f ≡ true) where
    judged_line : (r : Result Nesteds ℕ) → IsJudged (start_of f) (worded bytes) tokens (lexemes_of (worded bytes) table tokens).0 r → Forms f
    judged_line (Ok ts) fits =
        let ls : List Lexeme = (lexemes_of (worded bytes) table tokens).0 in
        let after : Table = (lexemes_of (worded bytes) table tokens).1 in
        let what = says f ts plain may in
        (Ok what.0, after, meant f ls after ts what.0 plain refl fits what.1)
    judged_line (Err at) out =
        let ls : List Lexeme = (lexemes_of (worded bytes) table tokens).0 in
        let after : Table = (lexemes_of (worded bytes) table tokens).1 in
        (Err (cause.Shape at), table, misfit f ls after at plain refl out)

    plain_line : Forms f
    plain_line =
        let ls : List Lexeme = (lexemes_of (worded bytes) table tokens).0 in
        let words = words_judged (start_of f) (worded bytes) tokens ls (fit_balance f ls) in
        judged_line words.0 words.1

  formed_line : (f : Form) → may_edit f ≡ true → Forms f
  formed_line form.Args may = args_line
  formed_line form.Feedback may = feedback_line
  formed_line f may = plain_line f refl may

-- ---- a line

module _ (at : Place) (table : Table) (bytes : List ℕ) where
  -- a line says something here, or is bad
  abbrev Says : Type 0
  Says = (answer : Result Said LineCause) × (after : Table) × IsSaid at table bytes answer after

  worded_line : (tokens : List Token) → AreTokens (worded bytes) tokens → Says
  worded_line tokens are =
      elim (found (form_at at (words (worded bytes)))) [
        | inl f ↦
            let line = formed_line table bytes tokens f.0 (form_edits at (words (worded bytes)) f.0 f.1) in
            (line.0, line.1, with_form tokens f.0 line.0 line.1 are f.1 line.2)
        | inr none ↦ (Err cause.Command, table, without_form tokens are none)
      ]

  every_line_says : Says
  every_line_says =
      elim (lexed (worded bytes)) [
        | inl tokens ↦ worded_line tokens.0 tokens.1
        | inr refusal ↦ (Err (cause_of refusal.0), table, without_class refusal.0 refusal.1)
      ]

-- ---- all lines

module _ (d : Domain) where
  -- a line leads somewhere, or is the fault
  abbrev LeadsOn : ℕ → Place → Table → List ℕ → Type 0
  LeadsOn n at table line = (answer : Result Place ScriptRefusal) × (after : Table) × Leads d n at table line answer after

  said_leads : (n : ℕ) (at : Place) (table after : Table) (line : List ℕ) (answer : Result Said LineCause) → is_nothing line ≡ false → IsSaid at table line answer after → LeadsOn n at table line
  said_leads n at table after line (Ok s) some is = (moved d n at s, after, said s after some is)
  said_leads n at table after line (Err c) some is = (Err (Line n c), after, bad c after some is)

  every_line_leads : (n : ℕ) (at : Place) (table : Table) (line : List ℕ) → LeadsOn n at table line
  every_line_leads n at table line =
      elim (cases_Bool (is_nothing line)) [
        | inl none ↦ (Ok at, table, nothing none)
        | inr some ↦ let says = every_line_says at table line in said_leads n at table says.1 line says.0 some says.2
      ]

  -- lines are a member, or have a first fault
  abbrev AreRead : ℕ → Place → Table → List (List ℕ) → Type 0
  AreRead n at table lines = (answer : Result Member ScriptRefusal) × (after : Table) × AreLines d n at table lines answer after

  first_line : (n : ℕ) (at : Place) (table middle : Table) (line : List ℕ) (lines : List (List ℕ)) (answer : Result Place ScriptRefusal) → Leads d n at table line answer middle → ((next : Place) → AreRead (suc n) next middle lines) → AreRead n at table (line ∷ lines)
  first_line n at table middle line lines (Err why) leads later = (Err why, middle, fault n at table line lines why middle leads)
  first_line n at table middle line lines (Ok next) leads later =
      let more = later next in
      (more.0, more.1, good n at next table middle more.1 line lines more.0 leads more.2)

  all_lines : (lines : List (List ℕ)) (n : ℕ) (at : Place) (table : Table) → AreRead n at table lines
  all_lines [] n at table = (at_end n at, table, none_left n at table)
  all_lines (line ∷ lines) n at table =
      let leads = every_line_leads n at table line in
      first_line n at table leads.1 line lines leads.0 leads.2 (λ next. all_lines lines (suc n) next leads.1)

pub every_member_is_read : EveryMemberIsRead
every_member_is_read d table bytes = all_lines d (script_lines bytes) 1 Beginning table
