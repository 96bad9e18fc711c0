-- What a line of a member script says, by where it stands.
use Rattle.std.specs.Prelude.{◌≡◌, ℕ, Bool, true, false, List, None, Some, Result, Ok, Err}
use Rattle.ps_world.specs.Names.{Table}
use Rattle.ps_world.specs.declared.edits.Edit.{Edit as Change}
use Rattle.ps_machine.specs.declared.inputs.Command.TheVariants as command
use Rattle.ps_machine.specs.declared.inputs.LineCause.{LineCause}
use Rattle.ps_machine.specs.declared.inputs.LineCause.TheVariants as cause
use Rattle.ps_machine.specs.declared.members.Unit.{Unit as Task}
use Rattle.ps_machine.specs.declared.members.Unit.TheVariants as unit
use Rattle.ps_text.specs.Tokens.{AreTokens, RefusesText}
use Rattle.ps_text.specs.Words.{words}
use Rattle.ps_text.specs.declared.lexing.LexRefusal.{LexRefusal}
use Rattle.ps_text.specs.declared.lexing.Token.{Token}
use Rattle.ps_lists.specs.Lexemes.{lexemes_of}
use Rattle.ps_lists.specs.Nested.{Nesteds}
use Rattle.ps_lists.specs.Places.{head, rest}
use Rattle.ps_lists.specs.declared.lexemes.Lexeme.{Lexeme}
use Rattle.ps_script.specs.Commands.{command_of}
use Rattle.ps_script.specs.Goals.{first_condition}
use Rattle.ps_script.specs.Judged.{IsJudged, place}
use Rattle.ps_script.specs.Lines.{cause_of}
use Rattle.ps_members.specs.Args.{first_other, pattern_of}
use Rattle.ps_members.specs.Feedback.{feedback_of}
use Rattle.ps_members.specs.Forms.{form_at, start_of}
use Rattle.ps_members.specs.Parts.{worded}
use Rattle.ps_members.specs.declared.forms.Form.{Form}
use Rattle.ps_members.specs.declared.forms.Form.TheVariants as form
use Rattle.ps_members.specs.declared.places.Place.{Place}
use Rattle.ps_members.specs.declared.places.Said.{Said}
use Rattle.ps_members.specs.declared.places.Said.TheVariants.{Performer, Observer, Action, Args, Job, When, End, Unit as Does}

-- What a line that fits its form says, by its nested lists: the fixed words, then a name or a condition, or all of an edit.
abbrev pub Says : Form → Nesteds → Said → Type 0
Says form.Performer ts said = said ≡ Performer (head (rest ts)).name
Says form.Observer ts said = said ≡ Observer (head (rest ts)).name
Says form.Action ts said = said ≡ Action (head (rest ts)).name
Says form.Job ts said = said ≡ Job
Says form.When ts said = said ≡ When (first_condition (rest ts))
Says form.End ts said = said ≡ End
Says form.Work ts said = said ≡ Does unit.Work
Says form.FinishOk ts said = said ≡ Does (unit.Finish true)
Says form.FinishFail ts said = said ≡ Does (unit.Finish false)
Says (form.Edit f) ts said = (e : Change) × (command_of f ts ≡ command.Edit e) × (said ≡ Does (unit.Edit e))
Says form.Args ts said = ⊥
Says form.Feedback ts said = ⊥

-- whether all words of a line of this form are read by the grammar
abbrev pub is_plain : Form → Bool
is_plain form.Args = false
is_plain form.Feedback = false
is_plain f = true

-- What a line of a form says, or why it's bad, with a table of names before it and the table after it: the first word that doesn't
-- fit or is a variable out of its scope, or what its words mean. `bytes` is the line, and these are the tokens of its part that is read as
-- words.
pub data IsFormed (table : Table) (bytes : List ℕ) (tokens : List Token) : Form → Result Said LineCause → Table → Type 0 where
  misfit : (f : Form) (ls : List Lexeme) (after : Table) (at : ℕ) → is_plain f ≡ true → lexemes_of (worded bytes) table tokens ≡ (ls, after) → IsJudged (start_of f) (worded bytes) tokens ls (Err at) → IsFormed table bytes tokens f (Err (cause.Shape at)) table
  meant : (f : Form) (ls : List Lexeme) (after : Table) (ts : Nesteds) (said : Said) → is_plain f ≡ true → lexemes_of (worded bytes) table tokens ≡ (ls, after) → IsJudged (start_of f) (worded bytes) tokens ls (Ok ts) → Says f ts said → IsFormed table bytes tokens f (Ok said) after
  no_place : (i : ℕ) → first_other tokens ≡ Some i → IsFormed table bytes tokens form.Args (Err (cause.Shape (place (worded bytes) tokens i))) table
  places : first_other tokens ≡ None → IsFormed table bytes tokens form.Args (Ok (Args (pattern_of table bytes).0)) (pattern_of table bytes).1
  no_note : (c : LineCause) → feedback_of bytes ≡ Err c → IsFormed table bytes tokens form.Feedback (Err c) table
  note : (u : Task) → feedback_of bytes ≡ Ok u → IsFormed table bytes tokens form.Feedback (Ok (Does u)) (lexemes_of (worded bytes) table tokens).1

-- What a line says here, or why it's bad. A word without a class comes first, then leading words that begin no form that is allowed
-- here, then what doesn't fit.
pub data IsSaid (at : Place) (table : Table) (bytes : List ℕ) : Result Said LineCause → Table → Type 0 where
  without_class : (fault : LexRefusal) → RefusesText fault (worded bytes) → IsSaid at table bytes (Err (cause_of fault)) table
  without_form : (tokens : List Token) → AreTokens (worded bytes) tokens → form_at at (words (worded bytes)) ≡ None → IsSaid at table bytes (Err cause.Command) table
  with_form : (tokens : List Token) (f : Form) (r : Result Said LineCause) (after : Table) → AreTokens (worded bytes) tokens → form_at at (words (worded bytes)) ≡ Some f → IsFormed table bytes tokens f r after → IsSaid at table bytes r after
