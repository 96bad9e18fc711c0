-- What a line says, by what was found out of it.
use Rattle.std.proofs.Common.{◌≡◌, ℕ, true, List, Option, None, Some, IfSome, Result, Ok, Err, length, take, sym, ◌∙◌, ap, subst}
use Rattle.ps_world.specs.Failures.{Gives, refusal_of}
use Rattle.ps_world.specs.Names.{Table}
use Rattle.ps_world.specs.declared.names.Name.{Name}
use Rattle.ps_world.specs.declared.failures.Failure.{Failure}
use Rattle.ps_world.specs.declared.failures.Failure.TheVariants.{Refused, OutOfMemory}
use Rattle.ps_machine.specs.declared.inputs.LineCause.{LineCause}
use Rattle.ps_machine.specs.declared.inputs.LineCause.TheVariants as cause
use Rattle.ps_machine.specs.declared.members.Unit.{Unit as Task}
use Rattle.ps_text.specs.Names.{Keeps}
use Rattle.ps_text.proofs.Kept.{kept_front, kept_same}
use Rattle.ps_text.specs.Tokens.{AreTokens, RefusesText}
use Rattle.ps_text.specs.Words.{words}
use Rattle.ps_text.specs.declared.lexing.LexRefusal.{LexRefusal}
use Rattle.ps_text.specs.declared.lexing.Token.{Token}
use Rattle.ps_grammar.specs.declared.symbols.Symbol.{Symbol}
use Rattle.ps_lists.specs.Lexemes.{lexemes_of, marks}
use Rattle.ps_lists.specs.Nested.{Nesteds}
use Rattle.ps_lists.specs.declared.lexemes.Lexeme.{Lexeme}
use Rattle.ps_script.specs.Judged.{BeginAlike, Fits, IsJudged, place}
use Rattle.ps_script.specs.Lines.{cause_of}
use Rattle.ps_script.proofs.Beginnings.{words_begin}
use Rattle.ps_members.specs.Answers.{OnAnswer}
use Rattle.ps_members.specs.Args.{first_other, pattern_of}
use Rattle.ps_members.specs.Feedback.{feedback_of}
use Rattle.ps_members.specs.Forms.{form_at, start_of}
use Rattle.ps_members.specs.Lines.{IsFormed, IsSaid, Says, is_plain}
use Rattle.ps_members.specs.Lines.IsFormed.{misfit, meant, no_place, places, no_note, note}
use Rattle.ps_members.specs.Lines.IsSaid.{without_class, without_form, with_form}
use Rattle.ps_members.specs.Parts.{worded}
use Rattle.ps_members.specs.declared.forms.Form.{Form}
use Rattle.ps_members.specs.declared.forms.Form.TheVariants as form
use Rattle.ps_members.specs.declared.places.Place.{Place}
use Rattle.ps_members.specs.declared.places.Said.{Said}
use Rattle.ps_members.specs.declared.places.Said.TheVariants.{Args, Unit as Does}

abbrev shape_at : ℕ → Result Said LineCause
shape_at k = Err (cause.Shape k)

-- a table that is cut back keeps the names before it
pub names_back : (table now after : Table) (before : ℕ) → before ≡ length table → Keeps table now → after ≡ take before now → Keeps table after
names_back table now after before count kept cut = kept_same table after (cut ∙ ap (λ k. take k now) count ∙ kept_front table now kept)

module _ (table now : Table) (bytes part : List ℕ) (f : Form) (tokens : List Token) (ls : List Lexeme) (found : Option ℕ) (judgement : Result Nesteds ℕ) (w : part ≡ worded bytes) (plain : is_plain f ≡ true) (words : lexemes_of part table tokens ≡ (ls, now)) (judged : (start : List Symbol) (ts : List Token) → BeginAlike ts ls → Fits start (marks ls) found → IsJudged start part ts ls judgement) (fits : Fits (start_of f) (marks ls) found) where
  judged_words : (r : Result Nesteds ℕ) → judgement ≡ r → IsJudged (start_of f) (worded bytes) tokens ls r
  judged_words r is =
      subst (λ (x : List ℕ). IsJudged (start_of f) x tokens ls r) w
      (subst (λ (x : Result Nesteds ℕ). IsJudged (start_of f) part tokens ls x) is
      (judged (start_of f) tokens (words_begin part table now tokens ls words) fits))

  part_words : lexemes_of (worded bytes) table tokens ≡ (ls, now)
  part_words = ap (λ x. lexemes_of x table tokens) (sym w) ∙ words

  -- a line that fits its form says what its words mean
  pub fit_said : (ts us : Nesteds) (said : Said) → judgement ≡ Ok ts → us ≡ ts → Says f us said → IsFormed table bytes tokens f (Ok said) now
  fit_said ts us said is u says = meant f ls now ts said plain part_words (judged_words (Ok ts) is) (subst (λ (x : Nesteds). Says f x said) u says)

  -- a line with a fault puts no name into the table
  pub misfit_said : (after : Table) (before at : ℕ) → before ≡ length table → Keeps table now → after ≡ take before now → judgement ≡ Err at → IsFormed table bytes tokens f (Err (cause.Shape at)) after
  misfit_said after before at count kept cut is =
      let back : after ≡ table = cut ∙ ap (λ k. take k now) count ∙ kept_front table now kept in
      subst (λ (x : Table). IsFormed table bytes tokens f (Err (cause.Shape at)) x) (sym back) (misfit f ls now at plain part_words (judged_words (Err at) is))

pub no_place_said : (table : Table) (bytes part : List ℕ) (tokens : List Token) (i at : ℕ) (found : Option ℕ) → part ≡ worded bytes → found ≡ first_other tokens → found ≡ Some i → at ≡ place part tokens i → IsFormed table bytes tokens form.Args (Err (cause.Shape at)) table
no_place_said table bytes part tokens i at found w f is p =
    subst (λ (x : Result Said LineCause). IsFormed table bytes tokens form.Args x table) (ap shape_at (sym (p ∙ ap (λ x. place x tokens i) w))) (no_place i (sym f ∙ is))

pub places_said : (table after : Table) (bytes : List ℕ) (tokens : List Token) (found : Option ℕ) (pattern : List (Option Name)) → found ≡ first_other tokens → found ≡ None → pattern_of table bytes ≡ (pattern, after) → IsFormed table bytes tokens form.Args (Ok (Args pattern)) after
places_said table after bytes tokens found pattern f is e =
    subst (λ x. IsFormed table bytes tokens form.Args (Ok (Args x.0)) x.1) e (places (sym f ∙ is))

pub note_said : (table after : Table) (bytes part : List ℕ) (tokens : List Token) (ls : List Lexeme) (u : Task) → part ≡ worded bytes → feedback_of bytes ≡ Ok u → lexemes_of part table tokens ≡ (ls, after) → IsFormed table bytes tokens form.Feedback (Ok (Does u)) after
note_said table after bytes part tokens ls u w is words =
    subst (λ (x : Table). IsFormed table bytes tokens form.Feedback (Ok (Does u)) x) (ap (λ x. x.1) (ap (λ x. lexemes_of x table tokens) (sym w) ∙ words)) (note u is)

-- ---- whole lines

pub formless_said : (at : Place) (table : Table) (bytes part : List ℕ) (tokens : List Token) (ws : List (List ℕ)) (found : Option Form) → part ≡ worded bytes → AreTokens part tokens → ws ≡ words part → found ≡ form_at at ws → found ≡ None → IsSaid at table bytes (Err cause.Command) table
formless_said at table bytes part tokens ws found w are s f n =
    without_form tokens (subst (λ (x : List ℕ). AreTokens x tokens) w are) (ap (form_at at) (sym (s ∙ ap words w)) ∙ sym f ∙ n)

formed_here : (at : Place) (table after : Table) (bytes : List ℕ) (tokens : List Token) (f : Form) (answer : Result Said (Failure LineCause)) → AreTokens (worded bytes) tokens → form_at at (words (worded bytes)) ≡ Some f → OnAnswer (λ r. IsFormed table bytes tokens f r after) answer → OnAnswer (λ r. IsSaid at table bytes r after) answer
formed_here at table after bytes tokens f (Ok said) are is formed = with_form tokens f (Ok said) after are is formed
formed_here at table after bytes tokens f (Err (Refused c)) are is formed = with_form tokens f (Err c) after are is formed
formed_here at table after bytes tokens f (Err OutOfMemory) are is formed = tt

pub formed_said : (at : Place) (table after : Table) (bytes part : List ℕ) (tokens same : List Token) (ws : List (List ℕ)) (found : Option Form) (f : Form) (answer : Result Said (Failure LineCause)) → part ≡ worded bytes → AreTokens part tokens → ws ≡ words part → found ≡ form_at at ws → found ≡ Some f → same ≡ tokens → OnAnswer (λ r. IsFormed table bytes same f r after) answer → OnAnswer (λ r. IsSaid at table bytes r after) answer
formed_said at table after bytes part tokens same ws found f answer w are s e is t formed =
    let here : AreTokens (worded bytes) same = subst (λ (x : List Token). AreTokens (worded bytes) x) (sym t) (subst (λ (x : List ℕ). AreTokens x tokens) w are) in
    formed_here at table after bytes same f answer here (ap (form_at at) (sym (s ∙ ap words w)) ∙ sym e ∙ is) formed

pub refused_said : {A : Type 0} (at : Place) (table : Table) (bytes part : List ℕ) (answer : Result A (Failure LexRefusal)) (failure : Failure LexRefusal) (f g : LexRefusal) (c : LineCause) → part ≡ worded bytes → IfSome (refusal_of answer) (λ x. RefusesText x part) → answer ≡ Err failure → failure ≡ Refused f → g ≡ f → c ≡ cause_of g → IsSaid at table bytes (Err c) table
refused_said at table bytes part answer failure f g c w fault was is same from =
    let here : RefusesText f part = subst (λ a. IfSome (refusal_of a) (λ x. RefusesText x part)) (was ∙ ap Err is) fault in
    subst (λ (x : LineCause). IsSaid at table bytes (Err x) table) (sym (from ∙ ap cause_of same)) (without_class f (subst (RefusesText f) w here))

pub no_note_said : (table : Table) (bytes : List ℕ) (tokens : List Token) (answer : Result Task (Failure LineCause)) (failure : Failure LineCause) → Gives (λ unit. unit) answer (feedback_of bytes) → answer ≡ Err failure → OnAnswer (λ r. IsFormed table bytes tokens form.Feedback r table) (Err failure)
no_note_said table bytes tokens answer (Refused c) gives is =
    no_note c (subst (λ (a : Result Task (Failure LineCause)). Gives (λ unit. unit) a (feedback_of bytes)) is gives)
no_note_said table bytes tokens answer OutOfMemory gives is = tt

pub feedback_said : (table after : Table) (bytes part : List ℕ) (tokens : List Token) (ls : List Lexeme) (answer : Result Task (Failure LineCause)) (u : Task) → part ≡ worded bytes → Gives (λ unit. unit) answer (feedback_of bytes) → answer ≡ Ok u → lexemes_of part table tokens ≡ (ls, after) → IsFormed table bytes tokens form.Feedback (Ok (Does u)) after
feedback_said table after bytes part tokens ls answer u w gives is words =
    note_said table after bytes part tokens ls u w (subst (λ (a : Result Task (Failure LineCause)). Gives (λ unit. unit) a (feedback_of bytes)) is gives) words
