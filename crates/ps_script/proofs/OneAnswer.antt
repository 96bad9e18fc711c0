-- A line is read as one thing at most.
use Rattle.std.proofs.Common.{◌≡◌, ℕ, ◌⊎◌, inl, inr, if◌then◌else◌, List, length, Option, None, Some, Result, Ok, Err, refl, sym, ◌∙◌, ap, subst}
use Rattle.ps_world.specs.Names.{Table}
use Rattle.ps_machine.specs.declared.inputs.Command.{Command}
use Rattle.ps_machine.specs.declared.inputs.LineCause.TheVariants as cause
use Rattle.ps_machine.specs.declared.inputs.Line.TheVariants.{Good}
use Rattle.ps_text.specs.Tokens.{AreTokens, IsFirstFault}
use Rattle.ps_text.specs.Words.{words}
use Rattle.ps_text.specs.declared.lexing.LexRefusal.{LexRefusal}
use Rattle.ps_text.specs.declared.lexing.LexRefusal.TheVariants as lexing
use Rattle.ps_text.specs.declared.lexing.Token.{Token}
use Rattle.ps_text.proofs.OneLexing.{tokens_are_one, faults_are_one, tokens_are_faultless}
use Rattle.ps_grammar.specs.declared.symbols.Symbol.{Symbol}
use Rattle.ps_lists.specs.Lexemes.{lexemes_of}
use Rattle.ps_lists.specs.Nested.{Nesteds}
use Rattle.ps_lists.specs.declared.lexemes.Lexeme.{Lexeme}
use Rattle.ps_script.specs.Commands.{command_of}
use Rattle.ps_script.specs.Files.{after_run, file_in, is_run_plan, is_source}
use Rattle.ps_script.specs.Forms.{form_of, start_of}
use Rattle.ps_script.specs.Judged.{IsJudged}
use Rattle.ps_script.specs.Laws.{LinesAreReadAsOne}
use Rattle.ps_script.specs.Lines.{IsPlain, IsRead, bad, cause_of, is_nothing, with_run_plan}
use Rattle.ps_script.specs.Lines.IsRead.{nothing, source, source_nothing, run_plan, run_nothing, without_class, without_number, without_form, without_shape, good}
use Rattle.ps_script.specs.declared.forms.Form.{Form}
use Rattle.ps_script.specs.declared.reading.Read.{Read}
use Rattle.ps_script.specs.declared.reading.Read.TheVariants.{Nothing, Line, Source, RunPlan}
use Rattle.ps_script.proofs.Judgements.{judged_one}

-- ---- lines that say nothing or name a file

-- the answer where a file is named, or isn't
abbrev filed : Option (List ℕ) → (List ℕ → Read) → Table → Table → ℕ → Read × Table
filed (Some file) of after table n = (of file, after)
filed None of after table n = (bad (cause.Shape n), table)

-- the answer without a look at the words
abbrev early : Table → List ℕ → Option (Read × Table)
early table bytes =
    if is_nothing bytes then Some (Nothing, table)
    else (if is_source bytes then Some (filed (file_in (after_run bytes)) Source table table (length bytes))
    else (if is_run_plan bytes then Some (filed (file_in (after_run (after_run bytes))) RunPlan (with_run_plan table) table (length bytes))
    else None))

-- ---- other lines

-- the answer to a line of a form
data Formed (table : Table) (bytes : List ℕ) (tokens : List Token) (f : Form) : Read → Table → Type 0 where
  refused : (ls : List Lexeme) (after : Table) (at : ℕ) → lexemes_of bytes table tokens ≡ (ls, after) → IsJudged (start_of f) bytes tokens ls (Err at) → Formed table bytes tokens f (bad (cause.Shape at)) table
  meant : (ls : List Lexeme) (after : Table) (ts : Nesteds) (command : Command) → lexemes_of bytes table tokens ≡ (ls, after) → IsJudged (start_of f) bytes tokens ls (Ok ts) → command_of f ts ≡ command → Formed table bytes tokens f (Line (Good command)) after

-- the answer to a line with words
data Worded (table : Table) (bytes : List ℕ) : Read → Table → Type 0 where
  faulty : (at : ℕ) (fault : LexRefusal) → IsFirstFault bytes at fault → Worded table bytes (bad (cause_of fault)) table
  formless : (tokens : List Token) → AreTokens bytes tokens → form_of (words bytes) ≡ None → Worded table bytes (bad cause.Command) table
  formed : (tokens : List Token) (f : Form) (r : Read) (after : Table) → AreTokens bytes tokens → form_of (words bytes) ≡ Some f → Formed table bytes tokens f r after → Worded table bytes r after

-- two judgements of the words of a line are the same
pub words_one : (start : List Symbol) (table : Table) (bytes : List ℕ) (tokens : List Token) (ls ms : List Lexeme) (after other : Table) (r s : Result Nesteds ℕ) → lexemes_of bytes table tokens ≡ (ls, after) → lexemes_of bytes table tokens ≡ (ms, other) → IsJudged start bytes tokens ls r → IsJudged start bytes tokens ms s → (r ≡ s) × (after ≡ other)
words_one start table bytes tokens ls ms after other r s w v x y =
    let both = sym w ∙ v in
    (judged_one start bytes tokens ms r s (subst (λ (x : List Lexeme). IsJudged start bytes tokens x r) (ap (λ x. x.0) both) x) y, ap (λ x. x.1) both)

pub same_lists : (ts us : Nesteds) → ◌≡◌ {A = Result Nesteds ℕ} (Ok ts) (Ok us) → ts ≡ us
same_lists ts us e = cc

pub same_fault : (a b : ℕ) → ◌≡◌ {A = Result Nesteds ℕ} (Err a) (Err b) → a ≡ b
same_fault a b e = cc

formed_one : (table : Table) (bytes : List ℕ) (tokens : List Token) (f : Form) (r s : Read) (after other : Table) → Formed table bytes tokens f r after → Formed table bytes tokens f s other → (r ≡ s) × (after ≡ other)
formed_one table bytes tokens f _ _ _ _ (refused ls a i w x) (refused ms o k v y) =
    (ap (λ n. bad (cause.Shape n)) (same_fault i k (words_one (start_of f) table bytes tokens ls ms a o (Err i) (Err k) w v x y).0), refl)
formed_one table bytes tokens f _ _ _ _ (refused ls a i w x) (meant ms o us g v y n) =
    let none = (words_one (start_of f) table bytes tokens ls ms a o (Err i) (Ok us) w v x y).0 in
    absurd (cc)
formed_one table bytes tokens f _ _ _ _ (meant ls a ts c w x m) (refused ms o k v y) =
    let none = (words_one (start_of f) table bytes tokens ls ms a o (Ok ts) (Err k) w v x y).0 in
    absurd (cc)
formed_one table bytes tokens f _ _ _ _ (meant ls a ts c w x m) (meant ms o us g v y n) =
    let one = words_one (start_of f) table bytes tokens ls ms a o (Ok ts) (Ok us) w v x y in
    (ap (λ x. Line (Good x)) (sym m ∙ ap (command_of f) (same_lists ts us one.0) ∙ n), one.1)

pub one_form : (a b : Form) → ◌≡◌ {A = Option Form} (Some a) (Some b) → a ≡ b
one_form a b e = cc

worded_one : (table : Table) (bytes : List ℕ) (r s : Read) (after other : Table) → Worded table bytes r after → Worded table bytes s other → (r ≡ s) × (after ≡ other)
worded_one table bytes _ _ _ _ (faulty i f x) (faulty k g y) = (ap (λ x. bad (cause_of x)) (faults_are_one bytes i k f g x y).1, refl)
worded_one table bytes _ _ _ _ (faulty i f x) (formless ts y e) = absurd (tokens_are_faultless bytes i f ts x y)
worded_one table bytes _ _ _ _ (faulty i f x) (formed ts g s o y e z) = absurd (tokens_are_faultless bytes i f ts x y)
worded_one table bytes _ _ _ _ (formless ts y e) (faulty i f x) = absurd (tokens_are_faultless bytes i f ts x y)
worded_one table bytes _ _ _ _ (formless ts y e) (formless us z g) = (refl, refl)
worded_one table bytes _ _ _ _ (formless ts y e) (formed us g s o z h w) = absurd (cc)
worded_one table bytes _ _ _ _ (formed ts g s o y e z) (faulty i f x) = absurd (tokens_are_faultless bytes i f ts x y)
worded_one table bytes _ _ _ _ (formed ts g s o y e z) (formless us w h) = absurd (cc)
worded_one table bytes _ _ _ _ (formed ts f r a y e z) (formed us g s o w h v) =
    let tokens : ts ≡ us = tokens_are_one bytes ts us y w in
    let same : f ≡ g = one_form f g (sym e ∙ h) in
    let here : Formed table bytes us g r a = subst (λ (x : Form). Formed table bytes us x r a) same (subst (λ (x : List Token). Formed table bytes x f r a) tokens z) in
    formed_one table bytes us g r s a o here v

-- ---- all lines

plain_late : (table : Table) (bytes : List ℕ) → IsPlain bytes → early table bytes ≡ None
plain_late table bytes plain = rw (plain.something, plain.no_source, plain.no_plan) refl

abbrev Answered : Table → List ℕ → Read → Table → Type 0
Answered table bytes r after = (early table bytes ≡ Some (r, after)) ⊎ ((early table bytes ≡ None) × Worded table bytes r after)

answered : (table : Table) (bytes : List ℕ) (r : Read) (after : Table) → IsRead table bytes r after → Answered table bytes r after
answered table bytes _ _ (nothing e) = inl (rw e refl)
answered table bytes _ _ (source file e s f) = inl (rw (e, s, f) refl)
answered table bytes _ _ (source_nothing e s f) = inl (rw (e, s, f) refl)
answered table bytes _ _ (run_plan file e s p f) = inl (rw (e, s, p, f) refl)
answered table bytes _ _ (run_nothing e s p f) = inl (rw (e, s, p, f) refl)
answered table bytes _ _ (without_class at plain x) = inr (plain_late table bytes plain, faulty at (lexing.Bad at) x)
answered table bytes _ _ (without_number at plain x) = inr (plain_late table bytes plain, faulty at (lexing.Number at) x)
answered table bytes _ _ (without_form tokens plain x e) = inr (plain_late table bytes plain, formless tokens x e)
answered table bytes _ _ (without_shape f tokens ls after at is w x) =
    inr (plain_late table bytes is.plain, formed tokens f _ _ is.are_tokens is.form_is (refused ls after at w x))
answered table bytes _ _ (good f tokens ls after ts command is w x m) =
    inr (plain_late table bytes is.plain, formed tokens f _ _ is.are_tokens is.form_is (meant ls after ts command w x m))

abbrev here_or : Read × Table → Option (Read × Table) → Read × Table
here_or other None = other
here_or other (Some answer) = answer

one_pair : (r s : Read) (after other : Table) → ◌≡◌ {A = Option (Read × Table)} (Some (r, after)) (Some (s, other)) → (r ≡ s) × (after ≡ other)
one_pair r s after other e = (ap (λ o. (here_or (r, after) o).0) e, ap (λ o. (here_or (r, after) o).1) e)

answered_one : (table : Table) (bytes : List ℕ) (r s : Read) (after other : Table) → Answered table bytes r after → Answered table bytes s other → (r ≡ s) × (after ≡ other)
answered_one table bytes r s after other (inl x) (inl y) = one_pair r s after other (sym x ∙ y)
answered_one table bytes r s after other (inl x) (inr y) =
    let none : ◌≡◌ {A = Option (Read × Table)} None (Some (r, after)) = sym y.0 ∙ x in
    absurd (cc)
answered_one table bytes r s after other (inr x) (inl y) =
    let none : ◌≡◌ {A = Option (Read × Table)} None (Some (s, other)) = sym x.0 ∙ y in
    absurd (cc)
answered_one table bytes r s after other (inr x) (inr y) = worded_one table bytes r s after other x.1 y.1

pub lines_are_read_as_one : LinesAreReadAsOne
lines_are_read_as_one table bytes r s after other x y =
    answered_one table bytes r s after other (answered table bytes r after x) (answered table bytes s other y)
