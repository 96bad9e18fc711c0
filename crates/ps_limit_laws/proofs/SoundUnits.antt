-- What a line of a member script says is sound, and is a unit only where the job may have one more.
use Rattle.std.proofs.Common.{◌≡◌, ℕ, ◌+◌, ◌-◌, ◌*◌, ◌≤◌, nat_le, Bool, true, false, not, ◌&&◌, ◌||◌, if◌then◌else◌, List, [], ◌∷◌, codes, Option, None, Some, IfSome, IfOk, Result, Ok, Err, refl, sym, subst, arith}
use Rattle.std.specs.Char.{is_ascii_digit}
use Rattle.std.specs.Option.{option_and_then}
use Rattle.std.proofs.lemmas.Bool.{and_parts, not-true}
use Rattle.std.proofs.lemmas.Bool.Decides.{nat_tests}
use Rattle.ps_world.specs.Lines.{same_text}
use Rattle.ps_world.specs.Names.{Table}
use Rattle.ps_machine.specs.Tables.{is_note}
use Rattle.ps_machine.specs.declared.inputs.Line.TheVariants.{Good}
use Rattle.ps_machine.specs.declared.inputs.LineCause.{LineCause}
use Rattle.ps_machine.specs.declared.inputs.LineCause.TheVariants.{Shape}
use Rattle.ps_machine.specs.declared.members.Unit.{Unit as Task}
use Rattle.ps_machine.specs.declared.members.Unit.TheVariants as unit
use Rattle.ps_rules.specs.Sound.{IsScriptCond, IsSoundLine, IsSoundUnit}
use Rattle.ps_text.specs.Words.{words}
use Rattle.ps_text.specs.declared.lexing.Token.{Token}
use Rattle.ps_grammar.specs.Shape.{Derives, IsShallowFrom}
use Rattle.ps_grammar.specs.declared.marks.Mark.{Mark}
use Rattle.ps_lists.specs.Lexemes.{marks}
use Rattle.ps_lists.specs.Nested.{Nesteds}
use Rattle.ps_lists.specs.Spelling.{SpellAll}
use Rattle.ps_lists.specs.declared.lexemes.Lexeme.{Lexeme}
use Rattle.ps_script.specs.Files.{first_run, without_end}
use Rattle.ps_script.specs.Judged.{IsJudged}
use Rattle.ps_script.proofs.Judgements.{fitting_parts}
use Rattle.ps_members.specs.Feedback.{feedback_of, note_on, noted, number_on, percent_of}
use Rattle.ps_members.specs.Forms.{form_of, is_allowed, is_close, is_finished, is_unit, start_of}
use Rattle.ps_members.specs.Lines.{IsFormed, IsSaid, Says}
use Rattle.ps_members.specs.Lines.IsFormed.{misfit, meant, no_place, places, no_note, note}
use Rattle.ps_members.specs.Lines.IsSaid.{without_class, without_form, with_form}
use Rattle.ps_members.specs.Parts.{place_before, worded}
use Rattle.ps_members.specs.declared.forms.Form.{Form}
use Rattle.ps_members.specs.declared.forms.Form.TheVariants as form
use Rattle.ps_members.specs.declared.places.Place.{Place}
use Rattle.ps_members.specs.declared.places.Place.TheVariants.{Working}
use Rattle.ps_members.specs.declared.places.Said.{Said}
use Rattle.ps_members.specs.declared.places.Said.TheVariants as says
use Rattle.ps_limit_laws.proofs.SoundLines.{form_sound, goal_after_one}

-- ---- feedback

abbrev IsPercent : ℕ → Type 0
IsPercent n = n ≤ 100

at_most : (a b : ℕ) → nat_le a b ≡ true → a ≤ b
at_most a b e = grind (arith, nat_tests)

digit_few : (a : ℕ) → is_ascii_digit a ≡ true → a ≤ 57
digit_few a e = at_most a 57 (and_parts (nat_le 48 a) (nat_le a 57) e).1

tested : (b : Bool) (n : ℕ) → (b ≡ true → n ≤ 100) → IfSome (if b then Some n else None) IsPercent
tested true n h = h refl
tested false n h = tt

percent_few : (word : List ℕ) → IfSome (percent_of word) IsPercent
percent_few [] = tested (same_text [] (codes "100")) 100 (λ e. omega arith)
percent_few (a ∷ []) = tested (is_ascii_digit a) (a - 48) (λ e. let few = digit_few a e in omega (arith, few))
percent_few (a ∷ b ∷ []) =
    tested ((is_ascii_digit a && is_ascii_digit b) && nat_le 49 a) (10 * (a - 48) + (b - 48))
    (λ e. let digits = and_parts (is_ascii_digit a) (is_ascii_digit b) (and_parts (is_ascii_digit a && is_ascii_digit b) (nat_le 49 a) e).0 in
    let tens = digit_few a digits.0 in
    let ones = digit_few b digits.1 in
    omega (arith, tens, ones))
percent_few (a ∷ b ∷ c ∷ word) = tested (same_text (a ∷ b ∷ c ∷ word) (codes "100")) 100 (λ e. omega arith)

by_note : (b : Bool) (n : ℕ) (text : List ℕ) (c : LineCause) → n ≤ 100 → is_note text ≡ b → IfOk (if b then Ok (unit.Feedback n text) else Err c) IsSoundUnit
by_note true n text c few e = (few, e)
by_note false n text c few e = tt

noted_sound : (bytes : List ℕ) (o : Option ℕ) → IfSome o IsPercent → IfOk (noted bytes o) IsSoundUnit
noted_sound bytes None few = tt
noted_sound bytes (Some n) few =
    by_note (is_note (without_end (note_on bytes))) n (without_end (note_on bytes)) (Shape (place_before bytes (note_on bytes))) few refl

feedback_sound : (bytes : List ℕ) → IfOk (feedback_of bytes) IsSoundUnit
feedback_sound bytes = noted_sound bytes (percent_of (first_run (number_on bytes))) (percent_few (first_run (number_on bytes)))

-- ---- what a line of a form says

-- a condition or a unit that is said is sound
abbrev pub IsSoundSaid : Said → Type 0
IsSoundSaid (says.When c) = IsScriptCond c
IsSoundSaid (says.Unit u) = IsSoundUnit u
IsSoundSaid s = Unit {0}

-- what says a unit ends no job and no member
abbrev GoesOn : Form → Said → Type 0
GoesOn f (says.Unit u) = is_close f ≡ false
GoesOn f s = Unit {0}

abbrev IsRight : Form → Said → Type 0
IsRight f s = IsSoundSaid s × GoesOn f s

unit_right : (f : Form) (u : Task) → is_close f ≡ false → IsSoundUnit u → IsRight f (says.Unit u)
unit_right f u e sound = (sound, e)

says_right : (f : Form) (ts : Nesteds) (ls : List Lexeme) (ms : List Mark) → SpellAll ts ls → ms ≡ marks ls → Derives (start_of f) ms → IsShallowFrom (start_of f) ms → (s : Said) → Says f ts s → IsRight f s
says_right form.Performer ts ls ms spelt m derived flat s e = subst (IsRight form.Performer) (sym e) (tt, tt)
says_right form.Observer ts ls ms spelt m derived flat s e = subst (IsRight form.Observer) (sym e) (tt, tt)
says_right form.Action ts ls ms spelt m derived flat s e = subst (IsRight form.Action) (sym e) (tt, tt)
says_right form.Job ts ls ms spelt m derived flat s e = subst (IsRight form.Job) (sym e) (tt, tt)
says_right form.When ts ls ms spelt m derived flat s e = subst (IsRight form.When) (sym e) (goal_after_one ts ls ms spelt m derived flat, tt)
says_right form.End ts ls ms spelt m derived flat s e = subst (IsRight form.End) (sym e) (tt, tt)
says_right form.Work ts ls ms spelt m derived flat s e = subst (IsRight form.Work) (sym e) (tt, refl)
says_right form.FinishOk ts ls ms spelt m derived flat s e = subst (IsRight form.FinishOk) (sym e) (tt, refl)
says_right form.FinishFail ts ls ms spelt m derived flat s e = subst (IsRight form.FinishFail) (sym e) (tt, refl)
says_right (form.Edit f) ts ls ms spelt m derived flat s e =
    subst (IsRight (form.Edit f)) (sym e.2) (unit_right (form.Edit f) (unit.Edit e.0) refl (subst (λ x. IsSoundLine (Good x)) e.1 (form_sound f ts ls ms spelt m derived flat)))
says_right form.Args ts ls ms spelt m derived flat s e = absurd e
says_right form.Feedback ts ls ms spelt m derived flat s e = absurd e

feedback_right : (r : Result Task LineCause) (u : Task) → r ≡ Ok u → IfOk r IsSoundUnit → IsRight form.Feedback (says.Unit u)
feedback_right r u e sound = (subst (λ x. IfOk x IsSoundUnit) e sound, refl)

judged_right : (f : Form) (part : List ℕ) (tokens : List Token) (ls : List Lexeme) (r : Result Nesteds ℕ) → IsJudged (start_of f) part tokens ls r → (s : Said) → IfOk r (λ ts. Says f ts s → IsRight f s)
judged_right f part tokens ls (Err at) judged s = tt
judged_right f part tokens ls (Ok ts) judged s =
    let fits = fitting_parts (start_of f) part tokens ls (Ok ts) judged in
    says_right f ts ls (marks ls) fits.spelt refl fits.derived fits.shallow s

formed_right : (table : Table) (bytes : List ℕ) (tokens : List Token) (f : Form) (r : Result Said LineCause) (after : Table) → IsFormed table bytes tokens f r after → IfOk r (IsRight f)
formed_right table bytes tokens _ _ _ (misfit f ls after at p ws judged) = tt
formed_right table bytes tokens _ _ _ (meant f ls after ts said p ws judged is) = judged_right f (worded bytes) tokens ls (Ok ts) judged said is
formed_right table bytes tokens _ _ _ (no_place i e) = tt
formed_right table bytes tokens _ _ _ (places e) = (tt, tt)
formed_right table bytes tokens _ _ _ (no_note c e) = tt
formed_right table bytes tokens _ _ _ (note u e) = feedback_right (feedback_of bytes) u e (feedback_sound bytes)

-- ---- where a line may stand

-- a job has no unit after the one that ends it
abbrev pub HasRoom : Place → Said → Type 0
HasRoom (Working p units) (says.Unit u) = is_finished units ≡ false
HasRoom at s = Unit {0}

chosen : (b : Bool) (g f : Form) → (if b then Some g else None) ≡ Some f → (b ≡ true) × (g ≡ f)
chosen true g f e = (refl, cc)
chosen false g f e = absurd (cc)

allowed_in : (at : Place) (o : Option Form) (f : Form) → option_and_then (λ g. if is_allowed at g then Some g else None) o ≡ Some f → is_allowed at f ≡ true
allowed_in at None f e = absurd (cc)
allowed_in at (Some g) f e =
    let c = chosen (is_allowed at g) g f e in
    subst (λ x. is_allowed at x ≡ true) c.1 c.0

one_more : (a b c : Bool) → a ≡ false → (a || (b && not c)) ≡ true → c ≡ false
one_more true b c n e = absurd (cc)
one_more false b c n e = not-true c (and_parts b (not c) e).1

room_here : (at : Place) (f : Form) (s : Said) → is_allowed at f ≡ true → GoesOn f s → HasRoom at s
room_here (Working p units) f (says.Unit u) allowed goes = one_more (is_close f) (is_unit f) (is_finished units) goes allowed
room_here (Working p units) f _ allowed goes = tt
room_here _ f s allowed goes = tt

-- what is said here is sound, and has room
abbrev pub IsSoundHere : Place → Said → Type 0
IsSoundHere at s = IsSoundSaid s × HasRoom at s

here : (at : Place) (f : Form) (r : Result Said LineCause) → is_allowed at f ≡ true → IfOk r (IsRight f) → IfOk r (IsSoundHere at)
here at f (Ok s) allowed right = (right.0, room_here at f s allowed right.1)
here at f (Err c) allowed right = tt

pub said_sound : (at : Place) (table : Table) (bytes : List ℕ) (r : Result Said LineCause) (after : Table) → IsSaid at table bytes r after → IfOk r (IsSoundHere at)
said_sound at table bytes _ _ (without_class fault e) = tt
said_sound at table bytes _ _ (without_form tokens are e) = tt
said_sound at table bytes _ _ (with_form tokens f r after are is formed) =
    here at f r (allowed_in at (form_of (words (worded bytes))) f is) (formed_right table bytes tokens f r after formed)
