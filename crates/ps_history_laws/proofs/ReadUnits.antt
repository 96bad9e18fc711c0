-- What a line of a member script says can be said, and the table after it keeps the names before it.
use Rattle.std.proofs.Common.{◌≡◌, ℕ, Bool, true, false, if◌then◌else◌, List, [], ◌∷◌, codes, drop, length, Option, None, Some, IfOk, Result, Ok, Err, refl, sym, ap, subst}
use Rattle.ps_world.specs.Names.{Table}
use Rattle.ps_world.specs.Tables.{IsOf}
use Rattle.ps_world.specs.declared.names.Name.{Name}
use Rattle.ps_world.proofs.Optionals.{is_none-none}
use Rattle.ps_machine.specs.Tables.{is_note}
use Rattle.ps_machine.specs.declared.inputs.Line.TheVariants.{Good}
use Rattle.ps_machine.specs.declared.inputs.LineCause.{LineCause}
use Rattle.ps_machine.specs.declared.inputs.LineCause.TheVariants.{Shape}
use Rattle.ps_machine.specs.declared.members.Unit.{Unit as Task}
use Rattle.ps_machine.specs.declared.members.Unit.TheVariants as unit
use Rattle.ps_text.specs.Names.{AreNames, Keeps, folded, interned, is_name, name_fault, place_of}
use Rattle.ps_text.specs.Tokens.{AreTokens}
use Rattle.ps_text.specs.Words.{words}
use Rattle.ps_text.specs.declared.lexing.Token.{Token}
use Rattle.ps_text.proofs.Folds.{IsNameText-folded}
use Rattle.ps_text.proofs.Kept.{kept_along, kept_interned}
use Rattle.ps_text.proofs.Tables.{AreNames-interned}
use Rattle.ps_grammar.specs.Shape.{Derives, IsShallowFrom}
use Rattle.ps_grammar.specs.declared.marks.Mark.{Mark}
use Rattle.ps_lists.specs.Lexemes.{lexemes_of, marks}
use Rattle.ps_lists.specs.Nested.{Nesteds}
use Rattle.ps_lists.specs.Places.{rest}
use Rattle.ps_lists.specs.Spelling.{SpellAll}
use Rattle.ps_lists.specs.declared.lexemes.Lexeme.{Lexeme}
use Rattle.ps_pddl.specs.Reading.{HasWords}
use Rattle.ps_pddl.proofs.ReadNames.{AreTold, first_below, lists_told, names_after, tables_kept}
use Rattle.ps_script.specs.Files.{first_run, without_end}
use Rattle.ps_script.specs.Judged.{IsJudged}
use Rattle.ps_script.specs.Scopes.{strays}
use Rattle.ps_script.proofs.Judgements.{fitting_parts}
use Rattle.ps_members.specs.Args.{pattern_of, places_of}
use Rattle.ps_members.specs.Feedback.{feedback_of, note_on, noted, number_on, percent_of}
use Rattle.ps_members.specs.Forms.{start_of}
use Rattle.ps_members.specs.Lines.{IsFormed, IsSaid, Says}
use Rattle.ps_members.specs.Lines.IsFormed.{misfit, meant, no_place, places, no_note, note}
use Rattle.ps_members.specs.Lines.IsSaid.{without_class, without_form, with_form}
use Rattle.ps_members.specs.Parts.{place_before, worded}
use Rattle.ps_members.specs.declared.forms.Form.{Form}
use Rattle.ps_members.specs.declared.forms.Form.TheVariants as form
use Rattle.ps_members.specs.declared.places.Place.{Place}
use Rattle.ps_members.specs.declared.places.Said.{Said}
use Rattle.ps_members.specs.declared.places.Said.TheVariants as says
use Rattle.ps_history_laws.specs.Inputs.{IsSayableLine, IsSayableUnit}
use Rattle.ps_history_laws.proofs.ReadGoals.{head_name, rest_told}
use Rattle.ps_history_laws.proofs.ReadLines.{form_said}

-- ---- the table after a line

-- a table of names after one whose names it keeps
pub record Follows (table after : Table) : Type 0 where
  pub names : AreNames after
  pub keeps : Keeps table after

pub same_table : (table : Table) → AreNames table → Follows table table
same_table table known = record { names = known; keeps = λ n lt. refl }

words_follow : (table after : Table) (bytes : List ℕ) (tokens : List Token) (ls : List Lexeme) → AreNames table → AreTokens bytes tokens → lexemes_of bytes table tokens ≡ (ls, after) → Follows table after
words_follow table after bytes tokens ls known are ws = record {
  names = names_after table bytes ls after known (record { tokens = tokens; are_tokens = are; words = ws });
  keeps = subst (Keeps table) (ap (λ (x : List Lexeme × Table). x.1) ws) (tables_kept bytes table tokens);
}

pub then_follow : (table middle after : Table) → Follows table middle → Follows middle after → Follows table after
then_follow table middle after x y = record { names = y.names; keeps = kept_along table middle after x.keeps y.keeps }

place_follows : (table : Table) (w : List ℕ) → AreNames table → is_name w ≡ true → Follows table (interned table (folded w))
place_follows table w known h = record {
  names = AreNames-interned table (folded w) known (IsNameText-folded w (is_none-none (name_fault w) h));
  keeps = kept_interned table (folded w);
}

places_follow : (table : Table) (ws : List (List ℕ)) → AreNames table → Follows table (places_of table ws).1
places_follow table [] known = same_table table known
places_follow table (w ∷ ws) known =
    let next : Table = interned table (folded w) in
    let n : Name = record { 0 = place_of table (folded w) } in
    let here : Bool → Option Name × Table = λ b. if b then (Some n, next) else (None, table) in
    let after : Bool → Table = λ b. (places_of (here b).1 ws).1 in
    let cases : (b : Bool) → is_name w ≡ b → Follows table (after b) = λ b. elim b as (λ b. is_name w ≡ b → Follows table (after b)) [
      | true ↦ λ e.
          let one = place_follows table w known e in
          then_follow table next (places_of next ws).1 one (places_follow next ws one.names)
      | false ↦ λ e. places_follow table ws known
    ] in
    cases (is_name w) refl

formed_follows : (table : Table) (bytes : List ℕ) (tokens : List Token) (after : Table) (f : Form) (r : Result Said LineCause) → AreNames table → AreTokens (worded bytes) tokens → IsFormed table bytes tokens f r after → Follows table after
formed_follows table bytes tokens _ _ _ known are (misfit f ls a at p ws judged) = same_table table known
formed_follows table bytes tokens _ _ _ known are (meant f ls after ts said p ws judged is) = words_follow table after (worded bytes) tokens ls known are ws
formed_follows table bytes tokens _ _ _ known are (no_place i e) = same_table table known
formed_follows table bytes tokens _ _ _ known are (places e) =
    let first : Follows table (interned table (codes "args")) = record {
      names = AreNames-interned table (codes "args") known (record { name = refl; lower_case = refl });
      keeps = kept_interned table (codes "args");
    } in
    then_follow table (interned table (codes "args")) (pattern_of table bytes).1 first (places_follow (interned table (codes "args")) (drop 1 (words bytes)) first.names)
formed_follows table bytes tokens _ _ _ known are (no_note c e) = same_table table known
formed_follows table bytes tokens _ _ _ known are (note u e) =
    words_follow table (lexemes_of (worded bytes) table tokens).1 (worded bytes) tokens (lexemes_of (worded bytes) table tokens).0 known are refl

pub said_follows : (at : Place) (table after : Table) (bytes : List ℕ) (r : Result Said LineCause) → AreNames table → IsSaid at table bytes r after → Follows table after
said_follows at table _ bytes _ known (without_class fault e) = same_table table known
said_follows at table _ bytes _ known (without_form tokens are e) = same_table table known
said_follows at table _ bytes _ known (with_form tokens f r after are is formed) = formed_follows table bytes tokens after f r known are formed

-- ---- what a line says

-- whoever is named is of the table, and a unit can be said
abbrev pub IsSayableSaid : Table → Said → Type 0
IsSayableSaid after (says.Performer name) = IsOf (length after) name
IsSayableSaid after (says.Observer name) = IsOf (length after) name
IsSayableSaid after (says.Unit u) = IsSayableUnit after u
IsSayableSaid after s = Unit {0}

says_said : (after : Table) → AreNames after → (f : Form) (ts : Nesteds) (ls : List Lexeme) (ms : List Mark) → SpellAll ts ls → ms ≡ marks ls → Derives (start_of f) ms → IsShallowFrom (start_of f) ms
    → strays [] ts ≡ None → AreTold after ts → (s : Said) → Says f ts s → IsSayableSaid after s
says_said after names form.Performer ts ls ms spelt m derived flat stays told s e =
    let first = first_below after names in
    subst (IsSayableSaid after) (sym e) (head_name after first (rest ts) (rest_told after first ts told))
says_said after names form.Observer ts ls ms spelt m derived flat stays told s e =
    let first = first_below after names in
    subst (IsSayableSaid after) (sym e) (head_name after first (rest ts) (rest_told after first ts told))
says_said after names form.Action ts ls ms spelt m derived flat stays told s e = subst (IsSayableSaid after) (sym e) tt
says_said after names form.Job ts ls ms spelt m derived flat stays told s e = subst (IsSayableSaid after) (sym e) tt
says_said after names form.When ts ls ms spelt m derived flat stays told s e = subst (IsSayableSaid after) (sym e) tt
says_said after names form.End ts ls ms spelt m derived flat stays told s e = subst (IsSayableSaid after) (sym e) tt
says_said after names form.Work ts ls ms spelt m derived flat stays told s e = subst (IsSayableSaid after) (sym e) tt
says_said after names form.FinishOk ts ls ms spelt m derived flat stays told s e = subst (IsSayableSaid after) (sym e) tt
says_said after names form.FinishFail ts ls ms spelt m derived flat stays told s e = subst (IsSayableSaid after) (sym e) tt
says_said after names (form.Edit f) ts ls ms spelt m derived flat stays told s e =
    subst (IsSayableSaid after) (sym e.2) (subst (λ x. IsSayableLine after (Good x)) e.1 (form_said after (first_below after names) f ts ls ms spelt m derived flat stays told))
says_said after names form.Args ts ls ms spelt m derived flat stays told s e = absurd e
says_said after names form.Feedback ts ls ms spelt m derived flat stays told s e = absurd e

by_note : (after : Table) (b : Bool) (n : ℕ) (text : List ℕ) (c : LineCause) → IfOk (if b then Ok (unit.Feedback n text) else Err c) (IsSayableUnit after)
by_note after true n text c = tt
by_note after false n text c = tt

noted_said : (after : Table) (bytes : List ℕ) (o : Option ℕ) → IfOk (noted bytes o) (IsSayableUnit after)
noted_said after bytes None = tt
noted_said after bytes (Some n) = by_note after (is_note (without_end (note_on bytes))) n (without_end (note_on bytes)) (Shape (place_before bytes (note_on bytes)))

feedback_said : (after : Table) (bytes : List ℕ) (u : Task) → feedback_of bytes ≡ Ok u → IsSayableUnit after u
feedback_said after bytes u e = subst (λ x. IfOk x (IsSayableUnit after)) e (noted_said after bytes (percent_of (first_run (number_on bytes))))

judged_said : (table after : Table) (part : List ℕ) (tokens : List Token) (f : Form) (ls : List Lexeme) (r : Result Nesteds ℕ) → AreNames table → AreTokens part tokens → lexemes_of part table tokens ≡ (ls, after) → IsJudged (start_of f) part tokens ls r
    → (s : Said) → IfOk r (λ ts. Says f ts s → IsSayableSaid after s)
judged_said table after part tokens f ls (Err at) known are ws judged s = tt
judged_said table after part tokens f ls (Ok ts) known are ws judged s =
    let has : HasWords table part ls after = record { tokens = tokens; are_tokens = are; words = ws } in
    let fits = fitting_parts (start_of f) part tokens ls (Ok ts) judged in
    says_said after (names_after table part ls after known has) f ts ls (marks ls) fits.spelt refl fits.derived fits.shallow fits.in_scope (lists_told table part ls after ts known has fits.spelt) s

formed_said : (table : Table) (bytes : List ℕ) (tokens : List Token) (after : Table) (f : Form) (r : Result Said LineCause) → AreNames table → AreTokens (worded bytes) tokens → IsFormed table bytes tokens f r after → IfOk r (IsSayableSaid after)
formed_said table bytes tokens _ _ _ known are (misfit f ls a at p ws judged) = tt
formed_said table bytes tokens _ _ _ known are (meant f ls after ts said p ws judged is) = judged_said table after (worded bytes) tokens f ls (Ok ts) known are ws judged said is
formed_said table bytes tokens _ _ _ known are (no_place i e) = tt
formed_said table bytes tokens _ _ _ known are (places e) = tt
formed_said table bytes tokens _ _ _ known are (no_note c e) = tt
formed_said table bytes tokens _ _ _ known are (note u e) = feedback_said (lexemes_of (worded bytes) table tokens).1 bytes u e

pub line_said : (at : Place) (table after : Table) (bytes : List ℕ) (r : Result Said LineCause) → AreNames table → IsSaid at table bytes r after → IfOk r (IsSayableSaid after)
line_said at table _ bytes _ known (without_class fault e) = tt
line_said at table _ bytes _ known (without_form tokens are e) = tt
line_said at table _ bytes _ known (with_form tokens f r after are is formed) = formed_said table bytes tokens after f r known are formed
