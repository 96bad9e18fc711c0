-- The words of a text, with the names of the table after them.
use Rattle.std.proofs.Common.{◌≡◌, ℕ, ◌<◌, Bool, true, false, not, Some, List, [], ◌∷◌, ◌++◌, codes, drop, length, slice_range, refl, sym, ap, ◌∙◌, subst}
use Rattle.std.specs.Bool.{if◌then◌else◌}
use Rattle.std.specs.List.{All}
use Rattle.std.proofs.lemmas.Bool.{and_parts, eqb-true}
use Rattle.std.proofs.lemmas.List.Elements.{All-head, All-tail}
use Rattle.std.proofs.lemmas.Option.{get_or_from_slice_get, slice_get_within}
use Rattle.ps_world.specs.Lines.{same_text}
use Rattle.ps_world.specs.Names.{Table, object, name_text}
use Rattle.ps_world.specs.Numbers.{IsCount}
use Rattle.ps_world.proofs.Optionals.{is_none-none}
use Rattle.ps_text.specs.Names.{folded, interned, name_fault, place_of, AreNames}
use Rattle.ps_text.specs.Tokens.{class_of, is_marked}
use Rattle.ps_text.specs.declared.lexing.Class.{Class}
use Rattle.ps_text.specs.declared.lexing.Class.TheVariants as class
use Rattle.ps_text.specs.declared.lexing.Token.{Token}
use Rattle.ps_text.proofs.Folds.{folded-folded, IsNameText-folded}
use Rattle.ps_text.proofs.Tables.{AreNames-interned, placed}
use Rattle.ps_grammar.specs.Marks.{is_name, is_term}
use Rattle.ps_grammar.specs.declared.marks.Mark.{Mark}
use Rattle.ps_grammar.specs.declared.marks.Mark.TheVariants as mark
use Rattle.ps_text.specs.Names.{Keeps}
use Rattle.ps_lists.specs.Lexemes.{fixed_names, keywords, lexemes_of, mark_in, mark_of, name_within, named, number_or_zero, numbered, signs, table_after, IsTokenOf}
use Rattle.ps_lists.specs.Nested.{Nested, Nesteds, word, group, none, more}
use Rattle.ps_lists.specs.Spelling.{Spells, SpellAll}
use Rattle.ps_lists.specs.Spelling.Spells.{plain, between}
use Rattle.ps_lists.specs.Spelling.SpellAll.{nothing, one_more}
use Rattle.ps_lists.specs.declared.lexemes.Lexeme.{Lexeme}
use Rattle.ps_text.proofs.Kept.{kept_along}
use Rattle.ps_lists.proofs.Kept.{kept_named}
use Rattle.ps_lists.proofs.TokenNames.{are_tokens_of, is_marked-class, is_name-class, is_name-variable}
use Rattle.ps_pddl.specs.Reading.{HasWords}
use Rattle.ps_pddl.proofs.CanonicalForms.{name_mark}
use Rattle.ps_pddl.proofs.Fits.{IsVariableName}
use Rattle.ps_pddl.proofs.NameMarks.{mark_in-all}
use Rattle.ps_pddl.proofs.SoundReadings.{number_counted}

-- ---- what is known of the words

-- a word's name stands in the table, and tells the word's mark; its number is within the limits
pub record IsTold (after : Table) (l : Lexeme) : Type 0 where
  pub below : l.name.0 < length after
  pub named : is_name l.mark ≡ true → l.mark ≡ name_mark after l.name
  pub variable : l.mark ≡ mark.Variable → IsVariableName after l.name
  pub counted : IsCount l.number

-- the same of each word
abbrev WordsTold : Table → List Lexeme → Type 0
WordsTold after [] = Unit {0}
WordsTold after (l ∷ ls) = IsTold after l × WordsTold after ls

-- the same of each word of nested lists
abbrev mutual
  pub AllTold : Table → Nested → Type 0
  AllTold after (word l) = IsTold after l
  AllTold after (group ts) = AreTold after ts

  pub AreTold : Table → Nesteds → Type 0
  AreTold after none = Unit {0}
  AreTold after (more t ts) = AllTold after t × AreTold after ts

-- ---- the tables

-- a table of names has a first
pub first_below : (table : Table) → AreNames table → 0 < length table
first_below table names = slice_get_within table 0 (codes "object") names.first

-- putting a word's name into a table of names leaves it one
pub named_names : (t : Table) (c : Class) (w : List ℕ) → class_of w ≡ Some c → AreNames t → AreNames (named t (name_within c w))
named_names t class.Name w e n = AreNames-interned t (folded w) n (IsNameText-folded w (is_none-none (name_fault w) (is_name-class w e)))
named_names t class.Variable w e n = AreNames-interned t (folded (drop 1 w)) n (IsNameText-folded (drop 1 w) (is_none-none (name_fault (drop 1 w)) (is_name-variable w e)))
named_names t class.LeftParen w e n = n
named_names t class.RightParen w e n = n
named_names t class.Sign w e n = n
named_names t class.Keyword w e n = n
named_names t class.Number w e n = n
named_names t class.Continuous w e n = n

tables_named : (bytes : List ℕ) (t : Table) (tokens : List Token) → All (IsTokenOf bytes) tokens → AreNames t → AreNames (lexemes_of bytes t tokens).1
tables_named bytes t [] h n = n
tables_named bytes t (token ∷ tokens) h n =
    let own = All-head (IsTokenOf bytes) token tokens h in
    tables_named bytes (table_after bytes t token) tokens (All-tail (IsTokenOf bytes) token tokens h) (named_names t token.class (slice_range bytes token.from token.to) own.class n)

pub tables_kept : (bytes : List ℕ) (t : Table) (tokens : List Token) → Keeps t (lexemes_of bytes t tokens).1
tables_kept bytes t [] = λ n lt. refl
tables_kept bytes t (token ∷ tokens) =
    kept_along t (table_after bytes t token) (lexemes_of bytes (table_after bytes t token) tokens).1 (kept_named t (name_within token.class (slice_range bytes token.from token.to))) (tables_kept bytes (table_after bytes t token) tokens)

-- ---- one word

not_both : (b : Bool) → not b ≡ true → b ≡ true → ⊥
not_both true h e = cc
not_both false h e = cc

name-is_term : (m : Mark) → is_name m ≡ true → is_term m ≡ true
name-is_term mark.Variable e = absurd (cc)
name-is_term m e = e

-- a word with no name has that of the first type
nameless : (final : Table) (m : Mark) (w : List ℕ) (at : ℕ) → AreNames final → not (is_term m) ≡ true → IsTold final (record { mark = m; name = object; number = number_or_zero w; at = at })
nameless final m w at names other = record {
  below = first_below final names;
  named = λ e. absurd (not_both (is_term m) other (name-is_term m e));
  variable = λ e. absurd (not_both (is_term m) other (ap is_term e));
  counted = number_counted w;
}

put_text : (t final : Table) (name : List ℕ) → Keeps (interned t name) final → name_text final (record { 0 = place_of t name }) ≡ name
put_text t final name keeps = get_or_from_slice_get final (place_of t name) name [] (placed t final name keeps)

no_variable : (w : List ℕ) → mark_of class.Name w ≡ mark.Variable → ⊥
no_variable w e =
    let here : is_name (mark_of class.Name w) ≡ true = mark_in-all is_name fixed_names mark.Name (folded w) refl refl in
    let there : is_name (mark_of class.Name w) ≡ false = ap is_name e in
    cc

no_name : (b : Bool) → is_name (if b then mark.Duration else mark.Variable) ≡ true → ⊥
no_name true e = cc
no_name false e = cc

-- a variable's word is its name after `?`
marked_folds : (w name : List ℕ) → is_marked 63 w ≡ true → name ≡ folded (drop 1 w) → folded (codes "?" ++ name) ≡ folded w
marked_folds [] name h e = absurd (cc)
marked_folds (b ∷ bs) name h e =
    let is : b ≡ 63 = eqb-true b 63 (and_parts _ _ h).0 in
    rw is (ap (λ xs. 63 ∷ xs) (ap folded e ∙ folded-folded bs))

told_word : (t final : Table) (c : Class) (w : List ℕ) (at : ℕ) → class_of w ≡ Some c → AreNames final → Keeps (named t (name_within c w)) final → IsTold final (record { mark = mark_of c w; name = numbered t (name_within c w); number = number_or_zero w; at = at })
told_word t final class.Name w at e names keeps =
    let here = put_text t final (folded w) keeps in
    record {
      below = slice_get_within final (place_of t (folded w)) (folded w) (placed t final (folded w) keeps);
      named = λ m. ap (λ x. mark_in fixed_names mark.Name x) (sym (ap folded here ∙ folded-folded w));
      variable = λ m. absurd (no_variable w m);
      counted = number_counted w;
    }
told_word t final class.Variable w at e names keeps =
    let name = folded (drop 1 w) in
    record {
      below = slice_get_within final (place_of t name) name (placed t final name keeps);
      named = λ m. absurd (no_name (same_text (folded w) (codes "?duration")) m);
      variable = λ m. ap (λ x. if same_text x (codes "?duration") then mark.Duration else mark.Variable) (marked_folds w (name_text final (record { 0 = place_of t name })) (is_marked-class w e) (put_text t final name keeps)) ∙ m;
      counted = number_counted w;
    }
told_word t final class.LeftParen w at e names keeps = nameless final mark.Open w at names refl
told_word t final class.RightParen w at e names keeps = nameless final mark.Close w at names refl
told_word t final class.Sign w at e names keeps = nameless final (mark_of class.Sign w) w at names (mark_in-all (λ m. not (is_term m)) signs mark.Minus w refl refl)
told_word t final class.Keyword w at e names keeps = nameless final (mark_of class.Keyword w) w at names (mark_in-all (λ m. not (is_term m)) keywords mark.Keyword (folded w) refl refl)
told_word t final class.Number w at e names keeps = nameless final mark.Number w at names refl
told_word t final class.Continuous w at e names keeps = nameless final mark.Continuous w at names refl

-- ---- all words

words_told : (bytes : List ℕ) (t : Table) (tokens : List Token) → All (IsTokenOf bytes) tokens → AreNames (lexemes_of bytes t tokens).1 → WordsTold (lexemes_of bytes t tokens).1 (lexemes_of bytes t tokens).0
words_told bytes t [] h names = tt
words_told bytes t (token ∷ tokens) h names =
    let next = table_after bytes t token in
    let final = (lexemes_of bytes next tokens).1 in
    let own = All-head (IsTokenOf bytes) token tokens h in (
      told_word t final token.class (slice_range bytes token.from token.to) token.from own.class names (tables_kept bytes next tokens),
      words_told bytes next tokens (All-tail (IsTokenOf bytes) token tokens h) names,
    )

first_told : (after : Table) (ls ms : List Lexeme) → WordsTold after (ls ++ ms) → WordsTold after ls
first_told after [] ms h = tt
first_told after (l ∷ ls) ms h = (h.0, first_told after ls ms h.1)

later_told : (after : Table) (ls ms : List Lexeme) → WordsTold after (ls ++ ms) → WordsTold after ms
later_told after [] ms h = h
later_told after (l ∷ ls) ms h = later_told after ls ms h.1

mutual
  one_told : (after : Table) (t : Nested) (ls : List Lexeme) → Spells t ls → WordsTold after ls → AllTold after t
  one_told after _ _ (plain l o c) h = h.0
  one_told after _ _ (between left right ts ls o c s) h = all_told after ts ls s (first_told after ls (right ∷ []) h.1)

  all_told : (after : Table) (ts : Nesteds) (ls : List Lexeme) → SpellAll ts ls → WordsTold after ls → AreTold after ts
  all_told after _ _ nothing h = tt
  all_told after _ _ (one_more t ts ls ms s r) h = (one_told after t ls s (first_told after ls ms h), all_told after ts ms r (later_told after ls ms h))

-- a text leaves a table of names one
pub names_after : (table : Table) (bytes : List ℕ) (ls : List Lexeme) (after : Table) → AreNames table → HasWords table bytes ls after → AreNames after
names_after table bytes ls after names words =
    subst AreNames (ap (λ x. x.1) words.words) (tables_named bytes table words.tokens (are_tokens_of bytes words.tokens words.are_tokens) names)

-- so the words of its nested lists are told
pub lists_told : (table : Table) (bytes : List ℕ) (ls : List Lexeme) (after : Table) (ts : Nesteds) → AreNames table → HasWords table bytes ls after → SpellAll ts ls → AreTold after ts
lists_told table bytes ls after ts names words spelt =
    let tokens = are_tokens_of bytes words.tokens words.are_tokens in
    all_told after ts ls spelt (subst (λ (x : List Lexeme × Table). WordsTold x.1 x.0) words.words (words_told bytes table words.tokens tokens (tables_named bytes table words.tokens tokens names)))
