-- The words of a line, and the table of names after them.
use Rattle.std.proofs.Common.{◌≡◌, ℕ, ◌<◌, Option, Some, None, List, [], ◌∷◌, map, drop, length, slice_range, refl, sym, ap, ◌∙◌, subst}
use Rattle.std.proofs.lemmas.Option.{slice_get_within, slice_get-get_or, get_or_from_slice_get}
use Rattle.std.specs.Option.{option_and_then}
use Rattle.ps_world.specs.Names.{Table, name_text}
use Rattle.ps_world.specs.declared.names.Name.{Name}
use Rattle.ps_text.specs.Names.{AreNames, Keeps}
use Rattle.ps_text.specs.Tokens.{class_of, span_of, AreTokens}
use Rattle.ps_text.specs.Words.{pieces, words}
use Rattle.ps_text.specs.declared.lexing.Class.{Class}
use Rattle.ps_text.specs.declared.lexing.Class.TheVariants as class
use Rattle.ps_text.specs.declared.lexing.Token.{Token}
use Rattle.ps_text.proofs.Kept.{kept_along}
use Rattle.ps_lists.specs.Lexemes.{lexemes_of, name_within, named, table_after}
use Rattle.ps_lists.specs.declared.lexemes.Lexeme.{Lexeme}
use Rattle.ps_lists.proofs.Kept.{kept_named}
use Rattle.ps_lists.proofs.TokenNames.{is_name-class, is_name-variable}
use Rattle.ps_pddl.proofs.WordLexemes.{IsLexemeOf, AreLexemes, AreNames-name}
use Rattle.ps_pddl.proofs.WordLexemes.AreLexemes.{no_words, more_words}
use Rattle.ps_script_laws.specs.Laws.{WordNamesAreKept}
use Rattle.ps_script_laws.specs.WordNames.{with_words, word_name}

-- ---- the table after words

-- a table of names with a word's name is one
are_names_after : (t : Table) (w : List ℕ) (o : Option Class) → class_of w ≡ o → AreNames t → AreNames (named t (option_and_then (λ c. name_within c w) o))
are_names_after t w None e good = good
are_names_after t w (Some class.Name) e good = AreNames-name t w (is_name-class w e) good
are_names_after t w (Some class.Variable) e good = AreNames-name t (drop 1 w) (is_name-variable w e) good
are_names_after t w (Some class.LeftParen) e good = good
are_names_after t w (Some class.RightParen) e good = good
are_names_after t w (Some class.Sign) e good = good
are_names_after t w (Some class.Keyword) e good = good
are_names_after t w (Some class.Number) e good = good
are_names_after t w (Some class.Continuous) e good = good

pub word_names_are_kept : WordNamesAreKept
word_names_are_kept table [] good = (good, λ n h. refl)
word_names_are_kept table (w ∷ ws) good =
    let more = word_names_are_kept (named table (word_name w)) ws (are_names_after table w (class_of w) refl good) in
    (more.0, kept_along table (named table (word_name w)) (with_words (named table (word_name w)) ws) (kept_named table (word_name w)) more.1)

-- the table after tokens has the names of their words
after_tokens : (bytes : List ℕ) (t : Table) (tokens : List Token) → map class_of (pieces bytes (map span_of tokens)) ≡ map (λ x. Some x.class) tokens → (lexemes_of bytes t tokens).1 ≡ with_words t (pieces bytes (map span_of tokens))
after_tokens bytes t [] e = refl
after_tokens bytes t (x ∷ tokens) e =
    let w : List ℕ = slice_range bytes x.from x.to in
    let ws : List (List ℕ) = pieces bytes (map span_of tokens) in
    let first : class_of w ≡ Some x.class = cc in
    let others : map class_of ws ≡ map (λ y. Some y.class) tokens = cc in
    after_tokens bytes (table_after bytes t x) tokens others
    ∙ ap (λ o. with_words (named t (option_and_then (λ c. name_within c w) o)) ws) (sym first)

-- so has the table after a text
pub after_text : (bytes : List ℕ) (t : Table) (tokens : List Token) → AreTokens bytes tokens → (lexemes_of bytes t tokens).1 ≡ with_words t (words bytes)
after_text bytes t tokens are =
    subst (λ ws. (lexemes_of bytes t tokens).1 ≡ with_words t ws) are.marked
    (after_tokens bytes t tokens (ap (map class_of) are.marked ∙ are.classed))

-- ---- words that were printed with fewer names

module _ (names table : Table) (keeps : Keeps names table) where
  within_kept : (n : Name) → n.0 < length names → n.0 < length table
  within_kept n h = slice_get_within table n.0 (name_text names n) (keeps n.0 h ∙ slice_get-get_or names n.0 [] h)

  text_kept : (n : Name) → n.0 < length names → name_text table n ≡ name_text names n
  text_kept n h = get_or_from_slice_get table n.0 (name_text names n) [] (keeps n.0 h ∙ slice_get-get_or names n.0 [] h)

  lexeme_kept : (w : List ℕ) (l : Lexeme) → IsLexemeOf table w l → IsLexemeOf names w l
  lexeme_kept w l is =
      record {
        mark = is.mark;
        name = λ c n e h within. is.name c n e (within_kept n h) (within ∙ ap Some (sym (text_kept n h)));
        number = is.number;
      }

  -- words are what they are with fewer names
  pub lexemes_kept : (ws : List (List ℕ)) (ls : List Lexeme) → AreLexemes table ws ls → AreLexemes names ws ls
  lexemes_kept _ _ no_words = no_words
  lexemes_kept _ _ (more_words w ws l ls is rest) = more_words w ws l ls (lexeme_kept w l is) (lexemes_kept ws ls rest)
