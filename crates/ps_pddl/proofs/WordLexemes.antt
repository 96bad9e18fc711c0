-- What the words of a text are, each by itself, where their table keeps the names of another.
use Rattle.std.proofs.Common.{◌≡◌, ℕ, ◌<◌, true, Option, Some, List, [], ◌∷◌, map, length, get_or, slice_get, slice_range, refl, sym, ap, ◌∙◌, subst}
use Rattle.std.proofs.lemmas.List.Folds.{list_any_at}
use Rattle.std.proofs.lemmas.Option.{slice_get_within, slice_get-get_or, get_or_from_slice_get}
use Rattle.std.specs.List.{list_any}
use Rattle.ps_world.specs.Lines.{same_text}
use Rattle.ps_world.specs.Names.{Table, name_text}
use Rattle.ps_world.specs.declared.names.Name.{Name}
use Rattle.ps_world.proofs.Optionals.{is_none-none}
use Rattle.ps_world.proofs.SameTexts.{same_text-itself}
use Rattle.ps_text.specs.Names.{folded, interned, is_name, name_fault, place_of, AreNames}
use Rattle.ps_text.specs.Tokens.{class_of, span_of, AreTokens}
use Rattle.ps_text.specs.Words.{pieces, words}
use Rattle.ps_text.specs.declared.lexing.Class.{Class}
use Rattle.ps_text.specs.declared.lexing.Token.{Token}
use Rattle.ps_text.proofs.Folds.{IsNameText-folded}
use Rattle.ps_text.proofs.Tables.{AreNames-interned, interned-there, place_of-interned, place_of-within}
use Rattle.ps_text.specs.Names.{Keeps}
use Rattle.ps_lists.specs.Lexemes.{lexeme_of, lexemes_of, mark_of, name_within, number_or_zero, numbered, table_after}
use Rattle.ps_lists.specs.declared.lexemes.Lexeme.{Lexeme}
use Rattle.ps_text.proofs.Kept.{kept_along}
use Rattle.ps_lists.proofs.Kept.{kept_named}
use Rattle.ps_pddl.proofs.ReadNames.{named_names}

-- what a word is, wherever it stands: its mark, its number, and its name if that is one of these names
pub record IsLexemeOf (names : Table) (w : List ℕ) (l : Lexeme) : Type 0 where
  pub mark : (c : Class) → class_of w ≡ Some c → l.mark ≡ mark_of c w
  pub name : (c : Class) (n : Name) → class_of w ≡ Some c → n.0 < length names → name_within c w ≡ Some (name_text names n) → l.name ≡ n
  pub number : l.number ≡ number_or_zero w

-- the same of several words, one after another
pub data AreLexemes (names : Table) : List (List ℕ) → List Lexeme → Type 0 where
  no_words : AreLexemes names [] []
  more_words : (w : List ℕ) (ws : List (List ℕ)) (l : Lexeme) (ls : List Lexeme) → IsLexemeOf names w l → AreLexemes names ws ls → AreLexemes names (w ∷ ws) (l ∷ ls)

-- ---- names

-- a text's place in a table of names is the one where it stands
place_of-at : (t : Table) → AreNames t → (i : ℕ) (text : List ℕ) → slice_get t i ≡ Some text → place_of t text ≡ i
place_of-at t good i text e =
    let inside : i < length t = slice_get_within t i text e in
    let here : get_or t i [] ≡ text = get_or_from_slice_get t i text [] e in
    let there : list_any (same_text text) t ≡ true = list_any_at (same_text text) t i [] inside (rw here (same_text-itself text)) in
    let kept : interned t text ≡ t = interned-there t text there in
    let within : place_of t text < length t = subst (λ u. place_of t text < length u) kept (place_of-within t text) in
    let found : slice_get t (place_of t text) ≡ Some text = subst (λ u. slice_get u (place_of t text) ≡ Some text) kept (place_of-interned t text) in
    good.apart (place_of t text) i within inside (get_or_from_slice_get t (place_of t text) text [] found ∙ sym here)

-- a name keeps its number in a table that keeps its text
numbered-kept : (names t : Table) → AreNames t → Keeps names t → (n : Name) → n.0 < length names → numbered t (Some (name_text names n)) ≡ n
numbered-kept names t good keeps n h =
    let name : ℕ → Name = λ k. record { 0 = k } in
    ap name (place_of-at t good n.0 (name_text names n) (keeps n.0 h ∙ slice_get-get_or names n.0 [] h))

pub AreNames-name : (t : Table) (w : List ℕ) → is_name w ≡ true → AreNames t → AreNames (interned t (folded w))
AreNames-name t w h good = AreNames-interned t (folded w) good (IsNameText-folded w (is_none-none (name_fault w) h))

-- ---- the words of tokens

same_class : (o : Option Class) (a b : Class) → o ≡ Some a → o ≡ Some b → a ≡ b
same_class o a b p q = cc

module _ (names : Table) (bytes : List ℕ) where
  -- a token is what its word is
  IsLexemeOf-token : (t : Table) → AreNames t → Keeps names t → (x : Token) → class_of (slice_range bytes x.from x.to) ≡ Some x.class → IsLexemeOf names (slice_range bytes x.from x.to) (lexeme_of bytes t x)
  IsLexemeOf-token t good keeps x e =
      let w = slice_range bytes x.from x.to in
      record {
        mark = λ c is. ap (λ k. mark_of k w) (same_class (class_of w) x.class c e is);
        name = λ c n is h within. ap (λ k. numbered t (name_within k w)) (same_class (class_of w) x.class c e is) ∙ ap (numbered t) within ∙ numbered-kept names t good keeps n h;
        number = refl;
      }

  are_lexemes_from : (t : Table) → AreNames t → Keeps names t → (tokens : List Token) → map class_of (pieces bytes (map span_of tokens)) ≡ map (λ x. Some x.class) tokens → AreLexemes names (pieces bytes (map span_of tokens)) (lexemes_of bytes t tokens).0
  are_lexemes_from t good keeps [] e = no_words
  are_lexemes_from t good keeps (x ∷ tokens) e =
      let w : List ℕ = slice_range bytes x.from x.to in
      let first : class_of w ≡ Some x.class = cc in
      let others : map class_of (pieces bytes (map span_of tokens)) ≡ map (λ y. Some y.class) tokens = cc in
      let after = table_after bytes t x in
      let still : AreNames after = named_names t x.class w first good in
      let kept : Keeps names after = kept_along names t after keeps (kept_named t (name_within x.class w)) in
      more_words w (pieces bytes (map span_of tokens)) (lexeme_of bytes t x) (lexemes_of bytes after tokens).0 (IsLexemeOf-token t good keeps x first) (are_lexemes_from after still kept tokens others)

  -- the words of a text with tokens are what the tokens are
  pub are_lexemes : AreNames names → (tokens : List Token) → AreTokens bytes tokens → AreLexemes names (words bytes) (lexemes_of bytes names tokens).0
  are_lexemes good tokens are =
      subst (λ ws. AreLexemes names ws (lexemes_of bytes names tokens).0) are.marked
      (are_lexemes_from names good (λ n h. refl) tokens (ap (map class_of) are.marked ∙ are.classed))
