-- The words of a text, one token after another. The tokens that are left are kept the other way round, so that the next one is the last.
use Rattle.std.proofs.Common.{◌≡◌, ℕ, suc, List, [], ◌∷◌, ◌++◌, length, reverse, All, refl, sym, ◌∙◌, ap, subst, append-nil, append_assoc, arith}
use Rattle.std.proofs.lemmas.List.{reverse-reverse}
use Rattle.ps_world.specs.Names.{Table}
use Rattle.ps_text.specs.Names.{Keeps}
use Rattle.ps_text.specs.Tokens.{AreTokens}
use Rattle.ps_text.specs.declared.lexing.Token.{Token}
use Rattle.ps_text.proofs.Kept.{kept_along}
use Rattle.ps_lists.specs.Lexemes.{IsTokenOf, lexeme_of, lexemes_of, table_after}
use Rattle.ps_lists.specs.declared.lexemes.Lexeme.{Lexeme}
use Rattle.ps_lists.proofs.Kept.{kept_named}
use Rattle.ps_lists.proofs.Leftovers.{next_left}
use Rattle.ps_lists.proofs.TokenNames.{are_tokens_of}

-- the words so far and those of the tokens that are left, with the tables before and after them
pub record AreLexemes (bytes : List ℕ) (tokens : List Token) (start : Table) (left : List Token) (now : Table) (lexemes : List Lexeme) : Type 0 where
  pub words : (lexemes_of bytes start tokens).0 ≡ lexemes ++ (lexemes_of bytes now (reverse left)).0
  pub table : (lexemes_of bytes start tokens).1 ≡ (lexemes_of bytes now (reverse left)).1
  pub kept : Keeps start now
  pub marked : All (IsTokenOf bytes) (reverse left)

-- at the first token
pub first_lexemes : (bytes : List ℕ) (tokens left : List Token) (t : Table) → left ≡ reverse tokens → AreTokens bytes tokens → AreLexemes bytes tokens t left t []
first_lexemes bytes tokens left t e are =
    let same : tokens ≡ reverse left = sym (ap reverse e ∙ reverse-reverse tokens) in
    record {
      words = ap (λ xs. (lexemes_of bytes t xs).0) same;
      table = ap (λ xs. (lexemes_of bytes t xs).1) same;
      kept = λ n lt. refl;
      marked = subst (All (IsTokenOf bytes)) same (are_tokens_of bytes tokens are);
    }

-- at the end all are made
pub all_lexemes : (bytes : List ℕ) (tokens left : List Token) (start now : Table) (lexemes : List Lexeme) → length left ≡ 0 → AreLexemes bytes tokens start left now lexemes → lexemes_of bytes start tokens ≡ (lexemes, now)
all_lexemes bytes tokens [] start now lexemes none here =
    let words : (lexemes_of bytes start tokens).0 ≡ lexemes = here.words ∙ append-nil lexemes in
    let table : (lexemes_of bytes start tokens).1 ≡ now = here.table in
    rw (sym words, sym table) refl
all_lexemes bytes tokens (t ∷ left) start now lexemes none here = absurd (omega (arith, none))

module _ (bytes : List ℕ) (tokens : List Token) (start now : Table) (all left : List Token) (token : Token) (lexemes : List Lexeme) (e : all ≡ left ++ token ∷ []) (here : AreLexemes bytes tokens start all now lexemes) where
  next : reverse all ≡ token ∷ reverse left
  next = next_left all left token e

  marked : All (IsTokenOf bytes) (token ∷ reverse left)
  marked = subst (All (IsTokenOf bytes)) next here.marked

  pub token_next : IsTokenOf bytes token
  token_next = marked 0 token (omega arith)

  pub next_lexeme : (after : Table) (l : Lexeme) → l ≡ lexeme_of bytes now token → after ≡ table_after bytes now token → AreLexemes bytes tokens start left after (lexemes ++ l ∷ [])
  next_lexeme after l is-l is-after = record {
    words = here.words ∙ rw (next, is-l, is-after) (sym (append_assoc lexemes (lexeme_of bytes now token ∷ []) _));
    table = here.table ∙ rw (next, is-after);
    kept = kept_along start now after here.kept (rw is-after (kept_named now _));
    marked = λ k d lt. marked (suc k) d (omega (arith, lt));
  }
