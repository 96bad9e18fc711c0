-- The words of a text by its tokens.
use Rattle.std.proofs.Common.{◌≡◌, ℕ, zero, suc, ◌<◌, List, [], ◌∷◌, length, map, slice_index_or, slice_range, arith, ap, ◌∙◌}
use Rattle.ps_text.specs.Tokens.{AreTokens, span_of}
use Rattle.ps_text.specs.Words.{pieces, word_at, words}
use Rattle.ps_text.specs.declared.lexing.Token.{Token}

piece_there : (bytes : List ℕ) (tokens : List Token) (i : ℕ) (t : Token) → i < length tokens → t ≡ slice_index_or tokens i t → slice_range bytes t.from t.to ≡ word_at (pieces bytes (map span_of tokens)) i
piece_there bytes [] i t lt e = absurd (omega (arith, lt))
piece_there bytes (u ∷ ts) zero t lt e = ap (λ (x : Token). slice_range bytes x.from x.to) e
piece_there bytes (u ∷ ts) (suc i) t lt e = piece_there bytes ts i t (omega (arith, lt)) e

-- the token at a place is the word at that place
pub word_there : (bytes : List ℕ) (tokens : List Token) (i : ℕ) (t : Token) → AreTokens bytes tokens → i < length tokens → t ≡ slice_index_or tokens i t → slice_range bytes t.from t.to ≡ word_at (words bytes) i
word_there bytes tokens i t are lt e = piece_there bytes tokens i t lt e ∙ ap (λ ws. word_at ws i) are.marked
