-- What a token of a class that most have is as a word.
use Rattle.std.proofs.Common.{◌≡◌, List, ℕ, pos, slice_range, refl}
use Rattle.ps_world.specs.Names.{Table, object}
use Rattle.ps_world.specs.declared.names.Name.{Name}
use Rattle.ps_text.specs.declared.lexing.Class.TheVariants as class
use Rattle.ps_text.specs.declared.lexing.Token.{Token}
use Rattle.ps_grammar.specs.declared.marks.Mark.{Mark}
use Rattle.ps_grammar.specs.declared.marks.Mark.TheVariants as mark
use Rattle.ps_lists.specs.Lexemes.{IsTokenOf, lexeme_of, mark_of, name_within, named, number_or_zero, numbered, table_after}
use Rattle.ps_lists.specs.declared.lexemes.Lexeme.{Lexeme}
use Rattle.ps_lists.proofs.ClassNumbers.{zero-other}

module _ (bytes : List ℕ) (t : Table) (token : Token) (is : IsTokenOf bytes token) where
  none_read : (token.class ≡ class.Number → ⊥) → number_or_zero (slice_range bytes token.from token.to) ≡ pos 0
  none_read other = zero-other (slice_range bytes token.from token.to) token.class is.class other

  pub open_lexeme : (l : Lexeme) → l ≡ record { mark = mark.Open; name = object; number = pos 0; at = token.from } → token.class ≡ class.LeftParen → l ≡ lexeme_of bytes t token
  open_lexeme l e c =
      let zero = none_read (λ n. absurd (cc)) in
      rw (e, zero, c) refl

  pub close_lexeme : (l : Lexeme) → l ≡ record { mark = mark.Close; name = object; number = pos 0; at = token.from } → token.class ≡ class.RightParen → l ≡ lexeme_of bytes t token
  close_lexeme l e c =
      let zero = none_read (λ n. absurd (cc)) in
      rw (e, zero, c) refl

  pub open_table : token.class ≡ class.LeftParen → t ≡ table_after bytes t token
  open_table c = rw c refl

  pub close_table : token.class ≡ class.RightParen → t ≡ table_after bytes t token
  close_table c = rw c refl

  pub name_lexeme : (m : Mark) (n : Name) → token.class ≡ class.Name → m ≡ mark_of class.Name (slice_range bytes token.from token.to) → n ≡ numbered t (name_within class.Name (slice_range bytes token.from token.to)) → record { mark = m; name = n; number = pos 0; at = token.from } ≡ lexeme_of bytes t token
  name_lexeme m n c of_m of_n =
      let zero = none_read (λ n. absurd (cc)) in
      rw (of_m, of_n, zero, c) refl

  pub variable_lexeme : (m : Mark) (n : Name) → token.class ≡ class.Variable → m ≡ mark_of class.Variable (slice_range bytes token.from token.to) → n ≡ numbered t (name_within class.Variable (slice_range bytes token.from token.to)) → record { mark = m; name = n; number = pos 0; at = token.from } ≡ lexeme_of bytes t token
  variable_lexeme m n c of_m of_n =
      let zero = none_read (λ n. absurd (cc)) in
      rw (of_m, of_n, zero, c) refl

  pub name_table : (u : Table) → token.class ≡ class.Name → u ≡ named t (name_within class.Name (slice_range bytes token.from token.to)) → u ≡ table_after bytes t token
  name_table u c e = rw (e, c) refl

  pub variable_table : (u : Table) → token.class ≡ class.Variable → u ≡ named t (name_within class.Variable (slice_range bytes token.from token.to)) → u ≡ table_after bytes t token
  variable_table u c e = rw (e, c) refl
