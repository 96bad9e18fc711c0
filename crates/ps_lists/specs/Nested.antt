-- A domain's text as contracts see it: nested lists of words.
use Rattle.std.specs.Prelude.{◌≡◌, ℕ, suc, max, List, [], ◌∷◌, refl}
use Rattle.std.specs.Coded.{Coded}
use Rattle.std.proofs.Common.{ap}
use base.Stored.{Gv, gnil, gnum, gcons}
use Rattle.ps_lists.specs.contracts.lexemes.Lexeme.{the_row}
use Rattle.ps_lists.specs.declared.lexemes.Lexeme.{Lexeme}

-- a word, or what stands between two parentheses
mutual
  pub data Nested : Type 0 where
    word : Lexeme → Nested
    group : Nesteds → Nested

  pub data Nesteds : Type 0 where
    none : Nesteds
    more : Nested → Nesteds → Nesteds

-- a list, as a tree holds it
abbrev pub nesteds : List Nested → Nesteds
nesteds [] = none
nesteds (t ∷ ts) = more t (nesteds ts)

-- one more at the end of a list
abbrev pub followed : Nesteds → Nested → Nesteds
followed none u = more u none
followed (more t ts) u = more t (followed ts u)

-- how many levels of parentheses there are
abbrev mutual
  pub rank : Nested → ℕ
  rank (word l) = 0
  rank (group ts) = suc (ranks ts)

  pub ranks : Nesteds → ℕ
  ranks none = 0
  ranks (more t ts) = max (rank t) (ranks ts)

-- the code of a word
abbrev pub lexeme_code : Coded Lexeme
lexeme_code = the_row.coded

-- the code of nested lists
abbrev mutual
  pub code : Nested → Gv
  code (word l) = gcons (gnum 0) (lexeme_code.code l)
  code (group ts) = gcons (gnum 1) (codes_of ts)

  pub codes_of : Nesteds → Gv
  codes_of none = gnil
  codes_of (more t ts) = gcons (code t) (codes_of ts)

mutual
  pub code_one : (x y : Nested) → code x ≡ code y → x ≡ y
  code_one (word l) (word m) p = ap word (lexeme_code.inj l m (cc))
  code_one (group ts) (group us) p = ap group (codes_one ts us (cc))
  code_one x y p = absurd (cc)

  pub codes_one : (x y : Nesteds) → codes_of x ≡ codes_of y → x ≡ y
  codes_one none none p = refl
  codes_one (more t ts) (more u us) p =
      let first : t ≡ u = code_one t u (cc) in
      let rest : ts ≡ us = codes_one ts us (cc) in
      cc
  codes_one none (more u us) p = absurd (cc)
  codes_one (more t ts) none p = absurd (cc)

-- the same, with a proof that it tells them apart
abbrev pub nesteds_code : Coded Nesteds
nesteds_code = record { code = codes_of; inj = codes_one }
