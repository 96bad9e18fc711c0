-- The text of a name is one line.
use Rattle.std.proofs.Common.{◌≡◌, ℕ, ◌+◌, ◌≤◌, ◌==◌, suc, Bool, true, false, not, Some, None, List, [], ◌∷◌, length, position, cond, refl, subst, slice_index_or, arith}
use Rattle.std.specs.List.{position_or_len}
use Rattle.std.proofs.lemmas.Bool.{eqb-true}
use Rattle.ps_world.specs.Names.{Table}
use Rattle.ps_world.specs.Lines.{is_line}
use Rattle.ps_world.specs.Lines.{AreLines}
use Rattle.ps_text.specs.Names.{is_letter, is_name_byte, bad_place, name_fault, AreNames}
use Rattle.ps_text.proofs.NameRuns.{no_position-by, no_bad_place}

-- a byte that no name has
abbrev is_other : ℕ → Bool
is_other c = not (is_name_byte c)

-- a name byte is no LF
no_end-by : (b : ℕ) (e : Bool) → (b == 10) ≡ e → is_name_byte b ≡ true → e ≡ false
no_end-by b true e h = absurd (let ten : b ≡ 10 = eqb-true b 10 e in let h' : is_name_byte 10 ≡ true = subst (λ x. is_name_byte x ≡ true) ten h in cc)
no_end-by b false e h = refl

is_line-cons : (b : ℕ) (bs : List ℕ) (e : Bool) → is_name_byte b ≡ e → (length bs ≤ position_or_len is_other bs → is_line bs ≡ true) → suc (length bs) ≤ cond (not (not e)) (1 + position_or_len is_other bs) 0 → is_line (b ∷ bs) ≡ true
is_line-cons b bs true e more h = rw (no_end-by b (b == 10) refl e, more (omega arith)) refl
is_line-cons b bs false e more h = absurd (omega arith)

-- where no byte is other than a name byte, no LF stands
is_line-all : (bs : List ℕ) → length bs ≤ position_or_len is_other bs → is_line bs ≡ true
is_line-all [] h = refl
is_line-all (b ∷ bs) h = is_line-cons b bs (is_name_byte b) refl (is_line-all bs) h

is_line-begun : (bs : List ℕ) (e : Bool) → cond e (position is_other bs) (Some 0) ≡ None → is_line bs ≡ true
is_line-begun bs true h = is_line-all bs (no_position-by (length bs) (position_or_len is_other bs) _ refl h)
is_line-begun bs false h = absurd (cc)

-- the text of a name is one line
is_line-name : (text : List ℕ) → name_fault text ≡ None → is_line text ≡ true
is_line-name [] h = refl
is_line-name (b ∷ bs) h = is_line-begun (b ∷ bs) (is_letter b) (no_bad_place (bad_place (b ∷ bs)) (length (b ∷ bs)) h)

-- a table of names has just lines
pub AreLines-names : (names : Table) → AreNames names → AreLines names
AreLines-names names h = λ k d lt. is_line-name (slice_index_or names k d) (h.texts k d lt).name
