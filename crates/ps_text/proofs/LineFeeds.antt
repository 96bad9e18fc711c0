-- The next LF, looked for by four bytes at a time.
use Rattle.std.proofs.Common.{◌≡◌, ℕ, ◌+◌, ◌≤◌, ◌==◌, Bool, true, false, not, ◌&&◌, List, [], ◌∷◌, length, drop, refl, sym, ap, ◌∙◌, arith}
use Rattle.std.specs.List.{position_or_len}
use Rattle.std.proofs.lemmas.Bool.{and_parts}
use Rattle.std.proofs.lemmas.List.{drop-drop, length-drop}
use Rattle.ps_text.specs.ScriptLines.{begins_with_four}
use Rattle.ps_text.proofs.Pieces.{first-no, is_lf}

other : (b : Bool) → not b ≡ true → b ≡ false
other false e = refl
other true e = absurd (cc)

-- after four such bytes the LF is as many places nearer
four-later : (bs : List ℕ) → begins_with_four bs ≡ true → position_or_len is_lf bs ≡ 4 + position_or_len is_lf (drop 4 bs)
four-later (a ∷ b ∷ c ∷ d ∷ bs) e =
    let parts = and_parts (not (a == 10) && not (b == 10)) (not (c == 10) && not (d == 10)) e in
    let front = and_parts (not (a == 10)) (not (b == 10)) parts.0 in
    let back = and_parts (not (c == 10)) (not (d == 10)) parts.1 in
    omega (
      arith,
      first-no is_lf a (b ∷ c ∷ d ∷ bs) (other (a == 10) front.0),
      first-no is_lf b (c ∷ d ∷ bs) (other (b == 10) front.1),
      first-no is_lf c (d ∷ bs) (other (c == 10) back.0),
      first-no is_lf d bs (other (d == 10) back.1),
    )
four-later [] e = absurd (cc)
four-later (a ∷ []) e = absurd (cc)
four-later (a ∷ b ∷ []) e = absurd (cc)
four-later (a ∷ b ∷ c ∷ []) e = absurd (cc)

four-there : (bs : List ℕ) → begins_with_four bs ≡ true → 4 ≤ length bs
four-there (a ∷ b ∷ c ∷ d ∷ bs) e = omega arith
four-there [] e = absurd (cc)
four-there (a ∷ []) e = absurd (cc)
four-there (a ∷ b ∷ []) e = absurd (cc)
four-there (a ∷ b ∷ c ∷ []) e = absurd (cc)

-- and from a place in a text on
pub four-on : (bytes rest : List ℕ) (at : ℕ) → rest ≡ drop at bytes → begins_with_four rest ≡ true → (at + 4 ≤ length bytes) × ((at + 4) + position_or_len is_lf (drop (at + 4) bytes) ≡ at + position_or_len is_lf (drop at bytes))
four-on bytes rest at r e =
    let here : begins_with_four (drop at bytes) ≡ true = ap begins_with_four (sym r) ∙ e in
    let on : position_or_len is_lf (drop 4 (drop at bytes)) ≡ position_or_len is_lf (drop (at + 4) bytes) = ap (position_or_len is_lf) (drop-drop 4 at bytes) in
    (omega (arith, four-there (drop at bytes) here, length-drop at bytes), omega (arith, four-later (drop at bytes) here, on))
