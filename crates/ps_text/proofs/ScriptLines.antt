-- The lines of a script, one after another.
use Rattle.std.proofs.Common.{◌≡◌, ◌≢◌, ℕ, zero, suc, ◌+◌, ◌-◌, ◌<◌, ◌≤◌, ◌==◌, true, false, List, [], ◌∷◌, if◌then◌else◌, length, take, drop, slice_range, get_or, refl, sym, ap, ◌∙◌, inl, inr, arith}
use Rattle.std.proofs.lemmas.Bool.{cases_Bool, cases_lt, eqb-true, true≢false}
use Rattle.std.proofs.lemmas.List.{length-drop, drop-drop, drop_all, get_or-drop, take_all}
use Rattle.std.specs.List.{position_or_len}
use Rattle.ps_world.specs.Lines.{lines_of, lengthened}
use Rattle.ps_text.specs.ScriptLines.{HasReturn, script_lines, without_returns}
use Rattle.ps_text.proofs.Pieces.{first-le, first-no, first-yes, is_lf, lines_of-first, lines_of-lf, lines_of-more}

-- a line without a CR at its end
abbrev pub chomped : List ℕ → List ℕ
chomped [] = []
chomped (b ∷ []) = if b == 13 then [] else b ∷ []
chomped (b ∷ c ∷ cs) = b ∷ chomped (c ∷ cs)

no_return : (b : ℕ) → (b == 10) ≡ true → (b == 13) ≡ false
no_return b h = rw (eqb-true b 10 h) refl

kept-lf : (b : ℕ) (bs : List ℕ) → (b == 10) ≡ true → without_returns (b ∷ bs) ≡ b ∷ without_returns bs
kept-lf b bs h = rw (no_return b h) refl

-- ---- up to an LF

-- one byte more before the bytes up to the first LF
script_more : (b : ℕ) (bs : List ℕ) (n : ℕ) → (b == 10) ≡ false → position_or_len is_lf bs ≡ n → n < length bs → script_lines bs ≡ chomped (take n bs) ∷ script_lines (drop (suc n) bs) → script_lines (b ∷ bs) ≡ chomped (take (suc n) (b ∷ bs)) ∷ script_lines (drop (suc n) bs)
script_more b [] n other here lt rest = absurd (omega arith)
script_more b (c ∷ cs) zero other here lt rest =
    elim (cases_Bool (c == 10)) [
      | inr plain ↦ absurd (omega (arith, sym (first-no is_lf c cs plain) ∙ here))
      | inl lf ↦
          elim (cases_Bool (b == 13)) [
            | inl cr ↦ rw (cr, lf) rest
            | inr plain ↦ rw plain (lines_of-more b (without_returns (c ∷ cs)) other ∙ ap (lengthened b) rest)
          ]
    ]
script_more b (c ∷ cs) (suc n) other here lt rest =
    elim (cases_Bool (c == 10)) [
      | inl lf ↦ absurd (omega (arith, sym (first-yes is_lf c cs lf) ∙ here))
      | inr plain ↦
          let stays : without_returns (b ∷ c ∷ cs) ≡ b ∷ without_returns (c ∷ cs) = rw plain (elim (cases_Bool (b == 13)) [ inl cr ↦ rw cr refl | inr it ↦ rw it refl ]) in
          ap lines_of stays ∙ lines_of-more b (without_returns (c ∷ cs)) other ∙ ap (lengthened b) rest
    ]

script_first : (xs : List ℕ) (n : ℕ) → position_or_len is_lf xs ≡ n → n < length xs → script_lines xs ≡ chomped (take n xs) ∷ script_lines (drop (suc n) xs)
script_first [] n e h = absurd (omega arith)
script_first (b ∷ bs) zero e h =
    elim (cases_Bool (b == 10)) [
      | inl lf ↦ ap lines_of (kept-lf b bs lf) ∙ lines_of-lf b (without_returns bs) lf
      | inr other ↦ absurd (omega (arith, sym (first-no is_lf b bs other) ∙ e))
    ]
script_first (b ∷ bs) (suc n) e h =
    elim (cases_Bool (b == 10)) [
      | inl lf ↦ absurd (omega (arith, sym (first-yes is_lf b bs lf) ∙ e))
      | inr other ↦
          let here : position_or_len is_lf bs ≡ n = omega (arith, sym (first-no is_lf b bs other) ∙ e) in
          script_more b bs n other here (omega arith) (script_first bs n here (omega arith))
    ]

-- ---- a last line

kept-all : (xs : List ℕ) → position_or_len is_lf xs ≡ length xs → without_returns xs ≡ xs
kept-all [] h = refl
kept-all (b ∷ []) h = elim (cases_Bool (b == 13)) [ inl cr ↦ rw cr refl | inr it ↦ rw it refl ]
kept-all (b ∷ c ∷ cs) h =
    elim (cases_Bool (b == 10)) [
      | inl lf ↦ absurd (omega (arith, sym (first-yes is_lf b (c ∷ cs) lf) ∙ h))
      | inr other ↦
          let rest : position_or_len is_lf (c ∷ cs) ≡ length (c ∷ cs) = omega (arith, sym (first-no is_lf b (c ∷ cs) other) ∙ h) in
          let more : without_returns (c ∷ cs) ≡ c ∷ cs = kept-all (c ∷ cs) rest in
          elim (cases_Bool (c == 10)) [
            | inl lf ↦ absurd (omega (arith, sym (first-yes is_lf c cs lf) ∙ rest))
            | inr plain ↦ rw plain (elim (cases_Bool (b == 13)) [ inl cr ↦ rw cr (ap (λ l. b ∷ l) more) | inr it ↦ rw it (ap (λ l. b ∷ l) more) ])
          ]
    ]

script_last : (xs : List ℕ) → position_or_len is_lf xs ≡ length xs → 0 < length xs → script_lines xs ≡ xs ∷ []
script_last xs h some =
    ap lines_of (kept-all xs h) ∙ lines_of-first xs (length xs) h some
    ∙ ap (λ l. l ∷ lines_of (drop (suc (length xs)) xs)) (take_all (length xs) xs (omega arith))
    ∙ ap (λ l. xs ∷ lines_of l) (drop_all (suc (length xs)) xs (omega arith))

-- ---- the line at a place, and the lines after it

chomped-return : (xs : List ℕ) (n : ℕ) → n < length xs → get_or xs n 0 ≡ 13 → chomped (take (suc n) xs) ≡ take n xs
chomped-return [] n lt h = absurd (omega arith)
chomped-return (b ∷ bs) zero lt h = rw h refl
chomped-return (b ∷ []) (suc n) lt h = absurd (omega arith)
chomped-return (b ∷ c ∷ cs) (suc n) lt h = ap (λ l. b ∷ l) (chomped-return (c ∷ cs) n (omega arith) h)

chomped-kept : (xs : List ℕ) (n : ℕ) → n < length xs → get_or xs n 0 ≢ 13 → chomped (take (suc n) xs) ≡ take (suc n) xs
chomped-kept [] n lt h = absurd (omega arith)
chomped-kept (b ∷ bs) zero lt h =
    elim (cases_Bool (b == 13)) [
      | inl cr ↦ absurd (h (eqb-true b 13 cr))
      | inr it ↦ rw it refl
    ]
chomped-kept (b ∷ []) (suc n) lt h = absurd (omega arith)
chomped-kept (b ∷ c ∷ cs) (suc n) lt h = ap (λ l. b ∷ l) (chomped-kept (c ∷ cs) n (omega arith) h)

module _ (bytes : List ℕ) (from lf to next : ℕ) (begins : from < length bytes) (found : lf ≡ from + position_or_len is_lf (drop from bytes)) (return : HasReturn bytes from lf → to ≡ lf - 1) (kept : (¬ (HasReturn bytes from lf)) → to ≡ lf) where
  chomped-piece : (n : ℕ) → lf ≡ from + n → lf < length bytes → chomped (take n (drop from bytes)) ≡ take (to - from) (drop from bytes)
  chomped-piece zero e lt =
      let same : to ≡ lf = kept (λ h. absurd (omega (arith, h.0))) in
      let none : to - from ≡ 0 = omega arith in
      rw none refl
  chomped-piece (suc n) e lt =
      let xs = drop from bytes in
      let within : n < length xs = omega (arith, length-drop from bytes) in
      let at : get_or xs n 0 ≡ get_or bytes (lf - 1) 0 = get_or-drop from bytes n 0 ∙ ap (λ k. get_or bytes k 0) (omega arith) in
      elim (cases_Bool (get_or bytes (lf - 1) 0 == 13)) [
        | inl cr ↦
            let is : get_or bytes (lf - 1) 0 ≡ 13 = eqb-true (get_or bytes (lf - 1) 0) 13 cr in
            let end : to ≡ lf - 1 = return (omega arith, lt, is) in
            let count : to - from ≡ n = omega arith in
            rw count (chomped-return xs n within (at ∙ is))
        | inr it ↦
            let other : get_or bytes (lf - 1) 0 ≢ 13 = (λ h. true≢false (sym (ap (λ k. k == 13) h) ∙ it)) in
            let end : to ≡ lf = kept (λ h. other h.2) in
            let count : to - from ≡ suc n = omega arith in
            rw count (chomped-kept xs n within (λ h. other (sym at ∙ h)))
      ]

  pub script_lines-step : from ≤ to → to ≤ lf → (lf < length bytes → next ≡ lf + 1) → (length bytes ≤ lf → next ≡ lf) → script_lines (drop from bytes) ≡ slice_range bytes from to ∷ script_lines (drop next bytes)
  script_lines-step low high less all =
      let xs = drop from bytes in
      let n = position_or_len is_lf xs in
      let long : length xs ≡ length bytes - from = length-drop from bytes in
      elim (cases_lt lf (length bytes)) [
        | inl lt ↦
            let rest : drop (suc n) xs ≡ drop next bytes = drop-drop (suc n) from bytes ∙ ap (λ k. drop k bytes) (omega (arith, less lt)) in
            script_first xs n refl (omega arith)
            ∙ ap (λ l. l ∷ script_lines (drop (suc n) xs)) (chomped-piece n found lt)
            ∙ ap (λ l. take (to - from) xs ∷ script_lines l) rest
        | inr le ↦
            let whole : n ≡ length xs = omega (arith, first-le is_lf xs) in
            let same : to ≡ lf = kept (λ h. absurd (omega (arith, h.1))) in
            let count : length xs ≤ to - from = omega arith in
            let none : drop next bytes ≡ [] = drop_all next bytes (omega (arith, all le)) in
            script_last xs whole (omega arith)
            ∙ ap (λ l. l ∷ []) (sym (take_all (to - from) xs count))
            ∙ ap (λ l. take (to - from) xs ∷ script_lines l) (sym none)
      ]
