-- The words of a text, and the places at which they stand.
use Rattle.std.proofs.Common.{◌≡◌, ℕ, zero, suc, ◌+◌, ◌-◌, ◌<◌, ◌≤◌, ◌==◌, true, List, [], ◌∷◌, ◌++◌, length, take, drop, get_or, slice_range, refl, sym, ap, subst, ◌∙◌, ◌⊎◌, inl, inr, arith}
use Rattle.std.proofs.Math.Seq.{take-add}
use Rattle.std.proofs.lemmas.Bool.{cases_Bool, cases_lt, cases_order, eqb-true, not-false}
use Rattle.std.proofs.lemmas.List.{get_or-append-add, get_or_append_left, length-append, length-take, length-drop, take-append-drop, take-take}
use Rattle.std.proofs.lemmas.List.Elements.{All-nil, All-cons, All-head, All-tail, All-take}
use Rattle.std.specs.List.{All, position_or_len}
use Rattle.ps_text.specs.Words.{words, skipped, is_run_byte}
use Rattle.ps_text.specs.Tokens.{IsWordAt}
use Rattle.ps_text.proofs.Pieces.{first-yes, first-no}
use Rattle.ps_text.proofs.WordSteps.{is_other, words-blank, words-comment, words-alone, words-run, skipped-more}
use Rattle.ps_text.proofs.Counts.{count, count-is, count-parts, count-front, count-run, IsRun, kind_of}
use Rattle.ps_text.proofs.Counts.Kind.{blank, comment, alone, run}

-- ---- a word is one byte, or a run

abbrev pub IsWord : List ℕ → Type 0
IsWord w = (length w ≡ 1) ⊎ IsRun w

run-first : (bs : List ℕ) → IsRun (take (position_or_len is_other bs) bs)
run-first [] = All-nil (λ b. is_run_byte b ≡ true)
run-first (b ∷ bs) =
    elim (cases_Bool (is_other b)) [
      | inl stop ↦ subst (λ n. IsRun (take n (b ∷ bs))) (sym (first-yes is_other b bs stop)) (All-nil (λ b. is_run_byte b ≡ true))
      | inr on ↦ subst (λ n. IsRun (take n (b ∷ bs))) (sym (first-no is_other b bs on)) (All-cons (λ b. is_run_byte b ≡ true) b _ (not-false _ on) (run-first bs))
    ]

-- a run before words that are words is one of them
words_are-run : (b : ℕ) (bs : List ℕ) → is_run_byte b ≡ true → All IsWord (words bs) → All IsWord (words (b ∷ bs))
words_are-run b [] r all = subst (All IsWord) (sym (words-run b [] r)) (All-cons IsWord (b ∷ []) [] (inl refl) (All-nil IsWord))
words_are-run b (c ∷ cs) r all =
    elim (cases_Bool (is_run_byte c)) [
      | inl more ↦
          let head : IsWord (b ∷ take (position_or_len is_other (c ∷ cs)) (c ∷ cs)) = inr (All-cons (λ b. is_run_byte b ≡ true) b _ r (run-first (c ∷ cs))) in
          let rest : All IsWord (words (drop (position_or_len is_other (c ∷ cs)) (c ∷ cs))) =
          subst (λ n. All IsWord (words (drop n (c ∷ cs)))) (sym (first-no is_other c cs (rw more))) (All-tail IsWord _ _ (subst (All IsWord) (words-run c cs more) all)) in
          subst (All IsWord) (sym (words-run b (c ∷ cs) r)) (All-cons IsWord _ _ head rest)
      | inr last ↦
          let head : IsWord (b ∷ take (position_or_len is_other (c ∷ cs)) (c ∷ cs)) = inr (All-cons (λ b. is_run_byte b ≡ true) b _ r (run-first (c ∷ cs))) in
          let rest : All IsWord (words (drop (position_or_len is_other (c ∷ cs)) (c ∷ cs))) =
          subst (λ n. All IsWord (words (drop n (c ∷ cs)))) (sym (first-yes is_other c cs (rw last))) all in
          subst (All IsWord) (sym (words-run b (c ∷ cs) r)) (All-cons IsWord _ _ head rest)
    ]

mutual
  pub words_are : (bs : List ℕ) → All IsWord (words bs)
  words_are [] = All-nil IsWord
  words_are (b ∷ bs) =
      elim (kind_of b) [
        | blank h ↦ subst (All IsWord) (sym (words-blank b bs h)) (words_are bs)
        | comment h ↦ subst (All IsWord) (sym (words-comment b bs h)) (skipped_are bs)
        | alone h k r ↦ subst (All IsWord) (sym (words-alone b bs h k (rw r))) (All-cons IsWord (b ∷ []) (words bs) (inl refl) (words_are bs))
        | run r ↦ words_are-run b bs r (words_are bs)
      ]

  skipped_are : (bs : List ℕ) → All IsWord (skipped bs)
  skipped_are [] = All-nil IsWord
  skipped_are (b ∷ bs) =
      elim (cases_Bool (b == 10)) [
        | inl lf ↦ subst (λ x. All IsWord (skipped (x ∷ bs))) (sym (eqb-true b 10 lf)) (words_are bs)
        | inr other ↦ subst (All IsWord) (sym (skipped-more b bs other)) (skipped_are bs)
      ]

-- ---- a run that is cut

run_cut : (xs bs : List ℕ) (k n : ℕ) → 0 < k → k ≤ n → IsRun (take n bs) → count (xs ++ take k bs) ≡ count (xs ++ take n bs)
run_cut xs bs zero n some h all = absurd (omega arith)
run_cut xs bs (suc k) zero some h all = absurd (omega arith)
run_cut xs [] (suc k) (suc n) some h all = refl
run_cut xs (b ∷ bs) (suc k) (suc n) some h all =
    let r = All-head (λ b. is_run_byte b ≡ true) b (take n bs) all in
    let rest : IsRun (take n bs) = All-tail (λ b. is_run_byte b ≡ true) b (take n bs) all in
    let less : IsRun (take k bs) = subst IsRun (take-take k n bs (omega arith)) (All-take (λ b. is_run_byte b ≡ true) k (take n bs) rest) in
    count-run b (take k bs) r less xs ∙ sym (count-run b (take n bs) r rest xs)

-- ---- the number of a word

module _ (bytes : List ℕ) where
  -- how many words stand before a place
  abbrev pub number : ℕ → ℕ
  number from = count (take from bytes)

  module _ (from to : ℕ) (w : IsWordAt bytes from to) where
    abbrev word : List ℕ
    word = slice_range bytes from to

    pub count-word : count bytes ≡ suc (number from + count (drop to bytes))
    count-word =
        omega (
          arith,
          count-is bytes,
          count-is (take from bytes),
          count-is (drop to bytes),
          ap length w.parts,
          length-append (words (take from bytes)) (word ∷ words (drop to bytes)),
        )

    -- a word is the word of its number
    pub word-is : (d : List ℕ) → get_or (words bytes) (number from) d ≡ word
    word-is d =
        ap (λ ws. get_or ws (number from) d) w.parts
        ∙ ap (λ n. get_or (words (take from bytes) ++ word ∷ words (drop to bytes)) n d) (omega (arith, count-is (take from bytes)))
        ∙ get_or-append-add (words (take from bytes)) (word ∷ words (drop to bytes)) 0 d

    word-word : IsWord word
    word-word = subst IsWord (word-is []) (words_are bytes (number from) [] (omega (arith, count-is bytes, count-word)))

    -- a word makes the number of its end larger
    past-word : number from < number to
    past-word = omega (arith, count-word, count-parts (take to bytes) (drop to bytes), ap count (take-append-drop to bytes))

    long-word : length word ≡ to - from
    long-word = (let h = w.within in let k = w.longer in omega (arith, length-take (to - from) (drop from bytes), length-drop from bytes))

  number-split : (from at : ℕ) → from ≤ at → count (take from bytes ++ take (at - from) (drop from bytes)) ≡ number at
  number-split from at h = sym (ap count (ap (λ n. take n bytes) (omega arith) ∙ take-add from (at - from) bytes))

  -- a word makes the number of each later place larger
  pub risen : (from to at : ℕ) → IsWordAt bytes from to → from < at → number from < number at
  risen from to at w later =
      let past = past-word from to w in
      elim (cases_lt at to) [
        | inl inside ↦
            elim (word-word from to w) [
              | inl one ↦ absurd (omega (arith, long-word from to w))
              | inr runs ↦
                  let cut = run_cut (take from bytes) (drop from bytes) (at - from) (to - from) (omega arith) (omega arith) runs in
                  omega (arith, cut, past, number-split from at (omega arith), number-split from to (omega arith))
            ]
        | inr after ↦ omega (arith, past, count-front (take to bytes) (take (at - to) (drop to bytes)), number-split to at after)
      ]

  -- words with one number stand at one place
  pub same_place : (from to other end : ℕ) → IsWordAt bytes from to → IsWordAt bytes other end → number from ≡ number other → from ≡ other
  same_place from to other end w v e =
      elim (cases_order from other) [
        | inl same ↦ same
        | inr apart ↦ elim apart [
          | inl before ↦ absurd (omega (arith, risen from to other w before))
          | inr after ↦ absurd (omega (arith, risen other end from v after))
        ]
      ]

  -- words at one place end at one place
  pub same_end : (from to end : ℕ) → IsWordAt bytes from to → IsWordAt bytes from end → to ≡ end
  same_end from to end w v =
      let same : slice_range bytes from to ≡ slice_range bytes from end = sym (word-is from to w []) ∙ word-is from end v [] in
      let h = w.longer in
      let k = v.longer in
      omega (arith, ap length same, long-word from to w, long-word from end v)

  -- a word that stands before a place is one of the words up to there
  pub word_before : (from to other end : ℕ) (d : List ℕ) → IsWordAt bytes from to → IsWordAt bytes other end → number from < number other → get_or (words (take other bytes)) (number from) d ≡ slice_range bytes from to
  word_before from to other end d w v h =
      sym (get_or_append_left (words (take other bytes)) (slice_range bytes other end ∷ words (drop end bytes)) d (number from) (omega (arith, count-is (take other bytes))))
      ∙ ap (λ ws. get_or ws (number from) d) (sym v.parts)
      ∙ word-is from to w d
