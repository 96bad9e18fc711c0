-- How many words a text has, by its parts.
use Rattle.std.proofs.Common.{◌≡◌, ℕ, suc, ◌+◌, ◌<◌, ◌≤◌, ◌==◌, true, false, ◌||◌, List, [], ◌∷◌, ◌++◌, length, refl, sym, ap, ◌∙◌, inl, inr, arith}
use Rattle.std.proofs.lemmas.Bool.{cases_Bool, eqb-true, or_parts, and_from, and_left, and_right}
use Rattle.std.proofs.lemmas.List.Elements.{All-head, All-tail}
use Rattle.std.specs.List.{All}
use Rattle.ps_world.specs.Lines.{lengthened}
use Rattle.ps_text.specs.Words.{words, skipped, goes_on, is_blank, is_paren, is_run_byte}
use Rattle.ps_text.proofs.WordSteps.{words-blank, words-comment, words-alone, words-longer, words-run, skipped-more, run_parts}

-- how many words a text has
pub count : List ℕ → ℕ
count bs = length (words bs)

-- how many words stand after the rest of a comment
pub rest_count : List ℕ → ℕ
rest_count bs = length (skipped bs)

pub count-is : (bs : List ℕ) → count bs ≡ length (words bs)
unfolding count
count-is bs = refl

count-none : count [] ≡ 0
unfolding count
count-none = refl

rest-none : rest_count [] ≡ 0
unfolding rest_count
rest-none = refl

-- ---- the first byte

-- what a byte is between words
pub data Kind (b : ℕ) : Type 0 where
  blank : is_blank b ≡ true → Kind b
  comment : (b == 59) ≡ true → Kind b
  alone : is_blank b ≡ false → (b == 59) ≡ false → is_run_byte b ≡ false → Kind b
  run : is_run_byte b ≡ true → Kind b

pub kind_of : (b : ℕ) → Kind b
kind_of b =
    elim (cases_Bool (is_run_byte b)) [
      | inl r ↦ run r
      | inr other ↦ elim (cases_Bool (is_blank b)) [
        | inl h ↦ blank h
        | inr black ↦ elim (cases_Bool (b == 59)) [
          | inl h ↦ comment h
          | inr none ↦ alone black none other
        ]
      ]
    ]

count-blank : (b : ℕ) (bs : List ℕ) → is_blank b ≡ true → count (b ∷ bs) ≡ count bs
unfolding count
count-blank b bs h = ap length (words-blank b bs h)

count-comment : (b : ℕ) (bs : List ℕ) → (b == 59) ≡ true → count (b ∷ bs) ≡ rest_count bs
unfolding count rest_count
count-comment b bs h = ap length (words-comment b bs h)

count-alone : (b : ℕ) (bs : List ℕ) → is_blank b ≡ false → (b == 59) ≡ false → is_run_byte b ≡ false → count (b ∷ bs) ≡ suc (count bs)
unfolding count
count-alone b bs black none other = ap length (words-alone b bs black none (and_left (is_run_byte b) (goes_on bs) other))

rest-lf : (b : ℕ) (bs : List ℕ) → (b == 10) ≡ true → rest_count (b ∷ bs) ≡ count bs
unfolding count rest_count
rest-lf b bs h = rw (eqb-true b 10 h)

rest-more : (b : ℕ) (bs : List ℕ) → (b == 10) ≡ false → rest_count (b ∷ bs) ≡ rest_count bs
unfolding rest_count
rest-more b bs h = ap length (skipped-more b bs h)

run-comment : (b : ℕ) → is_run_byte b ≡ true → (b == 59) ≡ false
run-comment b r = (or_parts (is_paren b) (b == 59) (run_parts b r).1).1

-- a run before no byte of a run is one more word
count-end : (b : ℕ) (bs : List ℕ) → is_run_byte b ≡ true → goes_on bs ≡ false → count (b ∷ bs) ≡ suc (count bs)
unfolding count
count-end b bs r e = ap length (words-alone b bs (run_parts b r).0 (run-comment b r) (and_right (is_run_byte b) (goes_on bs) e))

length-lengthened : (b : ℕ) (ws : List (List ℕ)) → 0 < length ws → length (lengthened b ws) ≡ length ws
length-lengthened b [] h = absurd (omega arith)
length-lengthened b (w ∷ ws) h = refl

-- a byte of a run before another is no more word
count-next : (b c : ℕ) (bs : List ℕ) → is_run_byte b ≡ true → is_run_byte c ≡ true → count (b ∷ c ∷ bs) ≡ count (c ∷ bs)
unfolding count
count-next b c bs r e =
    ap length (words-longer b (c ∷ bs) (run_parts b r).0 (run-comment b r) (and_from (is_run_byte b) (is_run_byte c) r e))
    ∙ length-lengthened b (words (c ∷ bs)) (omega (arith, ap length (words-run c bs e)))

-- a word begins with a byte of a run
count-some : (b : ℕ) (bs : List ℕ) → is_run_byte b ≡ true → 1 ≤ count (b ∷ bs)
unfolding count
count-some b bs r = omega (arith, ap length (words-run b bs r))

count-last : (b : ℕ) → is_run_byte b ≡ true → count (b ∷ []) ≡ 1
count-last b r = omega (arith, count-end b [] r refl, count-none)

-- a byte of a run is one more word at most
count-run_le : (b : ℕ) (bs : List ℕ) → is_run_byte b ≡ true → count (b ∷ bs) ≤ suc (count bs)
count-run_le b [] r = omega (arith, count-end b [] r refl)
count-run_le b (c ∷ cs) r =
    elim (cases_Bool (is_run_byte c)) [
      | inl more ↦ omega (arith, count-next b c cs r more)
      | inr last ↦ omega (arith, count-end b (c ∷ cs) r last)
    ]

-- ---- a byte before a text takes no word away

count-grows : (b : ℕ) (bs : List ℕ) → is_run_byte b ≡ true → count bs ≤ count (b ∷ bs)
count-grows b [] r = omega (arith, count-end b [] r refl)
count-grows b (c ∷ cs) r =
    elim (cases_Bool (is_run_byte c)) [
      | inl more ↦ omega (arith, count-next b c cs r more)
      | inr last ↦ omega (arith, count-end b (c ∷ cs) r last)
    ]

-- the rest of a comment has no more words than the same bytes elsewhere
rest-le : (bs : List ℕ) → rest_count bs ≤ count bs
rest-le [] = omega (arith, rest-none, count-none)
rest-le (b ∷ bs) =
    elim (cases_Bool (b == 10)) [
      | inl lf ↦ omega (arith, rest-lf b bs lf, count-blank b bs (rw (eqb-true b 10 lf)))
      | inr other ↦ elim (kind_of b) [
        | blank h ↦ omega (arith, rest-more b bs other, rest-le bs, count-blank b bs h)
        | comment h ↦ omega (arith, rest-more b bs other, count-comment b bs h)
        | alone h k r ↦ omega (arith, rest-more b bs other, rest-le bs, count-alone b bs h k r)
        | run r ↦ omega (arith, rest-more b bs other, rest-le bs, count-grows b bs r)
      ]
    ]

-- ---- two parts have no fewer words than the whole

parts-run : (b : ℕ) (xs ys : List ℕ) → is_run_byte b ≡ true → count (xs ++ ys) ≤ count xs + count ys → count (b ∷ (xs ++ ys)) ≤ count (b ∷ xs) + count ys
parts-run b [] ys r h = omega (arith, count-run_le b ys r, count-last b r)
parts-run b (c ∷ cs) ys r h =
    elim (cases_Bool (is_run_byte c)) [
      | inl more ↦ omega (arith, h, count-next b c cs r more, count-next b c (cs ++ ys) r more)
      | inr last ↦ omega (arith, h, count-end b (c ∷ cs) r last, count-end b (c ∷ (cs ++ ys)) r last)
    ]

mutual
  pub count-parts : (xs ys : List ℕ) → count (xs ++ ys) ≤ count xs + count ys
  count-parts [] ys = omega arith
  count-parts (b ∷ xs) ys =
      elim (kind_of b) [
        | blank h ↦ omega (arith, count-parts xs ys, count-blank b xs h, count-blank b (xs ++ ys) h)
        | comment h ↦ omega (arith, rest-parts xs ys, count-comment b xs h, count-comment b (xs ++ ys) h)
        | alone h k r ↦ omega (arith, count-parts xs ys, count-alone b xs h k r, count-alone b (xs ++ ys) h k r)
        | run r ↦ parts-run b xs ys r (count-parts xs ys)
      ]

  rest-parts : (xs ys : List ℕ) → rest_count (xs ++ ys) ≤ rest_count xs + count ys
  rest-parts [] ys = omega (arith, rest-le ys)
  rest-parts (b ∷ xs) ys =
      elim (cases_Bool (b == 10)) [
        | inl lf ↦ omega (arith, count-parts xs ys, rest-lf b xs lf, rest-lf b (xs ++ ys) lf)
        | inr other ↦ omega (arith, rest-parts xs ys, rest-more b xs other, rest-more b (xs ++ ys) other)
      ]

-- ---- a beginning has no more words than the whole

front-run : (b : ℕ) (xs ys : List ℕ) → is_run_byte b ≡ true → count xs ≤ count (xs ++ ys) → count (b ∷ xs) ≤ count (b ∷ (xs ++ ys))
front-run b [] ys r h = omega (arith, count-last b r, count-some b ys r)
front-run b (c ∷ cs) ys r h =
    elim (cases_Bool (is_run_byte c)) [
      | inl more ↦ omega (arith, h, count-next b c cs r more, count-next b c (cs ++ ys) r more)
      | inr last ↦ omega (arith, h, count-end b (c ∷ cs) r last, count-end b (c ∷ (cs ++ ys)) r last)
    ]

mutual
  pub count-front : (xs ys : List ℕ) → count xs ≤ count (xs ++ ys)
  count-front [] ys = omega (arith, count-none)
  count-front (b ∷ xs) ys =
      elim (kind_of b) [
        | blank h ↦ omega (arith, count-front xs ys, count-blank b xs h, count-blank b (xs ++ ys) h)
        | comment h ↦ omega (arith, rest-front xs ys, count-comment b xs h, count-comment b (xs ++ ys) h)
        | alone h k r ↦ omega (arith, count-front xs ys, count-alone b xs h k r, count-alone b (xs ++ ys) h k r)
        | run r ↦ front-run b xs ys r (count-front xs ys)
      ]

  rest-front : (xs ys : List ℕ) → rest_count xs ≤ rest_count (xs ++ ys)
  rest-front [] ys = omega (arith, rest-none)
  rest-front (b ∷ xs) ys =
      elim (cases_Bool (b == 10)) [
        | inl lf ↦ omega (arith, count-front xs ys, rest-lf b xs lf, rest-lf b (xs ++ ys) lf)
        | inr other ↦ omega (arith, rest-front xs ys, rest-more b xs other, rest-more b (xs ++ ys) other)
      ]

-- ---- a run that goes on is no more word

abbrev pub IsRun : List ℕ → Type 0
IsRun bs = All (λ b. is_run_byte b ≡ true) bs

run-lf : (b : ℕ) → is_run_byte b ≡ true → (b == 10) ≡ false
run-lf b r = (or_parts (b == 13) (b == 10) (or_parts (b == 32 || b == 9) (b == 13 || b == 10) (run_parts b r).0).1).1

count-one_run : (b : ℕ) (ys : List ℕ) → is_run_byte b ≡ true → IsRun ys → count (b ∷ ys) ≡ 1
count-one_run b [] r all = count-last b r
count-one_run b (c ∷ cs) r all =
    let next = All-head (λ b. is_run_byte b ≡ true) c cs all in
    count-next b c cs r next ∙ count-one_run c cs next (All-tail (λ b. is_run_byte b ≡ true) c cs all)

rest-run : (ys : List ℕ) → IsRun ys → rest_count ys ≡ 0
rest-run [] all = rest-none
rest-run (c ∷ cs) all = rest-more c cs (run-lf c (All-head (λ b. is_run_byte b ≡ true) c cs all)) ∙ rest-run cs (All-tail (λ b. is_run_byte b ≡ true) c cs all)

module _ (c : ℕ) (ys : List ℕ) (r : is_run_byte c ≡ true) (all : IsRun ys) where
  run-longer : (b : ℕ) (xs : List ℕ) → is_run_byte b ≡ true → count (xs ++ c ∷ ys) ≡ count (xs ++ c ∷ []) → count (b ∷ (xs ++ c ∷ ys)) ≡ count (b ∷ (xs ++ c ∷ []))
  run-longer b [] k h = omega (arith, h, count-next b c ys k r, count-next b c [] k r)
  run-longer b (d ∷ ds) k h =
      elim (cases_Bool (is_run_byte d)) [
        | inl more ↦ omega (arith, h, count-next b d (ds ++ c ∷ ys) k more, count-next b d (ds ++ c ∷ []) k more)
        | inr last ↦ omega (arith, h, count-end b (d ∷ (ds ++ c ∷ ys)) k last, count-end b (d ∷ (ds ++ c ∷ [])) k last)
      ]

  mutual
    pub count-run : (xs : List ℕ) → count (xs ++ c ∷ ys) ≡ count (xs ++ c ∷ [])
    count-run [] = count-one_run c ys r all ∙ sym (count-last c r)
    count-run (b ∷ xs) =
        elim (kind_of b) [
          | blank h ↦ omega (arith, count-run xs, count-blank b (xs ++ c ∷ ys) h, count-blank b (xs ++ c ∷ []) h)
          | comment h ↦ omega (arith, rest-run_on xs, count-comment b (xs ++ c ∷ ys) h, count-comment b (xs ++ c ∷ []) h)
          | alone h k n ↦ omega (arith, count-run xs, count-alone b (xs ++ c ∷ ys) h k n, count-alone b (xs ++ c ∷ []) h k n)
          | run k ↦ run-longer b xs k (count-run xs)
        ]

    rest-run_on : (xs : List ℕ) → rest_count (xs ++ c ∷ ys) ≡ rest_count (xs ++ c ∷ [])
    rest-run_on [] = omega (arith, rest-more c ys (run-lf c r), rest-more c [] (run-lf c r), rest-run ys all, rest-none)
    rest-run_on (b ∷ xs) =
        elim (cases_Bool (b == 10)) [
          | inl lf ↦ omega (arith, count-run xs, rest-lf b (xs ++ c ∷ ys) lf, rest-lf b (xs ++ c ∷ []) lf)
          | inr other ↦ omega (arith, rest-run_on xs, rest-more b (xs ++ c ∷ ys) other, rest-more b (xs ++ c ∷ []) other)
        ]
