-- Flags packed in words: what a bit that is set or cleared changes, and that words are told by their flags.
use Rattle.std.proofs.Common.{◌≡◌, ◌≢◌, ℕ, zero, suc, ◌+◌, ◌-◌, ◌*◌, ◌/◌, ◌%◌, ◌^◌, ◌<◌, ◌≤◌, Bool, true, false, cond, List, [], ◌∷◌, length, get_or, set, replicate, bit_and, bit_or, w64, refl, ap, sym, ◌∙◌, arith, inl, inr}
use Rattle.std.proofs.Math.Bool.{beq}
use Rattle.std.specs.Prelude.{nat_eq}
use Rattle.std.specs.Int.{bit_at, bit_not, div_ceil}
use Rattle.std.specs.List.{AllByRecursion}
use Rattle.std.specs.Cmp.{both_ways, bool_eq_equiv, first_so, second_so}
use Rattle.std.specs.Cmp.Lexicographic.{lists_equiv, pointwise}
use Rattle.std.proofs.lemmas.Bool.{cases_eq, cases_lt, eqb-true, false_from_ne_true, ne_eqb}
use Rattle.std.proofs.lemmas.Cmp.{nat_list_eq_equiv}
use Rattle.std.proofs.lemmas.List.{length-replicate, length-set, get_or-set_same, get_or-set_other, get_or_past}
use Rattle.std.proofs.lemmas.Nat.{and_le_l, div-mul-add, mod-mul-add, or_lt}
use Rattle.std.proofs.lemmas.Nat.Bits.{bit_at_lowest, bit_at-suc, bit_at-zero, bit_at_cat_low, bit_at_cat_high, bit_at_clear_other, bit_at_clear_same, bit_at_set_other, bit_at_set_same, same_from_bits}
use Rattle.ps_solve.specs.Flags.{ArePacked, flags_in, joined, number_of, same_flags, words_in, words_of}

-- ---- flags and the bits of their number

-- one flag, from a bit
abbrev flag : ℕ → Bool
flag b = nat_eq b 1

pub length-flags_in : (k n : ℕ) → length (flags_in k n) ≡ k
length-flags_in zero n = refl
length-flags_in (suc k) n = ap suc (length-flags_in k (n / 2))

lowest : (n : ℕ) → nat_eq (n % 2) 1 ≡ nat_eq (bit_at n 0) 1
lowest n = ap flag (sym (bit_at_lowest n))

-- the flag at a place is the bit
pub flag_at : (k n i : ℕ) → i < k → get_or (flags_in k n) i false ≡ nat_eq (bit_at n i) 1
flag_at zero n i h = absurd (omega arith)
flag_at (suc k) n zero h = lowest n
flag_at (suc k) n (suc i) h = flag_at k (n / 2) i (omega arith) ∙ ap flag (sym (bit_at-suc n i))

-- where the bits past the flags are clear, so is it past the last
pub any_flag : (k n i : ℕ) → ((j : ℕ) → k ≤ j → bit_at n j ≡ 0) → get_or (flags_in k n) i false ≡ nat_eq (bit_at n i) 1
any_flag k n i clear =
    elim (cases_lt i k) [
      | inl h ↦ flag_at k n i h
      | inr h ↦ get_or_past (flags_in k n) i false (omega (arith, length-flags_in k n)) ∙ ap flag (sym (clear i h))
    ]

-- to change one bit is to change one flag
pub flag_put : (b : Bool) (k n m i : ℕ) → nat_eq (bit_at m i) 1 ≡ b → ((j : ℕ) → j ≢ i → bit_at m j ≡ bit_at n j) → i < k → flags_in k m ≡ set (flags_in k n) i b
flag_put b zero n m i e same h = absurd (omega arith)
flag_put b (suc k) n m zero e same h =
    let rest : m / 2 ≡ n / 2 = same_from_bits (m / 2) (n / 2) (λ j. sym (bit_at-suc m j) ∙ same (suc j) (λ p. absurd (omega (arith, p))) ∙ bit_at-suc n j) in
    λ i. (lowest m ∙ e) i ∷ flags_in k (rest i)
flag_put b (suc k) n m (suc i) e same h =
    let first : nat_eq (m % 2) 1 ≡ nat_eq (n % 2) 1 = lowest m ∙ ap flag (same 0 (λ p. absurd (omega (arith, p)))) ∙ sym (lowest n) in
    let rest = flag_put b k (n / 2) (m / 2) i (ap flag (sym (bit_at-suc m i)) ∙ e) (λ j other. sym (bit_at-suc m j) ∙ same (suc j) (λ p. other (omega (arith, p))) ∙ bit_at-suc n j) (omega arith) in
    λ j. first j ∷ rest j

pub none_set : (k : ℕ) → flags_in k 0 ≡ replicate k false
none_set zero = refl
none_set (suc k) = ap (λ (l : List Bool). false ∷ l) (none_set k)

digit : (d : ℕ) → d < 2 → cond (nat_eq d 1) 1 0 ≡ d
digit zero h = refl
digit (suc zero) h = refl
digit (suc (suc d)) h = absurd (omega arith)

-- a number is told by its flags, where no bit past them is set
pub number_told : (k n : ℕ) → ((i : ℕ) → k ≤ i → bit_at n i ≡ 0) → number_of (flags_in k n) ≡ n
number_told zero n clear = sym (same_from_bits n 0 (λ i. clear i (omega arith) ∙ sym (bit_at-zero i)))
number_told (suc k) n clear =
    let rest = number_told k (n / 2) (λ i h. sym (bit_at-suc n i) ∙ clear (suc i) (omega arith)) in
    let low = digit (n % 2) (omega arith) in
    omega (arith, rest, low)

-- ---- words and the bits of their number

abbrev AreSmall : List ℕ → Type 0
AreSmall ws = AllByRecursion (λ w. w < 2 ^ 64) ws

bit_in : (ws : List ℕ) (j r : ℕ) → r < 64 → AreSmall ws → bit_at (joined ws) (j * 64 + r) ≡ bit_at (get_or ws j 0) r
bit_in [] j r h small = bit_at-zero (j * 64 + r) ∙ sym (bit_at-zero r)
bit_in (w ∷ ws) zero r h small =
    let first : 0 * 64 + r ≡ r = omega arith in
    ap (bit_at (joined (w ∷ ws))) first ∙ bit_at_cat_low (joined ws) 64 w r h
bit_in (w ∷ ws) (suc j) r h small =
    let back : suc j * 64 + r - 64 ≡ j * 64 + r = omega arith in
    bit_at_cat_high (joined ws) 64 w (suc j * 64 + r) small.0 (omega arith) ∙ ap (bit_at (joined ws)) back ∙ bit_in ws j r h small.1

-- a bit of the number stands in a word
pub bit_of_word : (ws : List ℕ) (i : ℕ) → AreSmall ws → bit_at (joined ws) i ≡ bit_at (get_or ws (i / 64) 0) (i % 64)
bit_of_word ws i small =
    let place : i ≡ i / 64 * 64 + i % 64 = omega arith in
    ap (bit_at (joined ws)) place ∙ bit_in ws (i / 64) (i % 64) (omega arith) small

pub words_told : (ws : List ℕ) → AreSmall ws → words_in (length ws) (joined ws) ≡ ws
words_told [] small = refl
words_told (w ∷ ws) small =
    let rest = words_told ws small.1 in
    let low = mod-mul-add (joined ws) (2 ^ 64) w small.0 in
    let high = div-mul-add (joined ws) (2 ^ 64) w small.0 in
    λ i. low i ∷ (ap (words_in (length ws)) high ∙ rest) i

small_set : (ws : List ℕ) (j w : ℕ) → AreSmall ws → w < 2 ^ 64 → AreSmall (set ws j w)
small_set [] j w small h = tt
small_set (v ∷ ws) zero w small h = (h, small.1)
small_set (v ∷ ws) (suc j) w small h = (small.0, small_set ws j w small.1 h)

small_at : (ws : List ℕ) (j : ℕ) → AreSmall ws → get_or ws j 0 < 2 ^ 64
small_at [] j small = omega arith
small_at (w ∷ ws) zero small = small.0
small_at (w ∷ ws) (suc j) small = small_at ws j small.1

pub small_none : (k : ℕ) → AreSmall (replicate k 0)
small_none zero = tt
small_none (suc k) = (omega arith, small_none k)

pub joined_none : (k : ℕ) → joined (replicate k 0) ≡ 0
joined_none zero = refl
joined_none (suc k) = omega (arith, joined_none k)

pub cleared_packed : (len : ℕ) → ArePacked (replicate (div_ceil len 64) 0) len
cleared_packed len = record {
  count = length-replicate (div_ceil len 64) 0;
  small = small_none (div_ceil len 64);
  clear = λ i h. ap (λ n. bit_at n i) (joined_none (div_ceil len 64)) ∙ bit_at-zero i;
}

-- ---- flags in words

module _ (ws : List ℕ) (len : ℕ) (packed : ArePacked ws len) where
  -- a flag is a bit of a word
  pub flag_of_word : (i : ℕ) → get_or (flags_in len (joined ws)) i false ≡ nat_eq (bit_at (get_or ws (i / 64) 0) (i % 64)) 1
  flag_of_word i = any_flag len (joined ws) i packed.clear ∙ ap flag (bit_of_word ws i packed.small)

  -- the words are those of the flags
  pub words_back : words_of (flags_in len (joined ws)) ≡ ws
  words_back =
      (λ i. words_in (div_ceil (length-flags_in len (joined ws) i) 64) (number_told len (joined ws) packed.clear i))
      ∙ ap (λ n. words_in n (joined ws)) (sym packed.count) ∙ words_told ws packed.small

  -- there is a word for each flag
  pub has_word : (i : ℕ) → i < len → i / 64 < length ws
  has_word i within = omega (arith, packed.count)

  module _ (b : Bool) (i w : ℕ) (within : i < len) (small : w < 2 ^ 64) (is : nat_eq (bit_at w (i % 64)) 1 ≡ b) (others : (r : ℕ) → r < 64 → r ≢ i % 64 → bit_at w r ≡ bit_at (get_or ws (i / 64) 0) r) where
    here : get_or (set ws (i / 64) w) (i / 64) 0 ≡ w
    here = get_or-set_same ws (i / 64) w 0 (has_word i within)

    all_small : AreSmall (set ws (i / 64) w)
    all_small = small_set ws (i / 64) w packed.small small

    one_bit : bit_at (joined (set ws (i / 64) w)) i ≡ bit_at w (i % 64)
    one_bit = bit_of_word (set ws (i / 64) w) i all_small ∙ ap (λ n. bit_at n (i % 64)) here

    in_words : (j : ℕ) → j ≢ i → bit_at (get_or (set ws (i / 64) w) (j / 64) 0) (j % 64) ≡ bit_at (get_or ws (j / 64) 0) (j % 64)
    in_words j other =
        elim (cases_eq (j / 64) (i / 64)) [
          | inl same ↦
              (let apart : j % 64 ≢ i % 64 = λ e. other (omega (arith, same, e)) in
              ap (λ k. bit_at (get_or (set ws (i / 64) w) k 0) (j % 64)) same ∙ ap (λ n. bit_at n (j % 64)) here
              ∙ others (j % 64) (omega arith) apart ∙ ap (λ k. bit_at (get_or ws k 0) (j % 64)) (sym same))
          | inr apart ↦ ap (λ n. bit_at n (j % 64)) (get_or-set_other ws (i / 64) (j / 64) w 0 apart)
        ]

    other_bits : (j : ℕ) → j ≢ i → bit_at (joined (set ws (i / 64) w)) j ≡ bit_at (joined ws) j
    other_bits j other = bit_of_word (set ws (i / 64) w) j all_small ∙ in_words j other ∙ sym (bit_of_word ws j packed.small)

    -- words where one bit changes are packed again
    pub put_packed : ArePacked (set ws (i / 64) w) len
    put_packed = record {
      count = length-set ws (i / 64) w ∙ packed.count;
      small = all_small;
      clear = λ j h. other_bits j (λ e. absurd (omega (arith, e))) ∙ packed.clear j h;
    }

    -- and one flag changes
    pub put_flag : flags_in len (joined (set ws (i / 64) w)) ≡ set (flags_in len (joined ws)) i b
    put_flag = flag_put b len (joined ws) (joined (set ws (i / 64) w)) i (ap flag one_bit ∙ is) other_bits within

  module _ (i v : ℕ) (within : i < len) (read : v ≡ get_or ws (i / 64) 0) where
    read_small : v < 2 ^ 64
    read_small = omega (arith, small_at ws (i / 64) packed.small, read)

    -- to set a bit of a word is to set a flag
    pub flag_set : ArePacked (set ws (i / 64) (bit_or v (1 * 2 ^ (i % 64) % 2 ^ 64))) len × (flags_in len (joined (set ws (i / 64) (bit_or v (1 * 2 ^ (i % 64) % 2 ^ 64)))) ≡ set (flags_in len (joined ws)) i true)
    flag_set =
        let w = bit_or v (1 * 2 ^ (i % 64) % 2 ^ 64) in
        let small : w < 2 ^ 64 = or_lt 64 v (1 * 2 ^ (i % 64) % 2 ^ 64) read_small (omega arith) in
        let is : nat_eq (bit_at w (i % 64)) 1 ≡ true = ap flag (bit_at_set_same w64 v (i % 64) (omega arith)) in
        let others : (r : ℕ) → r < 64 → r ≢ i % 64 → bit_at w r ≡ bit_at (get_or ws (i / 64) 0) r = λ r h other. bit_at_set_other w64 v (i % 64) (omega arith) r other ∙ ap (λ n. bit_at n r) read in
        (put_packed true i w within small is others, put_flag true i w within small is others)

    -- to clear a bit of a word is to clear a flag
    pub flag_cleared : ArePacked (set ws (i / 64) (bit_and v (bit_not w64 (1 * 2 ^ (i % 64) % 2 ^ 64)))) len × (flags_in len (joined (set ws (i / 64) (bit_and v (bit_not w64 (1 * 2 ^ (i % 64) % 2 ^ 64))))) ≡ set (flags_in len (joined ws)) i false)
    flag_cleared =
        let mask = bit_not w64 (1 * 2 ^ (i % 64) % 2 ^ 64) in
        let w = bit_and v mask in
        let small : w < 2 ^ 64 = omega (arith, and_le_l v mask, read_small) in
        let is : nat_eq (bit_at w (i % 64)) 1 ≡ false = ap flag (bit_at_clear_same w64 v (i % 64) (omega arith)) in
        let others : (r : ℕ) → r < 64 → r ≢ i % 64 → bit_at w r ≡ bit_at (get_or ws (i / 64) 0) r = λ r h other. bit_at_clear_other w64 v (i % 64) (omega arith) r h other ∙ ap (λ n. bit_at n r) read in
        (put_packed false i w within small is others, put_flag false i w within small is others)

-- ---- words of the same flags

pub same_words : (ws vs : List ℕ) (k l : ℕ) → ArePacked ws k → ArePacked vs l → flags_in k (joined ws) ≡ flags_in l (joined vs) → ws ≡ vs
same_words ws vs k l p q e = sym (words_back ws k p) ∙ ap words_of e ∙ words_back vs l q

pub same_count : (k l n m : ℕ) → flags_in k n ≡ flags_in l m → k ≡ l
same_count k l n m e = sym (length-flags_in k n) ∙ ap length e ∙ length-flags_in l m

same_list : (xs ys : List ℕ) → pointwise nat_eq xs ys ≡ true → xs ≡ ys
same_list [] [] e = refl
same_list [] (y ∷ ys) e = absurd (cc)
same_list (x ∷ xs) [] e = absurd (cc)
same_list (x ∷ xs) (y ∷ ys) e = λ i. eqb-true x y (first_so (nat_eq x y) (pointwise nat_eq xs ys) e) i ∷ same_list xs ys (second_so (nat_eq x y) (pointwise nat_eq xs ys) e) i

module _ (ws vs : List ℕ) (k l : ℕ) (p : ArePacked ws k) (q : ArePacked vs l) where
  -- as many flags are the same where their words are
  pub alike_by_words : k ≡ l → pointwise nat_eq ws vs ≡ pointwise beq (flags_in k (joined ws)) (flags_in l (joined vs))
  alike_by_words count =
      both_ways _ _
      (λ e.
      let same = same_list ws vs e in
      (λ i. pointwise beq (flags_in k (joined ws)) (flags_in (sym count i) (joined (sym same i)))) ∙ (lists_equiv bool_eq_equiv).refl (flags_in k (joined ws)))
      (λ e.
      let same = same_words ws vs k l p q (same_flags (flags_in k (joined ws)) (flags_in l (joined vs)) e) in
      ap (pointwise nat_eq ws) (sym same) ∙ nat_list_eq_equiv.refl ws)

  -- not as many are not the same
  pub apart_by_count : (k ≡ l → ⊥) → nat_eq k l ≡ pointwise beq (flags_in k (joined ws)) (flags_in l (joined vs))
  apart_by_count apart =
      let flags = pointwise beq (flags_in k (joined ws)) (flags_in l (joined vs)) in
      ne_eqb k l apart ∙ sym (false_from_ne_true flags (λ e. apart (same_count k l (joined ws) (joined vs) (same_flags (flags_in k (joined ws)) (flags_in l (joined vs)) e))))
