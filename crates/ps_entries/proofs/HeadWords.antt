-- The words of printed texts, and what stands after them.
use Rattle.std.proofs.Common.{◌≡◌, ℕ, suc, ◌+◌, ◌-◌, ◌^◌, ◌<◌, ◌==◌, ◌||◌, Bool, true, false, not, List, [], ◌∷◌, ◌++◌, codes, length, take, drop, nat_eq, refl, sym, ap, ◌∙◌, arith, append_assoc, append-nil}
use Rattle.std.proofs.lemmas.Bool.{and_parts}
use Rattle.std.proofs.lemmas.Bool.Decides.{nat_tests}
use Rattle.std.proofs.lemmas.Fmt.{decimal_nonempty}
use Rattle.std.proofs.lemmas.List.{length-append}
use Rattle.std.proofs.Math.Seq.{take-append_seam}
use Rattle.std.specs.Fmt.{decimal}
use Rattle.std.specs.List.{list_all, position_or_len}
use Rattle.ps_world.specs.Lines.{same_text}
use Rattle.ps_world.specs.Names.{Table, name_text}
use Rattle.ps_world.specs.declared.names.Name.{Name}
use Rattle.ps_text.specs.Names.{AreNames, is_name_byte}
use Rattle.ps_text.specs.Words.{goes_on, is_run_byte, words}
use Rattle.ps_text.proofs.Pieces.{first-no}
use Rattle.ps_print.proofs.Writing.{is_run, one_word, list_all-is_run}
use Rattle.ps_print.proofs.CanonicalWords.{is_run-name as is_run-text, list_all-decimal}
use Rattle.ps_entries.specs.Words.{after_word, is_space}

-- ---- names and numbers are words

abbrev is_other : ℕ → Bool
is_other c = not (is_name_byte c)

-- a name is a word
pub is_run-name : (t : Table) (n : Name) → AreNames t → n.0 < length t → is_run (name_text t n) ≡ true
is_run-name t n names lt = is_run-text (name_text t n) (names.texts n.0 [] lt).name

is_run-from : (w : List ℕ) → 0 < length w → list_all is_run_byte w ≡ true → is_run w ≡ true
is_run-from [] some h = absurd (omega (arith, some))
is_run-from (b ∷ bs) some h = h

-- a number is a word
pub is_run-decimal : (n : ℕ) → n < 2 ^ 64 → is_run (decimal n) ≡ true
is_run-decimal n h = is_run-from (decimal n) (decimal_nonempty n h) (list_all-decimal n h)

-- ---- words one after another

-- a word and a space
pub words-then : (w rest : List ℕ) → is_run w ≡ true → words (w ++ 32 ∷ rest) ≡ w ∷ words rest
words-then w rest h = (one_word w h).writes (32 ∷ rest) refl

-- a word at the end
pub words-last : (w : List ℕ) → is_run w ≡ true → words w ≡ w ∷ []
words-last w h = ap words (sym (append-nil w)) ∙ (one_word w h).writes [] refl

-- a word before what begins no longer word
pub words-before : (w rest : List ℕ) → is_run w ≡ true → goes_on rest ≡ false → words (w ++ rest) ≡ w ∷ words rest
words-before w rest h e = (one_word w h).writes rest e

-- two words, of which a space follows the second
pub words-two : (w v rest : List ℕ) → is_run w ≡ true → is_run v ≡ true → words ((w ++ 32 ∷ v) ++ 32 ∷ rest) ≡ w ∷ v ∷ words rest
words-two w v rest h k =
    ap words (append_assoc w (32 ∷ v) (32 ∷ rest)) ∙ words-then w (v ++ 32 ∷ rest) h ∙ ap (λ more. w ∷ more) (words-then v rest k)

-- two words at the end
pub words-both : (w v : List ℕ) → is_run w ≡ true → is_run v ≡ true → words (w ++ 32 ∷ v) ≡ w ∷ v ∷ []
words-both w v h k = words-then w v h ∙ ap (λ more. w ∷ more) (words-last v k)

-- ---- what stands after a word

space-of : (b : ℕ) → is_run_byte b ≡ true → is_space b ≡ false
space-of b h = grind (arith, nat_tests)

step : (b : ℕ) (xs : List ℕ) → is_space b ≡ false → after_word (b ∷ xs) ≡ after_word xs
step b xs e =
    let next : position_or_len is_space (b ∷ xs) + 1 ≡ suc (position_or_len is_space xs + 1) = omega (arith, first-no is_space b xs e) in
    ap (λ n. drop n (b ∷ xs)) next

after-all : (w rest : List ℕ) → list_all is_run_byte w ≡ true → after_word (w ++ 32 ∷ rest) ≡ rest
after-all [] rest h = refl
after-all (b ∷ bs) rest h =
    let parts = and_parts (is_run_byte b) (list_all is_run_byte bs) h in
    let more = after-all bs rest parts.1 in
    step b (bs ++ 32 ∷ rest) (space-of b parts.0) ∙ more

pub after_word-then : (w rest : List ℕ) → is_run w ≡ true → after_word (w ++ 32 ∷ rest) ≡ rest
after_word-then w rest h = after-all w rest (list_all-is_run w h)

-- ---- two parts

pub take-head : (h t : List ℕ) → take (length (h ++ t) - length t) (h ++ t) ≡ h
take-head h t =
    let count : length (h ++ t) - length t ≡ length h = omega (arith, length-append h t) in
    ap (λ n. take n (h ++ t)) count ∙ take-append_seam h t

-- ---- words that are no parentheses

no_paren : (b c : ℕ) → is_run_byte b ≡ true → (c == 40 || c == 41) ≡ true → nat_eq b c ≡ false
no_paren b c h p = grind (arith, nat_tests)

pub no_open : (w : List ℕ) → is_run w ≡ true → same_text w (codes "(") ≡ false
no_open [] h = absurd (cc)
no_open (b ∷ bs) h = rw (no_paren b 40 (and_parts (is_run_byte b) (list_all is_run_byte bs) h).0 refl) refl

pub no_close : (w : List ℕ) → is_run w ≡ true → same_text w (codes ")") ≡ false
no_close [] h = absurd (cc)
no_close (b ∷ bs) h = rw (no_paren b 41 (and_parts (is_run_byte b) (list_all is_run_byte bs) h).0 refl) refl
