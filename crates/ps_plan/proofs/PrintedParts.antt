-- The parts of a printed line.
use Rattle.std.proofs.Common.{◌≡◌, ℕ, suc, ◌+◌, ◌/◌, ◌%◌, ◌<◌, ◌≤◌, ◌^◌, ◌==◌, Bool, true, false, not, cond, Some, None, pos, negsuc, position, List, [], ◌∷◌, ◌++◌, map, length, codes, refl, ap, ◌∙◌, arith, append_assoc, inl, inr}
use Rattle.std.proofs.lemmas.Bool.{and_from, and_parts, and_right, cases_Bool}
use Rattle.std.proofs.lemmas.Bool.Decides.{nat_tests}
use Rattle.std.proofs.lemmas.Fmt.{decimal_by_steps}
use Rattle.std.proofs.lemmas.List.Elements.{All-head, All-tail}
use Rattle.std.proofs.lemmas.List.Folds.{list_all-append}
use Rattle.std.specs.Fmt.{decimal}
use Rattle.std.specs.List.{All, list_all, position_or_len}
use Rattle.ps_world.specs.Lines.{is_line, lengthened}
use Rattle.ps_world.specs.Names.{Table, name_text}
use Rattle.ps_world.specs.Numbers.{IsCount, decimals_text, magnitude_text, number_text}
use Rattle.ps_world.specs.Texts.{args_text}
use Rattle.ps_world.specs.declared.names.Name.{Name}
use Rattle.ps_world.proofs.OneLine.{is_line-append}
use Rattle.ps_action.specs.declared.acts.PlanStep.{PlanStep}
use Rattle.ps_text.specs.Names.{is_letter, is_name_byte, bad_place, name_fault}
use Rattle.ps_text.proofs.Pieces.{first-yes, first-no}
use Rattle.ps_text.proofs.NameRuns.{no_position-by, no_bad_place}
use Rattle.ps_plan.specs.PlanText.{goes_on, is_word_byte, parts_of}
use Rattle.ps_plan.proofs.PartSteps.{parts-alone, parts-longer, word_parts}

-- ---- one word

-- whether a text is one word: at least one byte, and no other
abbrev pub is_word : List ℕ → Bool
is_word [] = false
is_word (b ∷ bs) = list_all is_word_byte (b ∷ bs)

word-on : (b : ℕ) (bs rest : List ℕ) → list_all is_word_byte (b ∷ bs) ≡ true → goes_on rest ≡ false → parts_of (b ∷ (bs ++ rest)) ≡ (b ∷ bs) ∷ parts_of rest
word-on b [] rest h e =
    let first = (and_parts (is_word_byte b) true h).0 in
    parts-alone b rest (word_parts b first).0 (and_right (is_word_byte b) (goes_on rest) e)
word-on b (c ∷ cs) rest h e =
    let all = and_parts (is_word_byte b) (list_all is_word_byte (c ∷ cs)) h in
    let second = (and_parts (is_word_byte c) (list_all is_word_byte cs) all.1).0 in
    parts-longer b (c ∷ (cs ++ rest)) (word_parts b all.0).0 (and_from (is_word_byte b) (is_word_byte c) all.0 second)
    ∙ ap (lengthened b) (word-on c cs rest all.1 e)

pub parts-one : (text rest : List ℕ) → is_word text ≡ true → goes_on rest ≡ false → parts_of (text ++ rest) ≡ text ∷ parts_of rest
parts-one [] rest h e = absurd (cc)
parts-one (b ∷ bs) rest h e = word-on b bs rest h e

list_all-is_word : (text : List ℕ) → is_word text ≡ true → list_all is_word_byte text ≡ true
list_all-is_word [] h = refl
list_all-is_word (b ∷ bs) h = h

is_word-append : (xs ys : List ℕ) → list_all is_word_byte xs ≡ true → is_word ys ≡ true → is_word (xs ++ ys) ≡ true
is_word-append [] ys h k = k
is_word-append (x ∷ xs) ys h k = list_all-append is_word_byte (x ∷ xs) ys ∙ and_from (list_all is_word_byte (x ∷ xs)) (list_all is_word_byte ys) h (list_all-is_word ys k)

-- no LF stands in a word
no_end : (b : ℕ) → is_word_byte b ≡ true → not (b == 10) ≡ true
no_end b h = grind (arith, nat_tests)

line_all : (text : List ℕ) → list_all is_word_byte text ≡ true → is_line text ≡ true
line_all [] h = refl
line_all (b ∷ bs) h =
    let parts = and_parts (is_word_byte b) (list_all is_word_byte bs) h in
    and_from (not (b == 10)) (is_line bs) (no_end b parts.0) (line_all bs parts.1)

pub is_line-word : (text : List ℕ) → is_word text ≡ true → is_line text ≡ true
is_line-word text h = line_all text (list_all-is_word text h)

-- ---- names

abbrev is_other : ℕ → Bool
is_other c = not (is_name_byte c)

is_word_byte-name : (b : ℕ) → is_name_byte b ≡ true → is_word_byte b ≡ true
is_word_byte-name b h = grind (arith, nat_tests)

is_word_byte-no_other : (b : ℕ) (e : Bool) → is_name_byte b ≡ e → not e ≡ false → is_word_byte b ≡ true
is_word_byte-no_other b true e h = is_word_byte-name b e
is_word_byte-no_other b false e h = absurd (cc)

-- where no byte is other than a name byte, each is a byte of a word
list_all-no_other : (bs : List ℕ) → length bs ≤ position_or_len is_other bs → list_all is_word_byte bs ≡ true
list_all-no_other [] h = refl
list_all-no_other (b ∷ bs) h =
    elim (cases_Bool (is_other b)) [
      | inl other ↦ absurd (omega (arith, first-yes is_other b bs other))
      | inr fits ↦ and_from (is_word_byte b) (list_all is_word_byte bs) (is_word_byte-no_other b (is_name_byte b) refl fits) (list_all-no_other bs (omega (arith, first-no is_other b bs fits)))
    ]

list_all-begun : (bs : List ℕ) (e : Bool) → cond e (position is_other bs) (Some 0) ≡ None → list_all is_word_byte bs ≡ true
list_all-begun bs true h = list_all-no_other bs (no_position-by (length bs) (position_or_len is_other bs) _ refl h)
list_all-begun bs false h = absurd (cc)

-- the text of a name is one word
pub is_word-name : (name : List ℕ) → name_fault name ≡ None → is_word name ≡ true
is_word-name [] h = absurd (cc)
is_word-name (b ∷ bs) h = list_all-begun (b ∷ bs) (is_letter b) (no_bad_place (bad_place (b ∷ bs)) (length (b ∷ bs)) h)

-- ---- numbers

is_word_byte-digit : (d : ℕ) → d < 10 → is_word_byte (48 + d) ≡ true
is_word_byte-digit d h = grind (arith, nat_tests)

one_digit : (d : ℕ) → d < 10 → list_all is_word_byte ((48 + d) ∷ []) ≡ true
one_digit d h = and_from (is_word_byte (48 + d)) true (is_word_byte-digit d h) refl

list_all-decimal : (n : ℕ) → n < 2 ^ 64 → list_all is_word_byte (decimal n) ≡ true
list_all-decimal =
    decimal_by_steps (λ n ds. list_all is_word_byte ds ≡ true) one_digit
    (λ n ds h all. list_all-append is_word_byte ds ((48 + n % 10) ∷ []) ∙ and_from (list_all is_word_byte ds) (list_all is_word_byte ((48 + n % 10) ∷ [])) all (one_digit (n % 10) (omega arith)))

is_word-decimals : (n : ℕ) → is_word (decimals_text n) ≡ true
is_word-decimals n =
    let third = one_digit (n % 10) (omega arith) in
    let second = and_from (is_word_byte (48 + n / 10 % 10)) _ (is_word_byte-digit (n / 10 % 10) (omega arith)) third in
    and_from (is_word_byte (48 + n / 100 % 10)) _ (is_word_byte-digit (n / 100 % 10) (omega arith)) second

is_word-magnitude : (n : ℕ) → n ≤ 10 ^ 15 → is_word (magnitude_text n) ≡ true
is_word-magnitude n h = is_word-append (decimal (n / 1000)) (decimals_text n) (list_all-decimal (n / 1000) (omega arith)) (is_word-decimals n)

-- the text of a number is one word
pub is_word-number : (z : _) → IsCount z → is_word (number_text z) ≡ true
is_word-number (pos n) h = is_word-magnitude n h
is_word-number (negsuc n) h = list_all-is_word (magnitude_text (suc n)) (is_word-magnitude (suc n) h)

-- ---- the parts of a line

-- the line of a step, without the LF that ends it
abbrev pub line_text : Table → PlanStep → List ℕ
line_text names step =
    number_text step.time ++ (codes ": (" ++ (name_text names step.act.action ++ (args_text names step.act.args
    ++ (codes ") [" ++ (number_text step.duration ++ codes "]")))))

-- the parts of a line of a time, names and a duration
abbrev pub printed_parts : List ℕ → List (List ℕ) → List ℕ → List (List ℕ)
printed_parts time names duration = time ∷ codes ":" ∷ codes "(" ∷ (names ++ codes ")" ∷ codes "[" ∷ duration ∷ codes "]" ∷ [])

abbrev pub IsWordName : Table → Name → Type 0
IsWordName names n = is_word (name_text names n) ≡ true

module _ (names : Table) where
  args-apart : (ns : List Name) (rest : List ℕ) → goes_on rest ≡ false → goes_on (args_text names ns ++ rest) ≡ false
  args-apart [] rest e = e
  args-apart (n ∷ ns) rest e = refl

  parts-args : (ns : List Name) (rest : List ℕ) → All (IsWordName names) ns → goes_on rest ≡ false → parts_of (args_text names ns ++ rest) ≡ map (name_text names) ns ++ parts_of rest
  parts-args [] rest h e = refl
  parts-args (n ∷ ns) rest h e =
      ap parts_of (append_assoc (name_text names n) (args_text names ns) rest)
      ∙ parts-one (name_text names n) (args_text names ns ++ rest) (All-head (IsWordName names) n ns h) (args-apart ns rest e)
      ∙ ap (λ l. name_text names n ∷ l) (parts-args ns rest (All-tail (IsWordName names) n ns h) e)

  pub parts-line : (step : PlanStep) → IsCount step.time → IsCount step.duration → IsWordName names step.act.action → All (IsWordName names) step.act.args
      → parts_of (line_text names step) ≡ printed_parts (number_text step.time) (map (name_text names) (step.act.action ∷ step.act.args)) (number_text step.duration)
  parts-line step t d a all =
      let time = number_text step.time in
      let action = name_text names step.act.action in
      let last : List ℕ = number_text step.duration ++ codes "]" in
      let tail : List ℕ = codes ") [" ++ last in
      let args : List ℕ = args_text names step.act.args ++ tail in
      parts-one time (codes ": (" ++ (action ++ args)) (is_word-number step.time t) refl
      ∙ ap (λ l. time ∷ codes ":" ∷ codes "(" ∷ l)
      (parts-one action args a (args-apart step.act.args tail refl)
      ∙ ap (λ l. action ∷ l)
      (parts-args step.act.args tail all refl
      ∙ ap (λ l. map (name_text names) step.act.args ++ codes ")" ∷ codes "[" ∷ l) (parts-one (number_text step.duration) (codes "]") (is_word-number step.duration d) refl)))

  pub is_line-step : (step : PlanStep) → IsCount step.time → IsCount step.duration → IsWordName names step.act.action → All (IsWordName names) step.act.args → is_line (line_text names step) ≡ true
  is_line-step step t d a all =
      let last : List ℕ = number_text step.duration ++ codes "]" in
      let tail : List ℕ = codes ") [" ++ last in
      let args : List ℕ = args_text names step.act.args ++ tail in
      is_line-append (number_text step.time) (codes ": (" ++ (name_text names step.act.action ++ args)) (is_line-word (number_text step.time) (is_word-number step.time t))
      (is_line-append (name_text names step.act.action) args (is_line-word (name_text names step.act.action) a)
      (is_line-append (args_text names step.act.args) tail (is_line-args step.act.args all)
      (is_line-append (number_text step.duration) (codes "]") (is_line-word (number_text step.duration) (is_word-number step.duration d)) refl))) where
        is_line-args : (ns : List Name) → All (IsWordName names) ns → is_line (args_text names ns) ≡ true
        is_line-args [] h = refl
        is_line-args (n ∷ ns) h =
            is_line-append (name_text names n) (args_text names ns) (is_line-word (name_text names n) (All-head (IsWordName names) n ns h)) (is_line-args ns (All-tail (IsWordName names) n ns h))
