-- The words that a text writes, by the words of its pieces.
use Rattle.std.proofs.Common.{◌≡◌, ℕ, Bool, true, false, List, [], ◌∷◌, ◌++◌, map, codes, refl, sym, ap, ◌∙◌, append_assoc, append-nil}
use Rattle.std.proofs.lemmas.Bool.{and_parts, and_from, and_right, or_parts}
use Rattle.std.proofs.lemmas.Grind.{flat_map-append}
use Rattle.std.proofs.lemmas.List.Elements.{All-head, All-tail}
use Rattle.std.proofs.lemmas.List.Folds.{list_all-append}
use Rattle.std.specs.List.{All, flat_map, list_all}
use Rattle.ps_world.specs.DomainTexts.{after_spaces, spaced, timed_text}
use Rattle.ps_world.specs.Lines.{lengthened, line_end}
use Rattle.ps_text.specs.Words.{words, goes_on, is_run_byte}
use Rattle.ps_text.proofs.WordSteps.{words-alone, words-longer, run_parts}
use Rattle.ps_print.specs.CanonicalWords.{grouped, timed_words}

-- ---- what a text writes

-- these words, where no byte of a longer word follows
pub record Writes (text : List ℕ) (ws : List (List ℕ)) : Type 0 where
  pub writes : (rest : List ℕ) → goes_on rest ≡ false → words (text ++ rest) ≡ ws ++ words rest

-- these words, whatever follows
pub record Whole (text : List ℕ) (ws : List (List ℕ)) : Type 0 where
  pub whole : (rest : List ℕ) → words (text ++ rest) ≡ ws ++ words rest

-- these words, and it makes no word before it longer, where no byte of a longer word follows
pub record Later (text : List ℕ) (ws : List (List ℕ)) : Type 0 where
  pub writes : (rest : List ℕ) → goes_on rest ≡ false → words (text ++ rest) ≡ ws ++ words rest
  pub apart : (rest : List ℕ) → goes_on rest ≡ false → goes_on (text ++ rest) ≡ false

-- these words, and it makes no word before it longer, whatever follows
pub record Ending (text : List ℕ) (ws : List (List ℕ)) : Type 0 where
  pub whole : (rest : List ℕ) → words (text ++ rest) ≡ ws ++ words rest
  pub apart : (rest : List ℕ) → goes_on (text ++ rest) ≡ false

-- ---- one after another

join : (t u rest : List ℕ) (ws us : List (List ℕ)) → words (t ++ (u ++ rest)) ≡ ws ++ words (u ++ rest) → words (u ++ rest) ≡ us ++ words rest → words ((t ++ u) ++ rest) ≡ (ws ++ us) ++ words rest
join t u rest ws us p q = ap words (append_assoc t u rest) ∙ p ∙ ap (λ l. ws ++ l) q ∙ sym (append_assoc ws us (words rest))

apart-join : (t u rest : List ℕ) → goes_on (t ++ (u ++ rest)) ≡ false → goes_on ((t ++ u) ++ rest) ≡ false
apart-join t u rest h = ap goes_on (append_assoc t u rest) ∙ h

module _ {t u : List ℕ} {ws us : List (List ℕ)} where
  pub whole_whole : Whole t ws → Whole u us → Whole (t ++ u) (ws ++ us)
  whole_whole p q = record { whole = λ rest. join t u rest ws us (p.whole (u ++ rest)) (q.whole rest) }

  pub whole_writes : Whole t ws → Writes u us → Writes (t ++ u) (ws ++ us)
  whole_writes p q = record { writes = λ rest h. join t u rest ws us (p.whole (u ++ rest)) (q.writes rest h) }

  pub writes_later : Writes t ws → Later u us → Writes (t ++ u) (ws ++ us)
  writes_later p q = record { writes = λ rest h. join t u rest ws us (p.writes (u ++ rest) (q.apart rest h)) (q.writes rest h) }

  pub writes_ending : Writes t ws → Ending u us → Whole (t ++ u) (ws ++ us)
  writes_ending p q = record { whole = λ rest. join t u rest ws us (p.writes (u ++ rest) (q.apart rest)) (q.whole rest) }

  pub later_later : Later t ws → Later u us → Later (t ++ u) (ws ++ us)
  later_later p q =
      record {
        writes = λ rest h. join t u rest ws us (p.writes (u ++ rest) (q.apart rest h)) (q.writes rest h);
        apart = λ rest h. apart-join t u rest (p.apart (u ++ rest) (q.apart rest h));
      }

  pub later_ending : Later t ws → Ending u us → Ending (t ++ u) (ws ++ us)
  later_ending p q =
      record {
        whole = λ rest. join t u rest ws us (p.writes (u ++ rest) (q.apart rest)) (q.whole rest);
        apart = λ rest. apart-join t u rest (p.apart (u ++ rest) (q.apart rest));
      }

module _ {t : List ℕ} {ws : List (List ℕ)} where
  pub writes_of : Whole t ws → Writes t ws
  writes_of p = record { writes = λ rest h. p.whole rest }

  pub later_of : Ending t ws → Later t ws
  later_of p = record { writes = λ rest h. p.whole rest; apart = λ rest h. p.apart rest }

  pub whole_is : {us : List (List ℕ)} → ws ≡ us → Whole t ws → Whole t us
  whole_is e p = record { whole = λ rest. p.whole rest ∙ ap (λ l. l ++ words rest) e }

  -- after a space
  pub later_blank : Writes t ws → Later (codes " " ++ t) ws
  later_blank p = record { writes = λ rest h. p.writes rest h; apart = λ rest h. refl }

  pub ending_blank : Whole t ws → Ending (codes " " ++ t) ws
  ending_blank p = record { whole = λ rest. p.whole rest; apart = λ rest. refl }

  -- before the end of its line
  pub line_whole : Writes t ws → Whole (t ++ line_end) ws
  line_whole p = record { whole = λ rest. ap words (append_assoc t line_end rest) ∙ p.writes (10 ∷ rest) refl }

-- nothing
pub later_none : Later [] []
later_none = record { writes = λ rest h. refl; apart = λ rest h. h }

-- the parentheses
pub open_paren : Whole (codes "(") (codes "(" ∷ [])
open_paren = record { whole = λ rest. refl }

pub close_paren : Ending (codes ")") (codes ")" ∷ [])
close_paren = record { whole = λ rest. refl; apart = λ rest. refl }

-- ---- one word

-- whether a text is one longer word: at least one byte, and no other
abbrev pub is_run : List ℕ → Bool
is_run [] = false
is_run (b ∷ bs) = list_all is_run_byte (b ∷ bs)

words-one : (b : ℕ) (bs rest : List ℕ) → list_all is_run_byte (b ∷ bs) ≡ true → goes_on rest ≡ false → words (b ∷ (bs ++ rest)) ≡ (b ∷ bs) ∷ words rest
words-one b [] rest h e =
    let first = (and_parts (is_run_byte b) true h).0 in
    let parts = run_parts b first in
    words-alone b rest parts.0 (or_parts _ _ parts.1).1 (and_right (is_run_byte b) (goes_on rest) e)
words-one b (c ∷ cs) rest h e =
    let all = and_parts (is_run_byte b) (list_all is_run_byte (c ∷ cs)) h in
    let second = (and_parts (is_run_byte c) (list_all is_run_byte cs) all.1).0 in
    let parts = run_parts b all.0 in
    words-longer b (c ∷ (cs ++ rest)) parts.0 (or_parts _ _ parts.1).1 (and_from (is_run_byte b) (is_run_byte c) all.0 second)
    ∙ ap (lengthened b) (words-one c cs rest all.1 e)

pub one_word : (text : List ℕ) → is_run text ≡ true → Writes text (text ∷ [])
one_word [] h = absurd (cc)
one_word (b ∷ bs) h = record { writes = λ rest e. words-one b bs rest h e }

pub list_all-is_run : (text : List ℕ) → is_run text ≡ true → list_all is_run_byte text ≡ true
list_all-is_run [] h = refl
list_all-is_run (b ∷ bs) h = h

pub is_run-append : (xs ys : List ℕ) → list_all is_run_byte xs ≡ true → is_run ys ≡ true → is_run (xs ++ ys) ≡ true
is_run-append [] ys h k = k
is_run-append (x ∷ xs) ys h k = list_all-append is_run_byte (x ∷ xs) ys ∙ and_from (list_all is_run_byte (x ∷ xs)) (list_all is_run_byte ys) h (list_all-is_run ys k)

-- ---- several, where the text of each writes its words

module _ {X : Type 0} (P : X → Type 0) (f : X → List ℕ) (g : X → List (List ℕ)) (each : (x : X) → P x → Writes (f x) (g x)) where
  pub each_after_space : (xs : List X) → All P xs → Later (after_spaces (map f xs)) (flat_map g xs)
  each_after_space [] h = later_none
  each_after_space (x ∷ xs) h = later_later (later_blank (each x (All-head P x xs h))) (each_after_space xs (All-tail P x xs h))

  pub each_spaced : (xs : List X) → All P xs → Writes (spaced (map f xs)) (flat_map g xs)
  each_spaced [] h = record { writes = λ rest e. refl }
  each_spaced (x ∷ xs) h = writes_later (each x (All-head P x xs h)) (each_after_space xs (All-tail P x xs h))

  pub each_timed : (time : List ℕ) (ts : List (List ℕ)) → Writes time ts → (xs : List X) → All P xs → Later (timed_text time (map f xs)) (timed_words ts (map g xs))
  each_timed time ts w [] h = later_none
  each_timed time ts w (x ∷ xs) h =
      let part : Whole (f x ++ codes ")") (g x ++ codes ")" ∷ []) = writes_ending (each x (All-head P x xs h)) close_paren in
      let inner : Whole (codes "(" ++ (time ++ (codes " " ++ (f x ++ codes ")")))) (codes "(" ∷ (ts ++ (g x ++ codes ")" ∷ []))) = whole_whole open_paren (writes_ending w (ending_blank part)) in
      let same : codes "(" ∷ (ts ++ (g x ++ codes ")" ∷ [])) ≡ grouped (ts ++ g x) = ap (λ l. codes "(" ∷ l) (sym (append_assoc ts (g x) (codes ")" ∷ []))) in
      later_later (later_of (ending_blank (whole_is same inner))) (each_timed time ts w xs (All-tail P x xs h))

-- ---- lines

-- lines, each with its end
abbrev pub ended : List (List ℕ) → List ℕ
ended lines = flat_map (λ line. line ++ line_end) lines

-- these lines write these words, whatever follows
pub record Lines (lines : List (List ℕ)) (ws : List (List ℕ)) : Type 0 where
  pub written : Whole (ended lines) ws

pub no_lines : Lines [] []
no_lines = record { written = record { whole = λ rest. refl } }

pub line_lines : {line : List ℕ} {lines : List (List ℕ)} {ws us : List (List ℕ)} → Writes line ws → Lines lines us → Lines (line ∷ lines) (ws ++ us)
line_lines p q = record { written = whole_whole (line_whole p) q.written }

pub one_line : {line : List ℕ} {ws : List (List ℕ)} → Writes line ws → Lines (line ∷ []) ws
one_line {line} {ws} p = record { written = whole_is (append-nil ws) (whole_whole (line_whole p) no_lines.written) }

pub lines_lines : {first second : List (List ℕ)} {ws us : List (List ℕ)} → Lines first ws → Lines second us → Lines (first ++ second) (ws ++ us)
lines_lines {first} {second} p q =
    let both = whole_whole p.written q.written in
    record { written = record { whole = λ rest. ap (λ t. words (t ++ rest)) (flat_map-append (λ line. line ++ line_end) first second) ∙ both.whole rest } }

-- a text that ends with its last word
pub words-whole : {text : List ℕ} {ws : List (List ℕ)} → Whole text ws → words text ≡ ws
words-whole {text} {ws} p = ap words (sym (append-nil text)) ∙ p.whole [] ∙ append-nil ws
