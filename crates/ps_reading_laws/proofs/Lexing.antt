-- Each text has tokens, or a first word without a class.
use Rattle.std.proofs.Common.{◌≡◌, ◌⊎◌, ℕ, zero, suc, ◌+◌, ◌<◌, ◌≤◌, ◌==◌, List, [], ◌∷◌, ◌++◌, map, length, drop, get_or, slice_range, None, Err, refl, ◌∙◌, ap, inl, inr, arith}
use Rattle.std.proofs.lemmas.Bool.{cases_Bool, cases_lt}
use Rattle.std.proofs.lemmas.List.{length-drop}
use Rattle.std.specs.List.{position_or_len}
use Rattle.std.specs.Option.{ok_or}
use Rattle.ps_text.specs.declared.lexing.LexRefusal.{LexRefusal}
use Rattle.ps_text.specs.declared.lexing.Token.{Token}
use Rattle.ps_text.specs.declared.spans.Span.{Span}
use Rattle.ps_text.specs.Words.{is_blank, is_paren, pieces, words}
use Rattle.ps_text.specs.Tokens.{AreTokens, IsGap, IsNextWord, RefusesText, class_at, class_of, fault_of_word, span_of}
use Rattle.ps_text.proofs.Cuts.{IsFirstWord-paren, IsFirstWord-run, IsGap-blank, IsGap-comment}
use Rattle.ps_text.proofs.Pieces.{first-le, is_lf}
use Rattle.ps_text.proofs.TokenSteps.{IsFirstFault-next, Lexed, Lexed-all, Lexed-more, Lexed-none, RefusesText-from}
use Rattle.ps_text.proofs.WordSteps.{is_other}
use Rattle.ps_reading_laws.proofs.Cases.{found}

-- a text has tokens, or a first word without a class
abbrev pub IsLexed : List ℕ → Type 0
IsLexed bytes = ((ts : List Token) × AreTokens bytes ts) ⊎ ((fault : LexRefusal) × RefusesText fault bytes)

module _ (bytes : List ℕ) where
  -- tokens up to a place go on, where so many bytes are left at most
  abbrev GoesOn : ℕ → Type 0
  GoesOn room = (tokens : List Token) (from : ℕ) → Lexed bytes tokens from → length bytes ≤ from + room → IsLexed bytes

  at_end : (tokens : List Token) (from : ℕ) → Lexed bytes tokens from → length bytes ≤ from → IsLexed bytes
  at_end tokens from lexed past =
      let place : from ≤ length bytes = lexed.place in
      let same : from ≡ length bytes = omega arith in
      inl (tokens, Lexed-all bytes tokens from lexed (λ end l. ap (λ n. words (slice_range bytes n end)) same))

  -- a gap has no tokens
  over_gap : (tokens : List Token) (from middle : ℕ) → from ≤ middle → middle ≤ length bytes → IsGap bytes from middle → Lexed bytes tokens from → Lexed bytes tokens middle
  over_gap tokens from middle h l gap lexed = record {
    place = l;
    parts = λ end k. lexed.parts end (omega arith) ∙ ap (λ ws. pieces bytes (map span_of tokens) ++ ws) (gap end k);
    classed = lexed.classed;
    placed = lexed.placed;
    in_order = lexed.in_order;
    ended = λ k d b. (let before : (get_or tokens k d).to ≤ from = lexed.ended k d b in omega arith);
  }

  -- a word without a class is the first fault
  classless : (tokens : List Token) (from : ℕ) (s : Span) → Lexed bytes tokens from → IsNextWord bytes from s → class_of (slice_range bytes s.from s.to) ≡ None → IsLexed bytes
  classless tokens from s lexed next none =
      let word : List ℕ = slice_range bytes s.from s.to in
      let fault : LexRefusal = fault_of_word s.from word in
      let here : class_at s.from word ≡ Err fault = ap (λ o. ok_or o fault) none in
      inr (fault, RefusesText-from bytes s.from word fault here (IsFirstFault-next bytes tokens from s lexed next fault here))

  -- a word with a class is one token more
  one_word : (room : ℕ) (tokens : List Token) (from : ℕ) (s : Span) → Lexed bytes tokens from → length bytes ≤ from + suc room → IsNextWord bytes from s → GoesOn room → IsLexed bytes
  one_word room tokens from s lexed h next on =
      elim (found (class_of (slice_range bytes s.from s.to))) [
        | inr none ↦ classless tokens from s lexed next none
        | inl class ↦
            let later : from ≤ s.from = next.later in
            let longer : s.from < s.to = next.longer in
            let token : Token = record { class = class.0; from = s.from; to = s.to } in
            on (tokens ++ token ∷ []) s.to (Lexed-more bytes tokens from s lexed next class.0 class.1 (tokens ++ token ∷ []) refl) (omega arith)
      ]

  goes_on : (room : ℕ) → GoesOn room
  goes_on zero tokens from lexed h = at_end tokens from lexed (omega arith)
  goes_on (suc room) tokens from lexed h =
      elim (cases_lt from (length bytes)) [
        | inr past ↦ at_end tokens from lexed past
        | inl inside ↦ elim (cases_Bool (is_blank (get_or bytes from 0))) [
          | inl blank ↦ goes_on room tokens (from + 1) (over_gap tokens from (from + 1) (omega arith) (omega arith) (IsGap-blank bytes from inside blank) lexed) (omega arith)
          | inr black ↦ elim (cases_Bool (get_or bytes from 0 == 59)) [
            | inl comment ↦
                let to : ℕ = from + 1 + position_or_len is_lf (drop (from + 1) bytes) in
                let within : to ≤ length bytes = omega (arith, first-le is_lf (drop (from + 1) bytes), length-drop (from + 1) bytes) in
                goes_on room tokens to (over_gap tokens from to (omega arith) within (IsGap-comment bytes from inside to comment refl) lexed) (omega arith)
            | inr no_comment ↦ elim (cases_Bool (is_paren (get_or bytes from 0))) [
              | inl paren ↦ one_word room tokens from (record { from = from; to = from + 1 }) lexed h (record { later = omega arith; longer = omega arith; within = omega arith; gap = λ end l. refl; word = IsFirstWord-paren bytes from inside black no_comment paren }) (goes_on room)
              | inr other ↦
                  let to : ℕ = from + 1 + position_or_len is_other (drop (from + 1) bytes) in
                  let within : to ≤ length bytes = omega (arith, first-le is_other (drop (from + 1) bytes), length-drop (from + 1) bytes) in
                  one_word room tokens from (record { from = from; to = to }) lexed h (record { later = omega arith; longer = omega arith; within = within; gap = λ end l. refl; word = IsFirstWord-run bytes from inside black no_comment to other refl }) (goes_on room)
            ]
          ]
        ]
      ]

-- each text has tokens, or a first word without a class
pub lexed : (bytes : List ℕ) → IsLexed bytes
lexed bytes = goes_on bytes (length bytes) [] 0 (Lexed-none bytes) (omega arith)
