-- A text all of whose words have a class has tokens.
use Rattle.std.proofs.Common.{◌≡◌, ℕ, zero, suc, ◌+◌, ◌≤◌, ◌==◌, List, [], ◌∷◌, ◌++◌, length, drop, get_or, slice_range, Option, Some, None, IsSome, All, refl, ap, subst, inl, inr, arith}
use Rattle.std.proofs.lemmas.Bool.{cases_Bool, cases_lt}
use Rattle.std.proofs.lemmas.List.{length-drop}
use Rattle.std.specs.List.{position_or_len}
use Rattle.ps_text.specs.declared.lexing.Class.{Class}
use Rattle.ps_text.specs.declared.lexing.Token.{Token}
use Rattle.ps_text.specs.declared.spans.Span.{Span}
use Rattle.ps_text.specs.Words.{words, is_blank, is_paren}
use Rattle.ps_text.specs.Tokens.{class_of, IsGap, IsNextWord, AreTokens}
use Rattle.ps_text.specs.Laws.{TextsHaveTokens}
use Rattle.ps_text.proofs.Counts.{count-is}
use Rattle.ps_text.proofs.Cuts.{IsGap-blank, IsGap-comment, IsGap-join, IsFirstWord-paren, IsFirstWord-run}
use Rattle.ps_text.proofs.Pieces.{is_lf, first-le}
use Rattle.ps_text.proofs.TokenSteps.{Lexed, Lexed-none, Lexed-more, Lexed-all, IsWordAt-next}
use Rattle.ps_text.proofs.WordPlaces.{number, count-word, word-is}
use Rattle.ps_text.proofs.WordSteps.{is_other}

-- what stands in a text from a place on: no word, or a next word
data Next (bytes : List ℕ) (from : ℕ) : Type 0 where
  no_word : IsGap bytes from (length bytes) → Next bytes from
  next_word : (s : Span) → IsNextWord bytes from s → Next bytes from

class_in : (o : Option Class) → IsSome o → (c : Class) × (o ≡ Some c)
class_in None some = absurd (cc)
class_in (Some c) some = (c, refl)

module _ (bytes : List ℕ) where
  -- a gap changes nothing of what comes after it
  next-gap : (from middle : ℕ) → from ≤ middle → middle ≤ length bytes → IsGap bytes from middle → Next bytes middle → Next bytes from
  next-gap from middle h l gap (no_word rest) = no_word (IsGap-join bytes from middle (length bytes) l gap rest)
  next-gap from middle h l gap (next_word s next) =
      let later = next.later in
      next_word s (record { later = omega arith; longer = next.longer; within = next.within; gap = IsGap-join bytes from middle s.from later gap next.gap; word = next.word })

  gap_at_end : (from : ℕ) → from ≡ length bytes → IsGap bytes from (length bytes)
  gap_at_end from e = λ end l. ap (λ n. words (slice_range bytes n end)) e

  -- from each place on stands no word, or a next word
  next_of : (room from : ℕ) → from ≤ length bytes → length bytes ≤ from + room → Next bytes from
  next_of zero from h l = no_word (gap_at_end from (omega arith))
  next_of (suc room) from h l =
      elim (cases_lt from (length bytes)) [
        | inr after ↦ no_word (gap_at_end from (omega arith))
        | inl inside ↦ elim (cases_Bool (is_blank (get_or bytes from 0))) [
          | inl blank ↦ next-gap from (from + 1) (omega arith) (omega arith) (IsGap-blank bytes from inside blank) (next_of room (from + 1) (omega arith) (omega arith))
          | inr black ↦ elim (cases_Bool (get_or bytes from 0 == 59)) [
            | inl comment ↦
                let to : ℕ = from + 1 + position_or_len is_lf (drop (from + 1) bytes) in
                let within : to ≤ length bytes = omega (arith, first-le is_lf (drop (from + 1) bytes), length-drop (from + 1) bytes) in
                next-gap from to (omega arith) within (IsGap-comment bytes from inside to comment refl) (next_of room to within (omega arith))
            | inr no_comment ↦ elim (cases_Bool (is_paren (get_or bytes from 0))) [
              | inl paren ↦ next_word (record { from = from; to = from + 1 }) (record { later = omega arith; longer = omega arith; within = omega arith; gap = λ end l. refl; word = IsFirstWord-paren bytes from inside black no_comment paren })
              | inr other ↦
                  let to : ℕ = from + 1 + position_or_len is_other (drop (from + 1) bytes) in
                  let within : to ≤ length bytes = omega (arith, first-le is_other (drop (from + 1) bytes), length-drop (from + 1) bytes) in
                  next_word (record { from = from; to = to }) (record { later = omega arith; longer = omega arith; within = within; gap = λ end l. refl; word = IsFirstWord-run bytes from inside black no_comment to other refl })
            ]
          ]
        ]
      ]

  module _ (all : All (λ word. IsSome (class_of word)) (words bytes)) where
    -- the next word has a class
    class_of-next : (tokens : List Token) (from : ℕ) (s : Span) → Lexed bytes tokens from → IsNextWord bytes from s → (c : Class) × (class_of (slice_range bytes s.from s.to) ≡ Some c)
    class_of-next tokens from s lexed next =
        let at = IsWordAt-next bytes tokens from s lexed next in
        let some = all (number bytes s.from) [] (omega (arith, count-is bytes, count-word bytes s.from s.to at)) in
        class_in (class_of (slice_range bytes s.from s.to)) (subst (λ w. IsSome (class_of w)) (word-is bytes s.from s.to at []) some)

    -- tokens up to a place go on to the end
    tokens_from : (room : ℕ) (tokens : List Token) (from : ℕ) → Lexed bytes tokens from → length bytes ≤ from + room → Next bytes from → (ts : List Token) × AreTokens bytes ts
    tokens_from room tokens from lexed h (no_word gap) = (tokens, Lexed-all bytes tokens from lexed gap)
    tokens_from zero tokens from lexed h (next_word s next) = (let later = next.later in let longer = next.longer in let within = next.within in absurd (omega arith))
    tokens_from (suc room) tokens from lexed h (next_word s next) =
        let later = next.later in
        let longer = next.longer in
        let class = class_of-next tokens from s lexed next in
        let token : Token = record { class = class.0; from = s.from; to = s.to } in
        let more = Lexed-more bytes tokens from s lexed next class.0 class.1 (tokens ++ token ∷ []) refl in
        tokens_from room (tokens ++ token ∷ []) s.to more (omega arith) (next_of (length bytes) s.to next.within (omega arith))

pub texts_have_tokens : TextsHaveTokens
texts_have_tokens bytes all = tokens_from bytes all (length bytes) [] 0 (Lexed-none bytes) (omega arith) (next_of bytes (length bytes) 0 (omega arith) (omega arith))
